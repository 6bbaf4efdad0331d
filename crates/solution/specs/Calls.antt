-- The solution as a call: what is declined, what it answers and leaves, and what an answer means.
use Rattle.std.specs.Prelude.{◌≡◌, ℕ, ◌/◌, ◌%◌, ◌<◌, Bool, true, false, cond, not, ◌||◌, List, length, Some, None, Ok, Err, Option, Result, codes, ◌==◌, nat_le, nat_lt}
use Rattle.game.specs.declared.decline.Decline.{Decline}
use Rattle.game.specs.Declines.{number}
use Rattle.game.specs.declared.state.State.{State}
use Rattle.game.specs.declared.state.State.TheVariants as states
use Rattle.game.specs.Tree.{Tree, state, next}
use Rattle.table.specs.declared.pair.Pair.{Pair}
use Rattle.table.specs.Storings.{Storing}
use Rattle.search_laws.specs.Trial.{need, share}
use Rattle.search_laws.specs.Claims.{Sound}
use Rattle.game.specs.Limits.{records_needed}
use Rattle.search_laws.specs.Calls.{budget_limit}
use Rattle.solution_laws.specs.Lines.{Line, lines_in, written_over, keys, duals}
use Rattle.solution_laws.specs.Solution as solution
use Rattle.solution_laws.specs.Solution.{Part}
use Rattle.solution_laws.specs.Claims.{AttacksWin, KeysHaveLines, Follows}
use Rattle.solution_laws.specs.Words.{word}
use Rattle.solution.specs.declared.answer.Solution.{Solution}
use Rattle.solution.specs.Limits.{buffer_limit}

abbrev pub is_attacker : State → Bool
is_attacker states.Won = false
is_attacker states.NotWon = false
is_attacker states.Attacker = true
is_attacker states.Defender = false

-- the number by which a solution is declined, if it is, in the order of checking: given its position, the intended move, the budget, how
-- many records are lent, and the buffer's length
abbrev pub declined : Tree → ℕ → ℕ → ℕ → ℕ → Option ℕ
declined t i b n l =
    cond (nat_lt budget_limit b) (Some 1)
    (cond (nat_lt n records_needed) (Some 2)
    (cond (not (l % 8 == 0) || nat_lt buffer_limit l) (Some 3)
    (cond (not (is_attacker (state t))) (Some 4)
    (cond (nat_le (length (next t)) i) (Some 5) None))))

-- A solution is made and answered: as many lines fit as the buffer has places of eight bytes, and it has the lines and then what it had.
pub record Solved (S : Storing) (standing : S.Standing) (t : Tree) (i b : ℕ) (buffer : List ℕ) (a : Solution) (standing' : S.Standing) (buffer' : List ℕ) : Type 0 where
  pub part : Part
  pub solves : solution.Solution S b i t standing (length buffer / 8) part standing'
  pub ending : word a.ending ≡ word part.ending
  pub lines : a.lines ≡ length part.lines
  pub keys : a.keys ≡ keys part.lines
  pub duals : a.duals ≡ duals part.lines
  pub sum : a.sum ≡ part.sum
  pub shown : buffer' ≡ written_over part.lines buffer

-- A solution's answer, or a decline that changes nothing: neither where the table stands nor the records nor the buffer. After an accepted
-- call the records are as many as before, and may hold any pairs.
abbrev pub Answered : (S : Storing) → S.Standing → Tree → ℕ → ℕ → List Pair → List ℕ → Result Solution Decline → S.Standing → List Pair → List ℕ → Type 0
Answered S standing t i b rs buffer (Ok a) standing' rs' buffer' =
    (declined t i b (length rs) (length buffer) ≡ None) × (length rs' ≡ length rs) × Solved S standing t i b buffer a standing' buffer'
Answered S standing t i b rs buffer (Err d) standing' rs' buffer' =
    (declined t i b (length rs) (length buffer) ≡ Some (number d)) × (standing' ≡ standing) × (rs' ≡ rs) × (buffer' ≡ buffer)

-- What a solution's answer says of its position. Its lines are those that the buffer says, and the counts are of these. Where the
-- table showed no false decided pair, it shows none, every attacker's line is for a move that wins, and if it is done each key has a line.
-- Spent is said only where some position that follows on its start needs more than the share.
pub record Means (positions : Tree → Type 0) (S : Storing) (standing : S.Standing) (t : Tree) (b : ℕ) (a : Solution) (standing' : S.Standing) (buffer' : List ℕ) : Type 0 where
  pub lines : List Line
  pub read : lines_in a.lines buffer' ≡ Some lines
  pub keys : a.keys ≡ keys lines
  pub duals : a.duals ≡ duals lines
  pub sound : Sound positions (S.shows standing) → Sound positions (S.shows standing')
  pub attacks_win : Sound positions (S.shows standing) → AttacksWin t lines
  pub keys_have_lines : Sound positions (S.shows standing) → word a.ending ≡ codes "done" → KeysHaveLines t lines
  pub spent : word a.ending ≡ codes "spent" → (u : Tree) × Follows t u × (share b < need u)

abbrev pub Right : (Tree → Type 0) → (S : Storing) → S.Standing → Tree → ℕ → Result Solution Decline → S.Standing → List ℕ → Type 0
Right positions S standing t b (Ok a) standing' buffer' = Means positions S standing t b a standing' buffer'
Right positions S standing t b (Err d) standing' buffer' = standing' ≡ standing
