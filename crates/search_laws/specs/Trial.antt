-- A trial: what is known already, then a proof-number run with half of the budget, then a plain search with the rest.
use Rattle.std.specs.Prelude.{◌≡◌, ℕ, suc, ◌+◌, ◌-◌, ◌/◌, ◌<◌, ◌≤◌, Bool, true, false, cond, ◌&&◌, Some, None, Option, codes, ◌==◌}
use Rattle.game.specs.declared.state.State.{State}
use Rattle.game.specs.declared.state.State.TheVariants.{Won, NotWon, Attacker, Defender}
use Rattle.game.specs.Tree.{Tree, Moves, node, none, move, state, code, minimax}
use Rattle.table.specs.declared.pair.Pair.{Pair}
use Rattle.table.specs.Pairs.{Shown, won, not_won}
use Rattle.table.specs.Storings.{Storing}
use Rattle.search_laws.specs.declared.answer.Verdict.{Verdict}
use Rattle.search_laws.specs.declared.answer.Answer.{Answer}
use Rattle.search_laws.specs.Run.{stopped, gave, Enters, tops}
use Rattle.search_laws.specs.Words.{word, value_word}

-- the pair of a value
abbrev pub pair_of : Bool → Pair
pair_of true = won
pair_of false = not_won

-- the value of a decided pair
abbrev pub same : Pair → Pair → Bool
same p q = p.proof == q.proof && p.disproof == q.disproof

abbrev pub decided : Pair → Option Bool
decided p = cond (same p won) (Some true) (cond (same p not_won) (Some false) None)

abbrev pub decided_in : Option Pair → Option Bool
decided_in (Some p) = decided p
decided_in None = None

-- the value that needs no search: of an ended position, or one whose decided pair the table shows
abbrev pub known_as : State → Option Pair → Option Bool
known_as Won o = Some true
known_as NotWon o = Some false
known_as Attacker o = decided_in o
known_as Defender o = decided_in o

abbrev pub known : Shown → Tree → Option Bool
known shown t = known_as (state t) (shown (code t))

-- The entries that the plain search needs: none if the position has ended, else 1 and what the successors need, in move order, up to
-- the first that decides: a won one for the attacker, one not won for the defender.
unfoldable mutual
  pub need : Tree → ℕ
  need (node Won r c m) = 0
  need (node NotWon r c m) = 0
  need (node Attacker r c m) = suc (until_won m)
  need (node Defender r c m) = suc (until_not_won m)

  pub until_won : Moves → ℕ
  until_won none = 0
  until_won (move x t m) = need t + cond (minimax t) 0 (until_won m)

  pub until_not_won : Moves → ℕ
  until_not_won none = 0
  until_not_won (move x t m) = need t + cond (minimax t) (until_not_won m) 0

abbrev pub half : ℕ → ℕ
half b = b / 2

abbrev pub share : ℕ → ℕ
share b = b - b / 2

-- A trial on a position, from where a table stands, with a budget: its answer, whose verdict is known by its word, and where the table then
-- stands.
pub data Trial (S : Storing) (standing : S.Standing) (t : Tree) (b : ℕ) : Answer → S.Standing → Type 0 where
  at_once : {v : Verdict} {w : Bool} → known (S.shows standing) t ≡ Some w → word v ≡ value_word w →
      Trial S standing t b (record { verdict = v; expansions = 0; entries = 0 }) standing
  by_the_run : {v : Verdict} {w : Bool} {standing' : S.Standing} {left : ℕ} {p : Pair} → known (S.shows standing) t ≡ None →
      Enters S standing (half b) t tops (gave standing' left p) → decided p ≡ Some w → word v ≡ value_word w →
      Trial S standing t b (record { verdict = v; expansions = half b - left; entries = 0 }) standing'
  by_the_search : {v : Verdict} {standing' : S.Standing} → known (S.shows standing) t ≡ None →
      Enters S standing (half b) t tops (stopped standing') → need t ≤ share b → word v ≡ value_word (minimax t) →
      Trial S standing t b (record { verdict = v; expansions = half b; entries = need t })
      (S.stored standing' (code t) (pair_of (minimax t)))
  spent : {v : Verdict} {standing' : S.Standing} → known (S.shows standing) t ≡ None →
      Enters S standing (half b) t tops (stopped standing') → share b < need t → word v ≡ codes "spent" →
      Trial S standing t b (record { verdict = v; expansions = half b; entries = share b }) standing'
