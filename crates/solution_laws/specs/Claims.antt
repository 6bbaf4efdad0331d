-- What holds of solutions.
use Rattle.std.specs.Prelude.{◌≡◌, ℕ, zero, suc, ◌-◌, ◌<◌, true, cond, ◌&&◌, List, [], ◌∷◌, ◌++◌, length, Some, None, Option, ◌==◌, codes, slice_index_or}
use Rattle.std.specs.List.{AllByRecursion}
use Rattle.std.specs.Str.{bytes_eq}
use Rattle.game.specs.declared.state.State.TheVariants.{Attacker}
use Rattle.game.specs.Tree.{Tree, Moves, none, move, nowhere, state, moves, next, words, minimax}
use Rattle.table.specs.Pairs.{Shown}
use Rattle.table.specs.Storings.{Storing}
use Rattle.search_laws.specs.Trial.{need, share}
use Rattle.search_laws.specs.Claims.{Sound}
use Rattle.solution_laws.specs.Lines.{Line, Fits, attacks, leads}
use Rattle.solution_laws.specs.Solution.{Solution, Part}
use Rattle.solution_laws.specs.Words.{word}

-- the position that the move with a text leads to
abbrev pub by_text : List ℕ → Moves → Option Tree
by_text x none = None
by_text x (move y t m) = cond (bytes_eq x y) (Some t) (by_text x m)

-- the text of the last line with `!` or `.` of a ply
abbrev pub or_else : {A : Type 0} → Option A → Option A → Option A
or_else (Some a) o = Some a
or_else None o = o

abbrev pub last_at : ℕ → List Line → Option (List ℕ)
last_at k [] = None
last_at k (l ∷ ls) = or_else (last_at k ls) (cond (l.ply == k && leads l.sign) (Some l.text) None)

-- the position that a move with a text leads to from a position, if there are such
abbrev pub step : Option Tree → Option (List ℕ) → Option Tree
step None o = None
step (Some t) None = None
step (Some t) (Some x) = by_text x (moves t)

-- The position that the last `!` or `.` line above of each ply up to n, in turn, reaches from the start.
abbrev pub reached : Tree → List Line → ℕ → Option Tree
reached start above zero = Some start
reached start above (suc n) = step (reached start above n) (last_at (suc n) above)

-- a line is for a winning move: in the position that the lines above of each lower ply reach, the move with its text leads to a won position
abbrev pub ForAWin : Tree → List Line → Line → Type 0
ForAWin start above l =
    (t : Tree) × (u : Tree) × (reached start above (l.ply - 1) ≡ Some t) × (by_text l.text (moves t) ≡ Some u) × (minimax u ≡ true)

-- Every attacker's line is for a winning move.
abbrev pub AttacksWin : Tree → List Line → Type 0
AttacksWin start lines =
    (above : List Line) (l : Line) (below : List Line) → lines ≡ above ++ (l ∷ below) → attacks l.sign ≡ true → ForAWin start above l

-- Every key, a move of the start to a won position, has a line.
abbrev pub KeysHaveLines : Tree → List Line → Type 0
KeysHaveLines start lines =
    (i : ℕ) → i < length (next start) → minimax (slice_index_or (next start) i nowhere) ≡ true →
    (above : List Line) × (l : Line) × (below : List Line) × (lines ≡ above ++ (l ∷ below))
    × (l.ply ≡ 1) × (attacks l.sign ≡ true) × (l.text ≡ slice_index_or (words start) i [])

-- What is right of a solution: the table then shows no false decided pair, its attacker's lines are for moves that win, and if it is done each
-- key has a line. So is every solution from where a table shows no false decided pair.
pub record SolutionIsRight (positions : Tree → Type 0) (t : Tree) (p : Part) (shown : Shown) : Type 0 where
  pub sound : Sound positions shown
  pub attacks_win : AttacksWin t p.lines
  pub keys_have_lines : word p.ending ≡ codes "done" → KeysHaveLines t p.lines

abbrev pub SolutionsAreRight : (Tree → Type 0) → Storing → Type 0
SolutionsAreRight positions S =
    (standing : S.Standing) (t : Tree) (b i room : ℕ) (p : Part) (standing' : S.Standing) → Sound positions (S.shows standing) → positions t → state t ≡ Attacker →
    Solution S b i t standing room p standing' → SolutionIsRight positions t p (S.shows standing')

-- the positions that follow on a position, after one move or more
pub data Follows (t : Tree) : Tree → Type 0 where
  at_once : (i : ℕ) → i < length (next t) → Follows t (slice_index_or (next t) i nowhere)
  further : {u : Tree} → Follows t u → (i : ℕ) → i < length (next u) → Follows t (slice_index_or (next u) i nowhere)

-- A solution says spent only where some position that follows on its start needs more than the share.
abbrev pub SpentIsMeant : Storing → Type 0
SpentIsMeant S =
    (standing : S.Standing) (t : Tree) (b i room : ℕ) (p : Part) (standing' : S.Standing) → Solution S b i t standing room p standing' →
    word p.ending ≡ codes "spent" → (u : Tree) × Follows t u × (share b < need u)

-- A solution has one part, and one standing of the table after it.
abbrev pub SolutionsAgree : Storing → Type 0
SolutionsAgree S =
    (standing : S.Standing) (t : Tree) (b i room : ℕ) (p p' : Part) (standing' standing'' : S.Standing) →
    Solution S b i t standing room p standing' → Solution S b i t standing room p' standing'' → (p ≡ p') × (standing' ≡ standing'')

-- Every solution comes to an end.
abbrev pub SolutionsEnd : Storing → Type 0
SolutionsEnd S =
    (standing : S.Standing) (t : Tree) (b i room : ℕ) → (p : Part) × (standing' : S.Standing) × Solution S b i t standing room p standing'

-- Each line of a solution has eight bytes.
abbrev pub SolutionsFit : (Tree → Type 0) → Storing → Type 0
SolutionsFit positions S =
    (standing : S.Standing) (t : Tree) (b i room : ℕ) (p : Part) (standing' : S.Standing) → positions t → Solution S b i t standing room p standing' →
    AllByRecursion Fits p.lines
