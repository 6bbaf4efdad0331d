-- What the program does at a position of a solution.
use Rattle.std.specs.Prelude.{◌≡◌, ℕ, ◌+◌, ◌*◌, ◌<◌, ◌≤◌, List, Bool, length, Some, None, Ok, Err, Option, Result}
use Rattle.game.specs.Tree.{Tree, rank, moves, next, words}
use Rattle.table.specs.Storings.{Storing}
use Rattle.solution_laws.specs.Words.{word}
use Rattle.solution_laws.specs.Solution.{AllTried, best, wins, Part, Solves}
use Rattle.solution.specs.declared.page.Page.{Page}
use Rattle.solution.specs.declared.stop.Stop.{Stop}
use Rattle.solution.specs.Stops.{end_word}
use Rattle.solution.specs.Attempts.{most, Adds}
use Rattle.solution.specs.Pages.{room, Written, Writes}

-- At a position whose moves have this ply: the plies still to come have two digits, and what the trials so far cost fits its word.
pub record Ready (k : ℕ) (t : Tree) (page : Page) (n : ℕ) : Type 0 where
  pub ply : k + rank t ≤ 33
  pub sum : n ≤ most * page.lines

-- a part of a solution is made, and its lines are written; its cost is added to the sum
pub record Followed (S : Storing) (b k : ℕ) (i : Option ℕ) (t : Tree) (standing : S.Standing) (page : Page) (n : ℕ) (r : Result (Unit {0}) Stop) (standing' : S.Standing) (page' : Page) (n' : ℕ) : Type 0 where
  pub part : Part
  pub solves : Solves S b k i t standing (room page) part standing'
  pub ending : word part.ending ≡ end_word r
  pub sum : n' ≡ n + part.sum
  pub written : Written part.lines page page'
  pub fits : length part.lines ≤ room page
  pub bound : part.sum ≤ most * (length part.lines + 1)

-- the attacker's lines at a position are written, with the move of number j for the one that is followed
pub record Attacked (S : Storing) (b k : ℕ) (i : Option ℕ) (t : Tree) (standing : S.Standing) (page : Page) (n j : ℕ) (standing' : S.Standing) (page' : Page) (n' : ℕ) : Type 0 where
  pub flags : List Bool
  pub tried : Adds (λ c. AllTried S b standing (moves t) flags c standing') n n'
  pub chosen : best i flags ≡ Some j
  pub number : j < length (next t)
  pub writes : Writes (wins k j flags (words t)) page (Ok tt) page'

-- the attacker's lines are written, or the part ends here
abbrev pub Attacks : (S : Storing) → ℕ → ℕ → Option ℕ → Tree → S.Standing → Page → ℕ → Result (Option ℕ) Stop → S.Standing → Page → ℕ → Type 0
Attacks S b k i t standing page n (Ok (Some j)) standing' page' n' = Attacked S b k i t standing page n j standing' page' n'
Attacks S b k i t standing page n (Ok None) standing' page' n' = Followed S b k i t standing page n (Ok tt) standing' page' n'
Attacks S b k i t standing page n (Err stop) standing' page' n' = Followed S b k i t standing page n (Err stop) standing' page' n'
