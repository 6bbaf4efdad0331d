-- Trials of all moves.
use Rattle.std.specs.Prelude.{◌≡◌, ℕ, ◌+◌, ◌*◌, ◌≤◌, Bool, List, Ok, Err, Result, codes}
use Rattle.game.specs.Tree.{Moves}
use Rattle.search_laws.specs.declared.answer.Verdict.{Verdict}
use Rattle.table.specs.Storings.{Storing}
use Rattle.game.specs.Limits.{records_needed}
use Rattle.search_laws.specs.Calls.{budget_limit}
use Rattle.search_laws.specs.Words.{word, value_word}
use Rattle.solution_laws.specs.Solution as solution
use Rattle.solution_laws.specs.Solution.{AllTried}
use Rattle.solution.specs.declared.stop.Stop.{Stop}
use Rattle.solution.specs.Stops.{stop_word}

-- what as many trials as a position can have moves cost at most
abbrev pub most : ℕ
most = records_needed * budget_limit

-- a verdict is taken as a value, or, where it is spent, as a stop
abbrev pub Valued : Verdict → Result Bool Stop → Type 0
Valued v (Ok w) = word v ≡ value_word w
Valued v (Err stop) = (word v ≡ codes "spent") × (stop_word stop ≡ codes "spent")

-- a cost of which P holds is added to a sum
pub record Adds (P : ℕ → Type 0) (n n' : ℕ) : Type 0 where
  pub cost : ℕ
  pub sum : n' ≡ n + cost
  pub bound : cost ≤ most
  pub holds : P cost

-- all moves are tried, or a trial is spent
abbrev pub Attempted : (S : Storing) → ℕ → S.Standing → Moves → List Bool → ℕ → Result (Unit {0}) Stop → S.Standing → ℕ → Type 0
Attempted S b standing m ws n (Ok u) standing' n' = Adds (λ k. AllTried S b standing m ws k standing') n n'
Attempted S b standing m ws n (Err stop) standing' n' = (stop_word stop ≡ codes "spent") × Adds (λ k. solution.Stops S b standing m k standing') n n'
