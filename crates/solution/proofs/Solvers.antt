-- What stays of a solver over two steps.
use Rattle.std.proofs.Common.{List, ◌∙◌}
use Rattle.game.specs.Tree.{Tree}
use Rattle.solution.specs.declared.solver.Solver.{Solver}
use Rattle.solution.specs.Solvers.{Stays}

pub stays-join : {G T : Type 0} {current : G → Tree} {earlier : G → List Tree} {s s' s'' : Solver G T} → Stays current earlier s s' → Stays current earlier s' s'' → Stays current earlier s s''
stays-join a b = record { at = b.at ∙ a.at; path = b.path ∙ a.path; budget = b.budget ∙ a.budget; game = b.game ∙ a.game; table = b.table ∙ a.table; records = b.records ∙ a.records }
