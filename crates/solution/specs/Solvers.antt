-- What stays of a solver.
use Rattle.std.specs.Prelude.{◌≡◌, List}
use Rattle.game.specs.Tree.{Tree}
use Rattle.solution.specs.declared.solver.Solver.{Solver}

-- the game stands where it stood, after the same path; the budget is the same, and so are the game, the table and the records that are lent
pub record Stays {G T : Type 0} (current : G → Tree) (earlier : G → List Tree) (s s' : Solver G T) : Type 0 where
  pub at : current s'.game.now ≡ current s.game.now
  pub path : earlier s'.game.now ≡ earlier s.game.now
  pub budget : s'.budget ≡ s.budget
  pub game : s'.game.ghost_name ≡ s.game.ghost_name
  pub table : s'.table.ghost_name ≡ s.table.ghost_name
  pub records : s'.records.ghost_name ≡ s.records.ghost_name
