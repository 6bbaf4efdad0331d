use Rattle.game.specs.Tree.{moves}
use Rattle.solution.specs.Solvers.{Stays}
use Rattle.solution.proofs.Attempts.{Trying}
use Rattle.solution.proofs.solver.Solver.try_moves.Given as goal

abbrev pub invariant-loop-i : goal.invariant-loop-i
invariant-loop-i g l = record {
  stays : Stays g.G.Game.current g.G.Game.earlier l.initial.self l.self;
  trying : Trying g.T.Table.storing l.initial.self.budget.amount (g.T.Table.standing l.initial.self.table.now) (moves (g.G.Game.current l.initial.self.game.now)) l.initial.self.sum l.i l.self.flags.items (g.T.Table.standing l.self.table.now) l.self.sum;
}
