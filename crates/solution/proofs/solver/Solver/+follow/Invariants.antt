use Rattle.std.proofs.Common.{◌+◌, ◌*◌}
use Rattle.game.specs.Tree.{rank}
use Rattle.solution.specs.Solvers.{Stays}
use Rattle.solution.proofs.Following.{Replying}
use Rattle.solution.proofs.solver.Solver.+follow.Given as goal

-- a move lowers the rank; at one position `follow` comes first, and `follow_move` last
abbrev pub decreases-follow : goal.decreases-follow
decreases-follow g l = 3 * rank (g.G.Game.current l.self.now.game.now) + 2

abbrev pub decreases-follow_best : goal.decreases-follow_best
decreases-follow_best g l = 3 * rank (g.G.Game.current l.self.now.game.now) + 1

abbrev pub decreases-follow_replies : goal.decreases-follow_replies
decreases-follow_replies g l = 3 * rank (g.G.Game.current l.self.now.game.now) + 1

abbrev pub decreases-follow_move : goal.decreases-follow_move
decreases-follow_move g l = 3 * rank (g.G.Game.current l.self.now.game.now)

abbrev pub invariant-follow_replies-loop-i : goal.invariant-follow_replies-loop-i
invariant-follow_replies-loop-i g l = record {
  stays : Stays g.G.Game.current g.G.Game.earlier l.initial.self l.self;
  replying : Replying g.T.Table.storing l.initial.self.budget.amount l.ply.number (g.G.Game.current l.initial.self.game.now) (g.T.Table.standing l.initial.self.table.now) l.initial.page l.initial.self.sum
      l.i (g.T.Table.standing l.self.table.now) l.page l.self.sum;
}
