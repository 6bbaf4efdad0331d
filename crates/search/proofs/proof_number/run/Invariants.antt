use Rattle.std.proofs.Common.{◌≡◌, ◌≤◌}
use Rattle.stack.specs.Contents.{contents, room}
use Rattle.search_laws.specs.Run.{Outcome, Enters, tops}
use Rattle.search.specs.Steps.{Stands, Comes, work}
use Rattle.search.proofs.proof_number.run.Given as goal

abbrev pub invariant-loop-step : goal.invariant-loop-step
invariant-loop-step g l =
    Stands g.G.Game.width l.step (contents l.stack) (g.G.Game.current l.game) (g.G.Game.earlier l.game) l.records
    (g.G.Game.current l.initial.game) (g.G.Game.earlier l.initial.game)
    × ((o : Outcome g.T.Table.storing.Standing) → Comes g.T.Table.storing l.step (contents l.stack) (g.G.Game.current l.game) (g.G.Game.earlier l.game) l.records (g.T.Table.standing l.table) l.rest o
    → Enters g.T.Table.storing (g.T.Table.standing l.initial.table) l.left (g.G.Game.current l.initial.game) tops o)
    × (room l.stack ≡ 32)
    × (l.rest ≤ l.left)

abbrev pub decreases-loop-step : goal.decreases-loop-step
decreases-loop-step g l = work l.step (contents l.stack) l.rest
