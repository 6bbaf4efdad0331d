use Rattle.tester.specs.Stands.{stand}
use Rattle.tester.proofs.Rounding.{Going}
use Rattle.tester.proofs.tester.Tester.run.Given as goal

abbrev pub invariant-loop-round : goal.invariant-loop-round
invariant-loop-round g l = Going g.G.Game g.T.Table (g.T.Table.standing l.fn.table) l.initial.rounds l.round-index (stand g.G.Game g.T.Table l.tester) l.rounds
