use Rattle.tester.specs.Stands.{stand}
use Rattle.tester.proofs.Performing.{Underway}
use Rattle.tester.proofs.tester.Tester.perform.Given as goal

abbrev pub invariant-loop-i : goal.invariant-loop-i
invariant-loop-i g l =
    Underway g.G.Game g.T.Table l.calls (stand g.G.Game g.T.Table l.initial.self) (record { records = l.initial.records; buffer = l.initial.buffer }) l.initial.replies
    l.i (stand g.G.Game g.T.Table l.self) (record { records = l.records; buffer = l.buffer }) l.replies
