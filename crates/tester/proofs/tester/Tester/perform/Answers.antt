use Rattle.std.proofs.Common.{◌≡◌, ℕ, ◌<◌, [], refl, subst, arith, length-take}
use Rattle.tester.specs.Calls.{none, Lent}
use Rattle.tester.specs.Stands.{stand}
use Rattle.tester.specs.Performed as performed
use Rattle.tester.proofs.Lists.{theorems, every}
use Rattle.tester.proofs.Single.{one_way_lem}
use Rattle.tester.proofs.Performing.{Underway, turn, over}
use Rattle.tester.proofs.tester.Tester.perform.Goals as goal

pub loop-i-init : goal.loop-i-init
loop-i-init g c = record { events = []; replied = performed.none; rest = refl; run = none }

pub loop-i-preserved : goal.loop-i-preserved
loop-i-preserved g c =
    let here : c.loop-i.i < c.min-n.result = omega (arith, length-take c.min-n.result c.args.calls.now) in
    turn g.G.Game g.T.Table c.args.calls.now (stand g.G.Game g.T.Table c.args.self.now) (record { records = c.args.records.now; buffer = c.args.buffer.now }) c.args.replies.now
    c.min-n.result c.loop-i.i _ c.call.result _ _ _ _ c.loop-i.replies here (omega arith) (omega arith) c.loop-i.invariant c.call.ensures

pub returns : goal.returns
returns g c =
    let e = every g.G.Game g.T.Table (theorems g.G.Game g.T.Table g.met.G.Game.lawful g.met.T.Table.keeping) in
    let n : c.loop-i.i ≡ c.min-n.result = omega (arith, length-take c.min-n.result c.args.calls.now) in
    let from = stand g.G.Game g.T.Table c.args.self.now in
    let lent : Lent = record { records = c.args.records.now; buffer = c.args.buffer.now } in
    let to = stand g.G.Game g.T.Table c.loop-i.self in
    let left : Lent = record { records = c.loop-i.records; buffer = c.loop-i.buffer } in
    record {
      performed = over g.G.Game g.T.Table c.args.calls.now from lent c.args.replies.now e c.args.self.now.reached c.min-n.result to left c.loop-i.replies c.min-n.ensures
          (subst (λ (k : ℕ). Underway g.G.Game g.T.Table c.args.calls.now from lent c.args.replies.now k to left c.loop-i.replies) n c.loop-i.invariant);
      stands = e;
      one = one_way_lem g.G.Game g.T.Table g.met.G.Game.lawful;
    }
