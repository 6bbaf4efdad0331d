use Rattle.std.proofs.Common.{arith}
use Rattle.tester.specs.Stands.{stand}
use Rattle.tester.proofs.Lists.{theorems, every}
use Rattle.tester.proofs.Single.{one_way_lem, records_are_not_read_lem}
use Rattle.tester.proofs.Rounding.{begin, turn, end}
use Rattle.tester.proofs.tester.Tester.run.Goals as goal

pub loop-round-init : goal.loop-round-init
loop-round-init g c = begin g.G.Game g.T.Table _ _ _ c.new-tester.ensures

pub loop-round-preserved : goal.loop-round-preserved
loop-round-preserved g c =
    turn g.G.Game g.T.Table _ c.args.rounds.now c.loop-round.round-index c.round-item.result c.perform_round.new.round c.loop-round.rounds (stand g.G.Game g.T.Table c.loop-round.tester) (stand g.G.Game g.T.Table c.perform_round.new.self)
    (omega arith) (omega arith) c.loop-round.invariant c.perform_round.ensures

pub returns : goal.returns
returns g c =
    let every_list = every g.G.Game g.T.Table (theorems g.G.Game g.T.Table g.met.G.Game.lawful g.met.T.Table.keeping) in
    end g.G.Game g.T.Table _ c.args.rounds.now every_list (one_way_lem g.G.Game g.T.Table g.met.G.Game.lawful) (records_are_not_read_lem g.G.Game g.T.Table g.met.G.Game.lawful) c.loop-round.round-index c.loop-round.rounds
    (stand g.G.Game g.T.Table c.loop-round.tester) (omega arith) (omega arith) c.loop-round.invariant
