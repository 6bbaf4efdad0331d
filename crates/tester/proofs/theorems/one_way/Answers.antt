use Rattle.tester.proofs.Single.{one_way_lem}
use Rattle.tester.proofs.theorems.one_way.Goals as goal

pub returns : goal.returns
returns g c = one_way_lem g.G.Game g.T.Table g.met.G.Game.lawful
