use Rattle.tester.proofs.Single.{records_are_not_read_lem}
use Rattle.tester.proofs.theorems.records_are_not_read.Goals as goal

pub returns : goal.returns
returns g c = records_are_not_read_lem g.G.Game g.T.Table g.met.G.Game.lawful
