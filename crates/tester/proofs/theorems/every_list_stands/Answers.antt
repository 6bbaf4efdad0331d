use Rattle.tester.proofs.Lists.{theorems, every}
use Rattle.tester.proofs.theorems.every_list_stands.Goals as goal

pub returns : goal.returns
returns g c = every g.G.Game g.T.Table (theorems g.G.Game g.T.Table g.met.G.Game.lawful g.met.T.Table.keeping)
