use Rattle.tester.proofs.Doing.{back_does}
use Rattle.tester.proofs.History.{goes_on}
use Rattle.tester.proofs.tester.Tester.take_back.Goals as goal

pub invariant_of-self : goal.invariant_of-self
invariant_of-self g c = record { reached = goes_on g.G.Game g.T.Table c.args.self.now.reached (back_does g.G.Game g.T.Table c.args.self.now.game c.take_back.new.self c.args.self.now.table c.take_back.result c.take_back.ensures) }

pub returns-clause-does : goal.returns-clause-does
returns-clause-does g c = back_does g.G.Game g.T.Table c.args.self.now.game c.take_back.new.self c.args.self.now.table c.take_back.result c.take_back.ensures
