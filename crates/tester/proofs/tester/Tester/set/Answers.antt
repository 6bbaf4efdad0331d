use Rattle.tester.proofs.Doing.{set_does}
use Rattle.tester.proofs.History.{goes_on}
use Rattle.tester.proofs.tester.Tester.set.Goals as goal

pub invariant_of-self : goal.invariant_of-self
invariant_of-self g c = record { reached = goes_on g.G.Game g.T.Table c.args.self.now.reached (set_does g.G.Game g.T.Table c.args.self.now.game c.set.new.self c.args.self.now.table c.args.text.now c.args.aim c.set.result c.set.ensures) }

pub returns-clause-does : goal.returns-clause-does
returns-clause-does g c = set_does g.G.Game g.T.Table c.args.self.now.game c.set.new.self c.args.self.now.table c.args.text.now c.args.aim c.set.result c.set.ensures
