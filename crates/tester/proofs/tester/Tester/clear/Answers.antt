use Rattle.tester.proofs.Doing.{clear_does}
use Rattle.tester.proofs.History.{goes_on}
use Rattle.tester.proofs.tester.Tester.clear.Goals as goal

pub invariant_of-self : goal.invariant_of-self
invariant_of-self g c = record { reached = goes_on g.G.Game g.T.Table c.args.self.now.reached (clear_does g.G.Game g.T.Table c.args.self.now.game c.args.self.now.table c.clear.new.self c.clear.ensures) }

pub returns-clause-does : goal.returns-clause-does
returns-clause-does g c = clear_does g.G.Game g.T.Table c.args.self.now.game c.args.self.now.table c.clear.new.self c.clear.ensures
