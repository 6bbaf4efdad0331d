use Rattle.tester.proofs.Doing.{play_does}
use Rattle.tester.proofs.History.{goes_on}
use Rattle.tester.proofs.tester.Tester.play.Goals as goal

pub invariant_of-self : goal.invariant_of-self
invariant_of-self g c = record { reached = goes_on g.G.Game g.T.Table c.args.self.now.reached (play_does g.G.Game g.T.Table c.args.self.now.game c.play.new.self c.args.self.now.table c.args.i c.play.result c.play.ensures) }

pub returns-clause-does : goal.returns-clause-does
returns-clause-does g c = play_does g.G.Game g.T.Table c.args.self.now.game c.play.new.self c.args.self.now.table c.args.i c.play.result c.play.ensures
