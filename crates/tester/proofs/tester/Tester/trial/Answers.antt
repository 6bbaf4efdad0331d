use Rattle.std.proofs.Common.{[]}
use Rattle.tester.proofs.Doing.{trial_does}
use Rattle.tester.proofs.History.{goes_on, is_right}
use Rattle.tester.proofs.Lists.{theorems}
use Rattle.tester.proofs.tester.Tester.trial.Goals as goal

pub invariant_of-self : goal.invariant_of-self
invariant_of-self g c =
    let did = trial_does g.G.Game g.T.Table c.args.self.now.game c.trial.new.game c.args.self.now.table c.trial.new.table c.trial.ensures.at c.trial.ensures.path
    c.args.budget c.args.records.now c.trial.new.records [] c.trial.result c.trial.ensures.tried in
    record { reached = goes_on g.G.Game g.T.Table c.args.self.now.reached did }

pub returns : goal.returns
returns g c =
    let did = trial_does g.G.Game g.T.Table c.args.self.now.game c.trial.new.game c.args.self.now.table c.trial.new.table c.trial.ensures.at c.trial.ensures.path
    c.args.budget c.args.records.now c.trial.new.records [] c.trial.result c.trial.ensures.tried in
    record {
      does = did;
      at = c.trial.ensures.at;
      path = c.trial.ensures.path;
      right = is_right g.G.Game g.T.Table c.args.self.now.reached did (theorems g.G.Game g.T.Table g.met.G.Game.lawful g.met.T.Table.keeping);
    }
