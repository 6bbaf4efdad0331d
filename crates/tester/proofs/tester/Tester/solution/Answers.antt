use Rattle.tester.proofs.Doing.{solution_does}
use Rattle.tester.proofs.History.{goes_on, is_right}
use Rattle.tester.proofs.Lists.{theorems}
use Rattle.tester.proofs.tester.Tester.solution.Goals as goal

pub invariant_of-self : goal.invariant_of-self
invariant_of-self g c =
    let did = solution_does g.G.Game g.T.Table c.args.self.now.game c.solve.new.game c.args.self.now.table c.solve.new.table c.solve.ensures.at c.solve.ensures.path
    c.args.intended c.args.budget c.args.records.now c.solve.new.records c.args.buffer.now c.solve.new.buffer c.solve.result c.solve.ensures.answered in
    record { reached = goes_on g.G.Game g.T.Table c.args.self.now.reached did }

pub returns : goal.returns
returns g c =
    let did = solution_does g.G.Game g.T.Table c.args.self.now.game c.solve.new.game c.args.self.now.table c.solve.new.table c.solve.ensures.at c.solve.ensures.path
    c.args.intended c.args.budget c.args.records.now c.solve.new.records c.args.buffer.now c.solve.new.buffer c.solve.result c.solve.ensures.answered in
    record {
      does = did;
      at = c.solve.ensures.at;
      path = c.solve.ensures.path;
      right = is_right g.G.Game g.T.Table c.args.self.now.reached did (theorems g.G.Game g.T.Table g.met.G.Game.lawful g.met.T.Table.keeping);
    }
