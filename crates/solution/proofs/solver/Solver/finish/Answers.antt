use Rattle.game.specs.Tree.{Tree}
use Rattle.solution_laws.proofs.Fitting.{solutions_fit}
use Rattle.solution.proofs.Shown.{shown}
use Rattle.solution.proofs.solver.Solver.finish.Goals as goal

pub returns-clause-solved : goal.returns-clause-solved
returns-clause-solved g c =
    let m = g.met.G.Game in
    let s = c.args.self.now in let s' = c.follow-end.new.self in
    let t : Tree = g.G.Game.current s.game.now in
    shown g.G.Game.positions g.T.Table.storing s.budget.amount c.args.intended t (g.T.Table.standing s.table.now) c.args.page.now c.follow-end.result
    (g.T.Table.standing s'.table.now) c.follow-end.new.page s.sum s'.sum c.ending_of.result
    (solutions_fit m.lawful g.T.Table.storing) (m.within s.game.now) c.requires.page.0 c.requires.page.1 c.requires.page.2 c.requires.sum c.ending_of.ensures c.follow-end.ensures.follows
