use Rattle.std.proofs.Common.{rules, ◌≡◌, ◌++◌, List, length, drop, ap, ◌∙◌}
use Rattle.std.proofs.lemmas.List.{take-append-drop}
use Rattle.game.specs.Limits.{records_needed}
use Rattle.game.specs.Tree.{Tree}
use Rattle.table.specs.declared.pair.Pair.{Pair}
use Rattle.search_laws.proofs.Laws.{ranging}
use Rattle.search_laws.proofs.Trials as trials
use Rattle.search_laws.proofs.Trials.{trials_are_right_lem}
use Rattle.solution_laws.proofs.Fitting.{solutions_fit}
use Rattle.solution_laws.proofs.Right.{solutions_are_right_lem}
use Rattle.solution_laws.proofs.Spent.{spent-is-meant}
use Rattle.solution.proofs.Shown.{accepted, budgeted, short, refused, attacked, means}
use Rattle.solution.proofs.call.solve.Goals as goal

pub returns-in_err-accept-clause-answered : goal.returns-in_err-accept-clause-answered
returns-in_err-accept-clause-answered g c =
    let t : Tree = g.G.Game.current c.args.game.now in
    let rs : List Pair = c.args.records.now in
    let e = accepted t c.args.intended (length rs) (length c.args.buffer.now) c.in_ok-budget.budget c.in_ok-budget.ensures c.in-Some.ensures.cases.enough in
    let same : c.in-Some.records.now ++ drop records_needed rs ≡ rs = ap (λ (x : List Pair). x ++ drop records_needed rs) c.in-Some.ensures.cases.same ∙ take-append-drop records_needed rs in
    (refused g.G.Game.positions g.T.Table.storing (g.T.Table.standing c.args.table.now) t c.args.intended c.args.budget rs _ c.args.buffer.now c.from_residual-in_err-accept.result c.in_err-accept.field-0.0
    c.from_residual-in_err-accept.ensures.1 (e ∙ c.in_err-accept.ensures) same).0

pub write_solution-requires : goal.write_solution-requires
write_solution-requires g c = short (g.G.Game.current c.args.game.now) c.args.intended (length c.args.buffer.now) c.in_ok-accept.ensures

pub returns-clause-answered : goal.returns-clause-answered
returns-clause-answered g c =
    let t : Tree = g.G.Game.current c.args.game.now in
    let e = accepted t c.args.intended (length c.args.records.now) (length c.args.buffer.now) c.in_ok-budget.budget c.in_ok-budget.ensures c.in-Some.ensures.cases.enough in (
      e ∙ c.in_ok-accept.ensures,
      search rules,
      budgeted c.in_ok-budget.ensures c.write_solution.ensures.solved,
    )

pub returns-clause-right : goal.returns-clause-right
returns-clause-right g c =
    let m = g.met.G.Game in
    let n = g.met.T.Table in
    let S = g.T.Table.storing in
    let t : Tree = g.G.Game.current c.args.game.now in
    let h = g.T.Table.standing c.args.table.now in
    means g.G.Game.positions S h t c.args.intended c.args.budget c.args.buffer.now c.write_solution.result (g.T.Table.standing c.write_solution.new.table) c.write_solution.new.buffer
    (solutions_fit m.lawful S)
    (solutions_are_right_lem m.lawful S (trials_are_right_lem g.G.Game.positions (ranging m.lawful) S n.keeping))
    (spent-is-meant S (trials.spent-is-meant S)) (m.within c.args.game.now)
    (attacked t c.args.intended 0 records_needed (length c.args.buffer.now) c.in_ok-accept.ensures) (budgeted c.in_ok-budget.ensures c.write_solution.ensures.solved)
