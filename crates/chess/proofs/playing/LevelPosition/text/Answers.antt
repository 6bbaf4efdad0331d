use Rattle.std.proofs.Common.{Some, None, sym, ap, ◌∙◌}
use Rattle.chess.specs.Grown.{words_nth}
use Rattle.chess.proofs.playing.LevelPosition.text.Goals as goal

pub returns-in_err-step : goal.returns-in_err-step
returns-in_err-step c =
    let p = c.args.self.now.problem in
    c.from_residual.ensures ∙ words_nth p.attacker p.plies p.position.diagram c.args.i None (sym c.in_err-step.was ∙ c.pick.ensures)

pub returns : goal.returns
returns c =
    let p = c.args.self.now.problem in
    ap Some c.text_of.ensures
    ∙ words_nth p.attacker p.plies p.position.diagram c.args.i (Some c.in_ok-step.step) (sym c.in_ok-step.was ∙ c.pick.ensures)
