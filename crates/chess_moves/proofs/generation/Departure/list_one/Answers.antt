use Rattle.std.proofs.Common.{true, false, [], ◌∷◌, ap, ◌∙◌}
use Rattle.chess_attacks.specs.Men.{Squares}
use Rattle.chess_attacks.specs.Lists.{checked}
use Rattle.chess_moves.specs.declared.step.Move.{Move}
use Rattle.chess_moves.specs.Moves.{one, passing_of}
use Rattle.chess_moves.proofs.Adding.{adds_none, adds_push, adds_full, adds_as}
use Rattle.chess_moves.proofs.Numbers.{move-is}
use Rattle.chess_moves.proofs.Parts.{one_is}
use Rattle.chess_moves.proofs.generation.Departure.list_one.Goals as goal
use Rattle.chess_moves.proofs.generation.Departure.list_one.Goals.{else-not-in_check-via-then-not-in_check+else-not-is_full, else-not-in_check-via-else-not-in_check}

pub returns-then-not-is_full : goal.returns-then-not-is_full
returns-then-not-is_full g c =
    let d = c.args.self.now.diagram.now in
    let p = c.args.self.now in
    adds_as
    (ap (λ (v : Move). v ∷ []) (move-is p.from c.args.to c.args.promotion)
    ∙ one_is d.board (passing_of d) p.man p.from.number c.args.to.number c.args.promotion false
    (c.if-not-in_check.ensures.exact ∙ ap (λ (b : Squares). checked b p.man.side) c.after-next.ensures))
    (adds_push _ c.if-not-is_full.ensures.fits c.if-not-is_full.ensures.value c.push.ensures.items)

pub returns-else-not-in_check : goal.returns-else-not-in_check
returns-else-not-in_check g c =
    let d = c.args.self.now.diagram.now in
    let p = c.args.self.now in
    elim c.else-not-in_check.branch [
      | else-not-in_check-via-then-not-in_check+else-not-is_full w ↦
          adds_full (one d.board (passing_of d) p.man p.from.number c.args.to.number c.args.promotion) (adds_none _) w.if-not-is_full.ensures.value
      | else-not-in_check-via-else-not-in_check w ↦
          adds_as
          (one_is d.board (passing_of d) p.man p.from.number c.args.to.number c.args.promotion true
          (w.if-not-in_check.ensures.exact ∙ ap (λ (b : Squares). checked b p.man.side) c.after-next.ensures))
          (adds_none _)
    ]
