use Rattle.std.proofs.Common.{◌≡◌, ℕ, true, false, [], ◌∷◌, take, sym, ap, ◌∙◌, arith}
use Rattle.chess_moves.specs.declared.step.Promotion.TheVariants.{Queen, Rook, Bishop, Knight}
use Rattle.chess_moves.specs.Moves.{passing_of}
use Rattle.chess_moves.proofs.Adding.{adds_more, adds_as}
use Rattle.chess_moves.proofs.Parts.{promoted, promoted_more, promoted_all, tries_is}
use Rattle.chess_moves.proofs.generation.Departure.list_tries.Goals as goal

pub loop-promotion-preserved : goal.loop-promotion-preserved
loop-promotion-preserved g c =
    let d = c.args.self.now.diagram.now in
    let p = c.args.self.now in
    adds_as
    (sym (promoted_more d.board (passing_of d) p.man p.from.number c.args.to.number (Queen ∷ Rook ∷ Bishop ∷ Knight ∷ []) c.loop-promotion.promotion-index _ (omega arith)))
    (adds_more c.loop-promotion.invariant c.list_one.ensures)

pub returns-after-loop-promotion : goal.returns-after-loop-promotion
returns-after-loop-promotion g c =
    let d = c.args.self.now.diagram.now in
    let p = c.args.self.now in
    let all : c.loop-promotion.promotion-index ≡ 4 = omega arith in
    adds_as
    (ap (λ (i : ℕ). promoted d.board (passing_of d) p.man p.from.number c.args.to.number (take i (Queen ∷ Rook ∷ Bishop ∷ Knight ∷ []))) all
    ∙ (promoted_all d.board (passing_of d) p.man p.from.number c.args.to.number
    ∙ tries_is d.board (passing_of d) p.man p.from.number c.args.to.number true c.if-promotes.ensures))
    c.loop-promotion.invariant

pub returns-else-promotes : goal.returns-else-promotes
returns-else-promotes g c =
    let d = c.args.self.now.diagram.now in
    let p = c.args.self.now in
    adds_as (tries_is d.board (passing_of d) p.man p.from.number c.args.to.number false c.if-promotes.ensures) c.list_one-else-promotes.ensures
