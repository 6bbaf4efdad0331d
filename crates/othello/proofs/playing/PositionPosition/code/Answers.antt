use Rattle.std.proofs.Common.{ℕ, [], ◌∷◌, sym, ◌∙◌, ap₂}
use Rattle.othello.specs.Listed.{code_is}
use Rattle.othello.proofs.playing.PositionPosition.code.Goals as goal

pub returns : goal.returns
returns c =
    let p = c.args.self.now in
    let d = p.diagram in
    ap₂ (λ (m a : ℕ). d.x ∷ d.o ∷ m ∷ a ∷ p.aim ∷ []) c.side_number.ensures c.side_number-2.ensures
    ∙ sym (code_is p.attacker p.aim d)
