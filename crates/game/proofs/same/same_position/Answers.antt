use Rattle.std.proofs.Common.{sym, ap, ◌∙◌}
use Rattle.std.proofs.lemmas.Slice.Eq.{slice_eq-Decides}
use Rattle.game.specs.Tree.{code}
use Rattle.game.proofs.Codes.{equal_codes}
use Rattle.game.proofs.same.same_position.Goals as goal
use Rattle.std.proofs.lemmas.Bool.Decides.{Decides-eqb}

pub returns : goal.returns
returns g c =
    let m = g.met.G.Game in
    let d = slice_eq-Decides Decides-eqb c.code.result c.code-2.result c.eq.result c.eq.ensures in (
      λ e. equal_codes _ m.lawful.closed m.lawful.codes _ _ (m.within _) (m.within _) (sym c.code.ensures ∙ d.0 e ∙ c.code-2.ensures),
      λ e. d.1 (c.code.ensures ∙ ap code e ∙ sym c.code-2.ensures),
    )
