use Rattle.std.proofs.Common.{◌≡◌, ◌≢◌, ◌≤◌, true, ◌∙◌, sym, ap, ◌∷◌, length, arith}
use Rattle.std.specs.Bool.{◌==◌}
use Rattle.std.proofs.lemmas.Bool.{eq-eqb, false≢true}
use Rattle.game.specs.Paths.{before}
use Rattle.game.proofs.Places.{as_many, pushed, latest}
use Rattle.game.proofs.path.Path.advance.Goals as goal

pub invariant_of-self-clause-none_empty : goal.invariant_of-self-clause-none_empty
invariant_of-self-clause-none_empty g c = pushed c.args.self.now.earlier.items c.push.new.self.items c.replace-left.result c.push.ensures.items c.args.self.now.none_empty

pub returns : goal.returns
returns g c =
    let os = c.args.self.now.earlier.items in
    let many : length (before c.args.self.now) ≡ length os = as_many os c.args.self.now.none_empty in
    let full : c.is_full.result ≡ (length os == 32) = c.is_full.ensures.value in
    let fits : length os ≤ 32 = c.is_full.ensures.fits in
    let room : length os ≢ 32 = λ e. let z : (length os == 32) ≡ true = eq-eqb (length os) 32 e in false≢true (sym c.if-is_full.false ∙ full ∙ z) in (
      omega (arith, many, room, fits),
      c.replace-left.ensures.after,
      latest os c.push.new.self.items c.replace-left.result c.push.ensures.items ∙ ap (λ p. p ∷ before c.args.self.now) c.replace-left.ensures.value,
    )
