use Rattle.std.proofs.Common.{◌≡◌, ℕ, Some, sym, ◌∙◌, rules}
use Rattle.std.specs.List.{slice_get}
use Rattle.std.proofs.lemmas.Iterator.{first_from_Range}
use Rattle.game.specs.Tree.{words}
use Rattle.game.proofs.Words.{counted, told_same, told_other, first_of}
use Rattle.game.proofs.position.Position.find.Goals as goal

pub returns : goal.returns
returns g c =
    let t = g.Self.Position.tree c.args.self.now in
    let x = c.args.text.now in
    let same = λ (i : ℕ). slice_get (words t) i ≡ Some x in
    first_of (words t) x c.count.result (c.count.ensures ∙ sym (counted t)) c.find.result
    (first_from_Range _ _ _ c.find.result same (λ i. same i → ⊥) c.find.ensures.ran (λ i q k. search (rules, told_same)) (λ i q k. search (rules, told_other)))
