use Rattle.std.proofs.Common.{ℕ, ◌<◌, ◌≤◌, min, [], ◌∷◌, length, sym, refl, ap, ◌∙◌, inl, inr, ⊎_elim, arith}
use Rattle.table.specs.Numbers.{capped}
use Rattle.table.specs.Pairs.{own}
use Rattle.table.proofs.Passes.{none_before, tallied_new, tallied_old}
use Rattle.table.proofs.figures.Tally.with.Goals as goal

pub returns-then-place-eq0 : goal.returns-then-place-eq0
returns-then-place-eq0 c ps l h =
    tallied_new c.args.side ps c.args.pair c.args.self _ h (c.min-least.ensures ∙ ap (min c.args.self.least) c.own-number.ensures)
    (c.capped_sum-sum.ensures ∙ ap (λ (k : ℕ). capped (c.args.self.sum ∷ k ∷ [])) c.against-other.ensures)
    (⊎_elim (λ e. inl (none_before ps (l ∙ e)))
    (λ e. inr (let k : own c.args.side c.args.pair < c.args.self.least = omega (arith, e.1, c.own-number.ensures) in k))
    c.then-place-eq0.either)
    (sym l) refl refl

pub returns : goal.returns
returns c ps l h =
    let high : c.args.self.least ≤ own c.args.side c.args.pair = omega (arith, c.if-number-self.false, c.own-number.ensures) in
    let some : 0 < length ps = omega (arith, c.if-place-eq0.false) in
    tallied_old c.args.side ps c.args.pair c.args.self _ h (c.min-least.ensures ∙ ap (min c.args.self.least) c.own-number.ensures)
    (c.capped_sum-sum.ensures ∙ ap (λ (k : ℕ). capped (c.args.self.sum ∷ k ∷ [])) c.against-other.ensures)
    some high refl (c.min.ensures ∙ ap (min c.args.self.second) c.own-number.ensures)
    (c.capped_sum.ensures ∙ ap (λ (k : ℕ). capped (c.args.self.rest ∷ k ∷ [])) c.against-other.ensures)
