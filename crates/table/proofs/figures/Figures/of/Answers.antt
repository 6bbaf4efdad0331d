use Rattle.std.proofs.Common.{ℕ, T, sym, refl, subst₂, inl, inr}
use Rattle.table.specs.Numbers.{well}
use Rattle.table.proofs.Frames.{pair_at}
use Rattle.table.proofs.Passes.{tallied_none, tallied_all, pair-numbers}
use Rattle.table.proofs.figures.Figures.of.Goals as goal
use Rattle.table.proofs.figures.Figures.of.Goals.{in-Attacker, in-Defender}

pub loop-i-init : goal.loop-i-init
loop-i-init c = tallied_none c.args.side _ refl refl refl refl refl

pub invariant_of-result : goal.invariant_of-result
invariant_of-result c =
    let t = tallied_all c.args.side c.args.pairs.now c.loop-i.i c.loop-i.tally c.loop-i-test.false c.loop-i.invariant in
    let e = pair-numbers c.args.side c.args.pairs.now c.loop-i.tally c.match-side.proof t
    (elim c.match-side.branch [ in-Attacker w ↦ inl (w.in-Attacker.is, w.proof-is) | in-Defender w ↦ inr (w.in-Defender.is, w.proof-is) ]) in
    record { formed = subst₂ (λ (x y : ℕ). T (well x y)) (sym e.0) (sym e.1) (pair_at c.args.side c.args.pairs.now).formed }
