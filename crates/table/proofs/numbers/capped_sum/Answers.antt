use Rattle.std.proofs.Common.{sym, ⊎_elim, arith}
use Rattle.table.proofs.Formed.{capped_low, capped_left, capped_right}
use Rattle.table.proofs.numbers.capped_sum.Goals as goal

pub returns-then-a-eq-TOP : goal.returns-then-a-eq-TOP
returns-then-a-eq-TOP c =
    ⊎_elim (λ e. sym (capped_left c.args.a c.args.b e)) (λ e. sym (capped_right c.args.a c.args.b e.1))
    c.then-a-eq-TOP.either

pub returns : goal.returns
returns c =
    let e = capped_low c.args.a c.args.b c.if-a-eq-TOP.false c.if-b-eq-TOP.false in
    omega (arith, c.min.ensures, c.saturating_add.ensures)
