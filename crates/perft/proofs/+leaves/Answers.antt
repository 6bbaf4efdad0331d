use Rattle.std.proofs.Common.{rules, ◌≡◌, ◌+◌, ◌-◌, ◌≤◌, ◌^◌, length, Some, None, sym, ap, ◌∙◌, subst, arith}
use Rattle.chess_rules.specs.Lawful.{Lawful}
use Rattle.chess_moves.specs.Moves.{listed}
use Rattle.chess_rules.proofs.Tested.{lawful_means}
use Rattle.chess_rules.proofs.Listed.{whole_list}
use Rattle.perft.specs.Lines.{lines}
use Rattle.perft.proofs.Counting.{counted, next_lawful, lines_none, lines_one, part, all}
use Rattle.perft.proofs.+leaves.Goals as goal

pub returns-then-depth-eq0 : goal.returns-then-depth-eq0
returns-then-depth-eq0 t c = lines_none c.args.depth c.args.diagram.now (omega arith)

pub returns-then-depth-eq1 : goal.returns-then-depth-eq1
returns-then-depth-eq1 t c =
    let e = whole_list c.args.diagram.now ((lawful_means c.args.diagram.now).1 c.requires) (listed c.moves-list.result) c.moves-list.ensures.all in
    c.len.ensures ∙ (ap length e ∙ lines_one c.args.depth c.args.diagram.now (omega arith))

pub leaves-requires : goal.leaves-requires
leaves-requires t c =
    let lawful : Lawful c.play-next.result = subst Lawful (sym c.play-next.ensures.exact) (next_lawful c.args.diagram.now c.requires c.as_slice-step-items.result.now
    c.moves-list.ensures.legal c.loop-step.invariant.items c.loop-step.step-index c.step-item.result c.loop-step-test.true c.step-item.is) in
    (omega arith, search rules)

pub returns-in_err-leaves : goal.returns-in_err-leaves
returns-in_err-leaves t c =
    let d = c.args.diagram.now in
    let v = c.step-item.result in
    let none : c.leaves.result ≡ None = search rules in
    let r : c.from_residual.result ≡ None = search rules in
    let h = rw none at c.leaves.ensures in
    let same : lines (c.args.depth - 1) c.play-next.result ≡ counted c.args.depth d v = ap (lines (c.args.depth - 1)) c.play-next.ensures.exact in
    rw r (omega (arith, h, part c.args.depth d c.as_slice-step-items.result.now (omega arith) c.loop-step.invariant.items c.loop-step.step-index v c.loop-step-test.true c.step-item.is))

pub returns-in_err-sum : goal.returns-in_err-sum
returns-in_err-sum t c =
    let d = c.args.diagram.now in
    let v = c.step-item.result in
    let none : c.checked_add.result ≡ None = search rules in
    let r : c.from_residual-in_err-sum.result ≡ None = search rules in
    let some : c.leaves.result ≡ Some c.in_ok-leaves.field-0 = search rules in
    let h = rw some at c.leaves.ensures in
    let same : lines (c.args.depth - 1) c.play-next.result ≡ counted c.args.depth d v = ap (lines (c.args.depth - 1)) c.play-next.ensures.exact in
    let over : 2 ^ 64 ≤ c.loop-step.sum + c.in_ok-leaves.field-0 = grind (arith, none, c.checked_add.ensures) in
    rw r (omega (arith, h, c.loop-step.invariant.sum, part c.args.depth d c.as_slice-step-items.result.now (omega arith) c.loop-step.invariant.items c.loop-step.step-index v c.loop-step-test.true c.step-item.is))

pub returns : goal.returns
returns t c =
    c.loop-step.invariant.sum
    ∙ all c.args.depth c.args.diagram.now c.as_slice-step-items.result.now (omega arith) c.loop-step.invariant.items c.loop-step.step-index c.loop-step-test.false
