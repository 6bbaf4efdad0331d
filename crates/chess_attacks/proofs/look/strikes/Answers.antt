use Rattle.std.proofs.Common.{◌&&◌, ltb, sym, ap, ap₂, ◌∙◌, arith}
use Rattle.std.specs.Iterator.Adapters.{enumerate_source}
use Rattle.chess_attacks.specs.contracts.men.Side.{the_type as side_type}
use denote.Enum.Bare.{same_true, same_false}
use Rattle.board.specs.Squares.{opposite}
use Rattle.board.proofs.Listed.{ray_step, ray_end}
use Rattle.chess_attacks.specs.Ranges.{range_of}
use Rattle.chess_attacks.proofs.Sides.{side-true, side-false}
use Rattle.chess_attacks.proofs.Walks.{looked_end, looked-man, looked-on}
use Rattle.chess_attacks.proofs.look.strikes.Goals as goal

pub returns-then-eq : goal.returns-then-eq
returns-then-eq c =
    let i = c.loop-walked.invariant in
    let ray = enumerate_source c.loop-walked.walked-iterator in
    let m = c.in-Some-man_on.man in
    let w = ray_step ray (enumerate_source c.next.new.self) c.args.square c.args.direction i.from i.direction c.in-Some.next c.in-Some.ensures.steps.0 in
    ap₂ ltb (c.in-Some.ensures.steps.1 ∙ i.count) (c.range.ensures ∙ ap (range_of m) c.opposite.ensures)
    ∙ ap (λ x. x && ltb ray.walked (range_of m (opposite c.args.direction)))
    (sym (side-true m.side c.args.by (same_true side_type tt m.side c.args.by (sym c.if-eq.ensures))))
    ∙ looked-man c.args.board.now c.args.direction c.args.by c.args.square.number c.args.square.ok ray.walked i.looked
    w.more c.in-Some.next.number w.at m c.in-Some-man_on.ensures

pub returns-else-eq : goal.returns-else-eq
returns-else-eq c =
    let i = c.loop-walked.invariant in
    let ray = enumerate_source c.loop-walked.walked-iterator in
    let m = c.in-Some-man_on.man in
    let w = ray_step ray (enumerate_source c.next.new.self) c.args.square c.args.direction i.from i.direction c.in-Some.next c.in-Some.ensures.steps.0 in
    c.if-eq.false
    ∙ ap (λ x. x && ltb ray.walked (range_of m (opposite c.args.direction)))
    (sym (side-false m.side c.args.by (same_false side_type m.side c.args.by (sym c.if-eq.ensures))))
    ∙ looked-man c.args.board.now c.args.direction c.args.by c.args.square.number c.args.square.ok ray.walked i.looked
    w.more c.in-Some.next.number w.at m c.in-Some-man_on.ensures

pub loop-walked-preserved : goal.loop-walked-preserved
loop-walked-preserved c =
    let i = c.loop-walked.invariant in
    let w = ray_step (enumerate_source c.loop-walked.walked-iterator) (enumerate_source c.next.new.self) c.args.square c.args.direction i.from i.direction c.in-Some.next c.in-Some.ensures.steps.0 in
    record {
      count = omega (arith, c.in-Some.ensures.steps.2, w.walked);
      from = w.from;
      direction = w.direction;
      looked = rw w.walked (looked-on c.args.board.now c.args.direction c.args.by c.args.square.number c.args.square.ok _ i.looked w.more c.in-Some.next.number w.at c.in_default.ensures);
    }

pub returns : goal.returns
returns c =
    let i = c.loop-walked.invariant in
    looked_end c.args.board.now c.args.direction c.args.by c.args.square.number c.args.square.ok _ i.looked
    (ray_end (enumerate_source c.loop-walked.walked-iterator) (enumerate_source c.next.new.self) c.args.square c.args.direction i.from i.direction c.in-None.ensures.steps.0)
