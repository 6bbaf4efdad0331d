use Rattle.std.proofs.Common.{sym, arith}
use Rattle.chess_moves.specs.Moves.{passing_of}
use Rattle.chess_moves.proofs.Adding.{adds_none, adds_more, adds_full, adds_as, adds_first}
use Rattle.chess_moves.proofs.Parts.{from_none, from_more, from-rest}
use Rattle.chess_moves.proofs.generation.first_moves.Goals as goal

pub loop-from-init : goal.loop-from-init
loop-from-init g c =
    let d = c.args.diagram.now in
    adds_as (sym (from_none d.board d.mover (passing_of d) _ (cc))) (adds_none _)

pub returns-then-is_full : goal.returns-then-is_full
returns-then-is_full g c =
    let d = c.args.diagram.now in
    let r = from-rest d.board d.mover (passing_of d) c.loop-from.from-iterator.next (omega (arith, c.in-Some.ensures)) in
    adds_first c.new-list.ensures (adds_as (sym r.1) (adds_full r.0 c.loop-from.invariant c.if-is_full.ensures.value))

pub loop-from-preserved : goal.loop-from-preserved
loop-from-preserved g c =
    let d = c.args.diagram.now in
    adds_as
    (sym (from_more d.board d.mover (passing_of d) c.loop-from.from-iterator.next _ _ c.in-Some.ensures.steps.1 c.in-Some.ensures.steps.2))
    (adds_more c.loop-from.invariant c.list_from.ensures)
