use Rattle.std.proofs.Common.{ℕ, true, false, List, sym, ap, ◌∙◌, arith}
use Rattle.std.proofs.lemmas.List.{append-nil}
use Rattle.board.specs.Masks.{bit}
use Rattle.chess_moves.specs.declared.step.Move.{Move}
use Rattle.chess_moves.specs.Moves.{moves_to, passing_of}
use Rattle.chess_moves.proofs.Adding.{adds_none, adds_more, adds_full, adds_as}
use Rattle.chess_moves.proofs.Parts.{to_none, to_more, to_words, to-rest}
use Rattle.chess_moves.proofs.generation.Departure.list_all.Goals as goal

pub loop-to-init : goal.loop-to-init
loop-to-init g c =
    let d = c.args.self.now.diagram.now in
    let p = c.args.self.now in
    adds_as (sym (to_none d.board (passing_of d) p.man p.from.number (bit c.commanded-reach.result) (bit c.ahead-steps.result) _ (cc))) (adds_none _)

pub returns-then-is_full : goal.returns-then-is_full
returns-then-is_full g c =
    let d = c.args.self.now.diagram.now in
    let p = c.args.self.now in
    let moves_below : ℕ → List Move = moves_to d.board (passing_of d) p.man (bit c.commanded-reach.result) (bit c.ahead-steps.result) p.from.number in
    let n : ℕ = c.loop-to.to-iterator.next in
    let r = to-rest d.board (passing_of d) p.man (bit c.commanded-reach.result) (bit c.ahead-steps.result) p.from.number n (omega (arith, c.in-Some.ensures)) in
    adds_as (to_words d.board (passing_of d) p.man p.from.number _ _ 64 c.commanded-reach.ensures.exact c.ahead-steps.ensures)
    (adds_as {ys = moves_below 64} (sym r.1) (adds_full {xs = moves_below n} r.0 c.loop-to.invariant c.if-is_full.ensures.value))

pub loop-to-preserved-then-goes : goal.loop-to-preserved-then-goes
loop-to-preserved-then-goes g c =
    let d = c.args.self.now.diagram.now in
    let p = c.args.self.now in
    let so_far : List Move = moves_to d.board (passing_of d) p.man (bit c.commanded-reach.result) (bit c.ahead-steps.result) p.from.number c.loop-to.to-iterator.next in
    adds_as
    (sym (to_more d.board (passing_of d) p.man p.from.number (bit c.commanded-reach.result) (bit c.ahead-steps.result) c.loop-to.to-iterator.next _ _ true
    c.in-Some.ensures.steps.1 c.in-Some.ensures.steps.2 c.if-goes.ensures))
    (adds_more {xs = so_far} c.loop-to.invariant c.list_tries.ensures)

pub loop-to-preserved : goal.loop-to-preserved
loop-to-preserved g c =
    let d = c.args.self.now.diagram.now in
    let p = c.args.self.now in
    let so_far : List Move = moves_to d.board (passing_of d) p.man (bit c.commanded-reach.result) (bit c.ahead-steps.result) p.from.number c.loop-to.to-iterator.next in
    adds_as
    (sym (append-nil so_far)
    ∙ sym (to_more d.board (passing_of d) p.man p.from.number (bit c.commanded-reach.result) (bit c.ahead-steps.result) c.loop-to.to-iterator.next _ _ false
    c.in-Some.ensures.steps.1 c.in-Some.ensures.steps.2 c.if-goes.ensures))
    c.loop-to.invariant

pub returns : goal.returns
returns g c =
    let d = c.args.self.now.diagram.now in
    let p = c.args.self.now in
    let moves_below : ℕ → List Move = moves_to d.board (passing_of d) p.man (bit c.commanded-reach.result) (bit c.ahead-steps.result) p.from.number in
    adds_as
    (ap moves_below c.in-None.ensures.steps.0
    ∙ to_words d.board (passing_of d) p.man p.from.number _ _ 64 c.commanded-reach.ensures.exact c.ahead-steps.ensures)
    c.loop-to.invariant
