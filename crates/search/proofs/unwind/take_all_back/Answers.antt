use Rattle.std.proofs.Common.{length, sym, refl, ap, ◌∙◌, arith}
use Rattle.search.proofs.Backs.{back_more, back-all}
use Rattle.search.proofs.unwind.take_all_back.Goals as goal

pub loop-game-init : goal.loop-game-init
loop-game-init g c = (refl, c.requires)

pub take_move_back-requires : goal.take_move_back-requires
take_move_back-requires g c =
    let d = c.loop-game-test.ensures.discarded in
    let e = ap length d.1 in
    let h = c.loop-game.invariant.1 in
    omega arith

pub loop-game-preserved : goal.loop-game-preserved
loop-game-preserved g c =
    let d = c.loop-game-test.ensures.discarded in
    let e = ap length d.1 in
    let k = ap length c.take_move_back.ensures in
    let h = c.loop-game.invariant.1 in
    (c.loop-game.invariant.0 ∙ back_more d.0 _ _ _ _ _ _ d.1 c.take_move_back.ensures, omega arith)

pub returns-clause-path : goal.returns-clause-path
returns-clause-path g c = sym (c.loop-game.invariant.0 ∙ back-all _ _ _ c.loop-game-test.ensures.discarded.0)
