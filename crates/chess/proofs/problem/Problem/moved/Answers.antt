use Rattle.std.proofs.Common.{◌-◌, sym, subst, arith}
use Rattle.chess_rules.specs.Lawful.{Lawful}
use Rattle.chess_rules.proofs.Tested.{lawful_means}
use Rattle.chess_moves.specs.declared.diagram.Diagram.{Diagram}
use Rattle.chess.specs.Grown.{choice_keeps, choice_ply, keeps_of}
use Rattle.chess.specs.Flipped.{choice_legal, turn_moves}
use Rattle.chess.specs.Turn.{AttackersTurn}
use Rattle.chess.proofs.problem.Problem.moved.Goals as goal

pub invariant_of-result : goal.invariant_of-result
invariant_of-result c =
    let p = c.args.self.now in
    let k : Lawful c.play-diagram.result =
    subst Lawful (sym c.play-diagram.ensures.exact) (choice_keeps p.plies p.position.diagram c.requires.0 c.args.step c.requires.1 (keeps_of p)) in
    record { fair = (lawful_means c.play-diagram.result).1 k }

pub invariant_of-result-2-clause-turn : goal.invariant_of-result-2-clause-turn
invariant_of-result-2-clause-turn c =
    let p = c.args.self.now in
    let d = p.position.diagram in
    let i = c.requires.0 in
    let v = c.args.step in
    let h = c.requires.1 in
    let turn : AttackersTurn (p.plies - 1) c.play-diagram.result.mover p.attacker
    = subst (λ (e : Diagram). AttackersTurn (p.plies - 1) e.mover p.attacker) (sym c.play-diagram.ensures.exact)
    (turn_moves p.attacker p.plies d (keeps_of p) v (choice_legal p.plies d i v h) (choice_ply p.plies d i v h) p.turn) in
    (λ odd. turn.0 (omega (arith, odd)), λ same. omega (arith, turn.1 same))
