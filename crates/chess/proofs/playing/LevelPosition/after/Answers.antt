use Rattle.std.proofs.Common.{◌≡◌, sym, ap, ◌∙◌, subst, rules}
use Rattle.game.specs.Tree.{nowhere}
use Rattle.chess_moves.specs.After.{played}
use Rattle.chess.specs.Trees.{tree}
use Rattle.chess.specs.Positions.{tree_of}
use Rattle.chess.specs.Grown.{choice_in, choice_tree, choice_none}
use Rattle.chess.specs.Problems.{diagram_of, Follows}
use Rattle.chess.proofs.Following.{follows}
use Rattle.chess.proofs.playing.LevelPosition.after.Goals as goal

pub returns-in_err-step-clause-next : goal.returns-in_err-step-clause-next
returns-in_err-step-clause-next c =
    let p = c.args.self.now.problem in
    rw c.from_residual.ensures (choice_none p.attacker p.plies p.position.diagram c.args.i (sym c.in_err-step.was ∙ c.pick.ensures))

pub returns-clause-next : goal.returns-clause-next
returns-clause-next c =
    let p = c.args.self.now.problem in
    let m = c.in_ok-step.step in
    let h = sym c.in_ok-step.was ∙ c.pick.ensures in
    let q = c.moved.ensures in
    let d : diagram_of c.moved.result ≡ played p.position.diagram m = search rules in (
      choice_in p.plies p.position.diagram c.args.i m h p.attacker,
      ap tree_of c.new.ensures
          ∙ ((λ i. tree (q.attacker i) (q.plies i) (d i)) ∙ choice_tree p.plies p.position.diagram c.args.i m h p.attacker nowhere),
    )

pub returns-clause-follows : goal.returns-clause-follows
returns-clause-follows c =
    let p = c.args.self.now.problem in
    let m = c.in_ok-step.step in
    let q = c.moved.ensures in
    let d : diagram_of c.moved.result ≡ played p.position.diagram m = search rules in
    subst (Follows p c.args.i) (sym c.new.ensures) (follows p c.moved.result c.args.i m (sym c.in_ok-step.was ∙ c.pick.ensures) d q.attacker q.plies)
