use Rattle.std.proofs.Common.{rules, ◌≡◌, sym, ap, ◌∙◌, subst, Some, List}
use Rattle.std.specs.List.{slice_get}
use Rattle.chess_moves.specs.declared.step.Move.{Move}
use Rattle.chess_moves.specs.Legal.{Legal}
use Rattle.chess_moves.specs.Moves.{listed}
use Rattle.chess_rules.specs.Lawful.{lawful}
use Rattle.chess_rules.proofs.Listed.{next_fair, nth_has}
use Rattle.chess_rules.proofs.position.Position.after.Goals as goal

pub invariant_of-result : goal.invariant_of-result
invariant_of-result c = record {
  fair = ap lawful c.play.ensures.exact
      ∙ next_fair c.args.self.now.diagram c.args.self.now.fair (listed c.moves.result) c.moves.ensures.legal _ c.in_ok-step.step (sym c.in_ok-step.ensures);
}

pub returns-clause-leaves : goal.returns-clause-leaves
returns-clause-leaves c =
    let v : Move = c.in_ok-step.step in
    let at : slice_get (listed c.moves.result) c.args.number ≡ Some v = search rules in
    let h : Legal c.args.self.now.diagram v = c.moves.ensures.legal.sound v (nth_has (listed c.moves.result) c.args.number v at) in
    record {
      step = v;
      of_number = subst (λ (l : List Move). slice_get l c.args.number ≡ Some v) c.moves.ensures.exact at;
      legal = h;
      left = c.play.ensures.leaves (record { man = h.man; there = h.there; ours = h.ours; way = h.way; turns = h.turns });
    }
