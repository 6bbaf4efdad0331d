-- What comes after a position by one of its moves.
use Rattle.std.proofs.Common.{◌≡◌, ℕ, List, sym, ap, ◌∙◌, subst, arith}
use Rattle.std.specs.List.{slice_get}
use Rattle.game.specs.Tree.{code}
use Rattle.othello_rules.specs.declared.diagram.Diagram.{Diagram}
use Rattle.othello_rules.specs.declared.side.Side.{Side}
use Rattle.othello.specs.Endings.{tree}
use Rattle.othello.specs.Following.{PlayFollows}
use Rattle.othello.specs.Lawful.{codes_pin_lem}
use Rattle.othello.specs.Listed.{code_is}
use Rattle.othello.specs.Moves.{text_of, Becomes}
use Rattle.othello.proofs.Choices.{numbered, map_at, at_may, becomes}
use Rattle.othello.proofs.Positioned.{leads_so}

-- equal trees are trees of equal diagrams with the same attacker and aim
trees_tell : (a b : Side) (m n : ℕ) (d e : Diagram) → tree a m d ≡ tree b n e → (a ≡ b) × (m ≡ n) × (d ≡ e)
trees_tell a b m n d e q = codes_pin_lem a b m n d e (sym (code_is a m d) ∙ ap code q ∙ code_is b n e)

pub play_follows_lem : PlayFollows
play_follows_lem p q i h e =
    let l = leads_so p.attacker p.aim p.diagram in
    let v = numbered l.list i (omega (arith, h, l.size)) in
    let after = becomes p.diagram v.0 (at_may p.diagram l.list l.moves i v.0 v.1) in
    let same = trees_tell q.attacker p.attacker q.aim p.aim q.diagram after.0 (e ∙ (l.leads i v.0 v.1 after.0 after.1).0) in
    record {
      list = l.list;
      moves = l.moves;
      move = v.0;
      at = v.1;
      text = map_at text_of l.list i v.0 v.1 ∙ ap (λ (ws : List (List ℕ)). slice_get ws i) (sym l.texts);
      becomes = subst (Becomes p.diagram v.0) (sym same.2) after.1;
      attacker = same.0;
      aim = same.1;
    }
