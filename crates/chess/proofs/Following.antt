-- What comes after a problem by one of its moves.
use Rattle.std.proofs.Common.{◌≡◌, ℕ, ◌-◌, length, Some, None, Option, sym, refl, ap, ◌∙◌, subst, arith}
use Rattle.std.specs.List.{slice_get}
use Rattle.game.specs.Tree.{code, nowhere}
use Rattle.chess_attacks.specs.declared.men.Side.{Side}
use Rattle.chess_moves.specs.declared.diagram.Diagram.{Diagram}
use Rattle.chess_moves.specs.declared.step.Move.{Move}
use Rattle.chess_moves.specs.After.{played}
use Rattle.chess_moves.specs.Leaves.{Leaves}
use Rattle.chess_moves.proofs.Leaving.{legal_leaves}
use Rattle.chess_rules.proofs.Keeping.{moves-keep}
use Rattle.chess.specs.declared.problem.Problem.{Problem}
use Rattle.chess.specs.Trees.{tree}
use Rattle.chess.specs.Choices.{choices_of}
use Rattle.chess.specs.Codes.{codes_tell_lem}
use Rattle.chess.specs.Flipped.{choice_legal}
use Rattle.chess.specs.Grown.{keeps_of, choice_ply, choice_none, choice_tree, code_is, words_nth}
use Rattle.chess.specs.Problems.{diagram_of, attacker_of, plies_of, Follows, PlayFollows}

pub follows : (p q : Problem) (i : ℕ) (v : Move) → Some v ≡ slice_get (choices_of p) i → diagram_of q ≡ played (diagram_of p) v
    → attacker_of q ≡ attacker_of p → plies_of q ≡ plies_of p - 1 → Follows p i q
follows p q i v h d a n =
    let l = choice_legal p.plies p.position.diagram i v h in
    let k = choice_ply p.plies p.position.diagram i v h in
    record {
      move = v;
      legal = l;
      text = words_nth p.attacker p.plies p.position.diagram i (Some v) h;
      leaves = subst (Leaves (diagram_of p) v) (sym d) (legal_leaves (diagram_of p) (keeps_of p).whole v l);
      attacker = a;
      plies = omega arith;
    }

-- equal trees are trees of equal diagrams with the same attacker and plies left
trees_tell : (a c : Side) (m n : ℕ) (d e : Diagram) → length d.board ≡ 64 → length e.board ≡ 64 → tree a m d ≡ tree c n e
    → (a ≡ c) × (m ≡ n) × (d ≡ e)
trees_tell a c m n d e x y q = codes_tell_lem a c m n d e x y (sym (code_is a m d) ∙ (ap code q ∙ code_is c n e))

pub play_follows_lem : PlayFollows
play_follows_lem p q i l e = go (slice_get (choices_of p) i) refl
  where
    go : (o : Option Move) → o ≡ slice_get (choices_of p) i → Follows p i q
    go None h = absurd (let z = choice_none p.attacker p.plies p.position.diagram i h in let y : ⊥ = omega arith in y)
    go (Some v) h =
        let legal = choice_legal p.plies p.position.diagram i v h in
        let same = trees_tell q.attacker p.attacker q.plies (p.plies - 1) q.position.diagram (played p.position.diagram v)
        (keeps_of q).whole (moves-keep p.position.diagram (keeps_of p) v legal).whole
        (e ∙ sym (choice_tree p.plies p.position.diagram i v h p.attacker nowhere)) in
        follows p q i v h same.2 same.0 same.1
