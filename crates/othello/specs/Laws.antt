-- Endings keep what every game keeps.
use Rattle.std.specs.Prelude.{◌≡◌, ℕ, ◌^◌, ◌<◌, ◌≤◌, Bool, true, false, cond, List, length, ◌≢◌}
use Rattle.std.proofs.Math.Path.{refl, ap}
use Rattle.std.proofs.Common.{sym, ◌∙◌, subst, arith}
use Rattle.std.specs.List.{AllByRecursion}
use Rattle.std.proofs.ByRecursion.{All-map, All-weaker}
use Rattle.std.proofs.lemmas.Bool.{false≢true}
use Rattle.game.specs.Tree.{Tree, state, rank, code, next, words, ended}
use Rattle.game.specs.Rules.{Alike}
use Rattle.game.specs.declared.state.State.{State}
use Rattle.game.specs.declared.state.State.TheVariants.{Won, NotWon, Attacker, Defender}
use Rattle.board.specs.Masks.{size}
use Rattle.othello_rules.specs.Diagrams.{empty, empties, placeable, placed, passed, placements, turn}
use Rattle.othello_rules.specs.declared.diagram.Diagram.{Diagram}
use Rattle.othello_rules.specs.declared.side.Side.{Side}
use Rattle.othello_rules.specs.declared.side.Side.TheVariants.{X, O}
use Rattle.othello_rules.specs.declared.turn.Turn.{Turn}
use Rattle.othello_rules.specs.declared.turn.Turn.TheVariants.{Place, Pass, Ended}
use Rattle.othello.specs.Limits.{aim_limit, empties_limit, rank_limit}
use Rattle.othello.specs.Endings.{Branch, reached, to_move, state_by, due, rank_of, side_number, moves_of, tree}
use Rattle.othello.specs.Positions.{IsEnding}
use Rattle.othello.specs.Fewer.{size_le}
use Rattle.othello.specs.Turns.{some_listed}
use Rattle.othello.specs.Grown.{on-empty, due_le, each_move, all_lower}
use Rattle.othello.specs.Kept.{Keeps, placed_keeps, passed_keeps}
use Rattle.othello.specs.Listed.{rank_is, code_is, next_is, words_is, state_turn, count_turn, count_place}

-- ---- what holds of the trees of endings holds of positions

pub by_tree : (P : Tree → Type 0)
    → ((attacker : Side) (aim : ℕ) (d : Diagram) → aim ≤ aim_limit → Keeps d → P (tree attacker aim d)) → (t : Tree) → IsEnding t → P t
by_tree P f t e =
    subst P (sym e.is) (f e.attacker e.aim e.diagram e.within
    (record { apart = e.sound.apart; board = (e.sound.x_fits, e.sound.o_fits); few = e.few }))

pub ending : (attacker : Side) (aim : ℕ) (d : Diagram) → aim ≤ aim_limit → Keeps d → IsEnding (tree attacker aim d)
ending attacker aim d h k = record {
  attacker = attacker;
  aim = aim;
  diagram = d;
  within = h;
  sound = record { apart = k.apart; x_fits = k.board.0; o_fits = k.board.1 };
  few = k.few;
  is = refl;
}

-- ---- the state by the turn

going : (a m : Side) → ended (to_move a m) ≡ false
going X X = refl
going X O = refl
going O X = refl
going O O = refl

over_by : (b : Bool) → ended (cond b Won NotWon) ≡ true
over_by true = refl
over_by false = refl

pub alike_self : (t : Tree) → Alike t t
alike_self t = record { states = refl; ranks = refl; counts = refl; texts = refl; codes = λ i h. refl }

never : {T : Type 0} (s : State) → s ≡ Attacker → s ≡ Defender → T
never s e f = absurd (cc)

-- ---- the laws at the tree of a diagram

module _ (attacker : Side) (aim : ℕ) (d : Diagram) where
  -- how many moves there are, by the turn
  pub over_at : ended (state (tree attacker aim d)) ≡ true → length (next (tree attacker aim d)) ≡ 0
  over_at h = go (turn d) refl
    where
      stop : (t : Turn) → t ≡ turn d → ended (state_by attacker aim d t) ≡ false → length (next (tree attacker aim d)) ≡ 0
      stop t e k = absurd (false≢true (sym k ∙ ap ended (sym (state_turn attacker aim d t e)) ∙ h))

      go : (t : Turn) → t ≡ turn d → length (next (tree attacker aim d)) ≡ 0
      go Place e = stop Place e (going attacker d.mover)
      go Pass e = stop Pass e (going attacker d.mover)
      go Ended e = count_turn attacker aim d Ended e

  pub alive_at : ended (state (tree attacker aim d)) ≡ false → 0 < length (next (tree attacker aim d))
  alive_at h = go (turn d) refl
    where
      go : (t : Turn) → t ≡ turn d → 0 < length (next (tree attacker aim d))
      go Place e = omega (arith, count_place attacker aim d e, some_listed d (sym e))
      go Pass e = omega (arith, count_turn attacker aim d Pass e)
      go Ended e = absurd (false≢true (sym h ∙ ap ended (state_turn attacker aim d Ended e) ∙ over_by (reached attacker aim d)))

  -- each placement takes an empty square
  listed_few : length (placements d) ≤ empties d
  unfolding empties placements size
  listed_few = size_le (placeable d) (empty d) (λ s h e. on-empty d s e)

  pub narrow_at : Keeps d → length (next (tree attacker aim d)) ≤ empties_limit
  narrow_at k = go (turn d) refl
    where
      go : (t : Turn) → t ≡ turn d → length (next (tree attacker aim d)) ≤ empties_limit
      go Place e = let f : empties d ≤ empties_limit = k.few in omega (arith, count_place attacker aim d e, listed_few)
      go Pass e = omega (arith, count_turn attacker aim d Pass e)
      go Ended e = omega (arith, count_turn attacker aim d Ended e)

  pub shallow_at : Keeps d → rank (tree attacker aim d) ≤ rank_limit
  unfolding rank_of
  shallow_at k = let f : empties d ≤ empties_limit = k.few in omega (arith, rank_is attacker aim d, due_le (turn d))

  pub ranked_at : ended (state (tree attacker aim d)) ≡ false → 0 < rank (tree attacker aim d)
  unfolding rank_of
  ranked_at h = go (turn d) refl
    where
      go : (t : Turn) → t ≡ turn d → 0 < rank (tree attacker aim d)
      go Place e = omega (arith, rank_is attacker aim d, some_listed d (sym e), listed_few)
      go Pass e = omega (arith, rank_is attacker aim d, ap due e)
      go Ended e = absurd (false≢true (sym h ∙ ap ended (state_turn attacker aim d Ended e) ∙ over_by (reached attacker aim d)))

  -- what holds of every move's outcome holds of the successors
  each_next : (P : Tree → Type 0) → AllByRecursion (λ m. P (tree attacker aim m.to)) (moves_of d) → AllByRecursion P (next (tree attacker aim d))
  each_next P a = subst (AllByRecursion P) (sym (next_is attacker aim d)) (All-map P (λ (m : Branch). tree attacker aim m.to) (moves_of d) a)

  pub closed_at : aim ≤ aim_limit → Keeps d → AllByRecursion IsEnding (next (tree attacker aim d))
  closed_at h k =
      each_next IsEnding (each_move d (λ m. IsEnding (tree attacker aim m.to))
      (λ s l e. ending attacker aim (placed d s) h (placed_keeps d s l e k)) (λ e. ending attacker aim (passed d) h (passed_keeps d k)))

  pub falls_at : AllByRecursion (λ u. rank u < rank (tree attacker aim d)) (next (tree attacker aim d))
  falls_at =
      each_next (λ u. rank u < rank (tree attacker aim d))
      (All-weaker (λ m. rank_of m.to < rank_of d) (λ m. rank (tree attacker aim m.to) < rank (tree attacker aim d))
      (λ m l. omega (arith, rank_is attacker aim m.to, rank_is attacker aim d)) (moves_of d) (all_lower d))

  pub five_at : AllByRecursion (λ x. length x ≡ 5) (words (tree attacker aim d))
  five_at =
      subst (AllByRecursion (λ x. length x ≡ 5)) (sym (words_is attacker aim d))
      (All-map (λ x. length x ≡ 5) (λ (m : Branch). m.text) (moves_of d) (each_move d (λ m. length m.text ≡ 5) (λ s l e. refl) (λ e. refl)))

  side_small : (m : Side) → side_number m < 2 ^ 64
  side_small X = omega arith
  side_small O = omega arith

  pub coded_at : aim ≤ aim_limit → Keeps d → (length (code (tree attacker aim d)) ≡ 5) × AllByRecursion (λ w. w < 2 ^ 64) (code (tree attacker aim d))
  coded_at h k =
      subst (λ (c : List ℕ). (length c ≡ 5) × AllByRecursion (λ w. w < 2 ^ 64) c) (sym (code_is attacker aim d))
      (refl, (k.board.0, (k.board.1, (side_small d.mover, (side_small attacker, (omega arith, tt))))))

  -- the defender is not to move where the mover attacks
  pub attacks_at : d.mover ≡ attacker → state (tree attacker aim d) ≢ Defender
  attacks_at e h = go (turn d) refl
    where
      own : (m : Side) → to_move m m ≡ Attacker
      own X = refl
      own O = refl

      result : (b : Bool) → cond b Won NotWon ≢ Defender
      result true k = absurd (cc)
      result false k = absurd (cc)

      moving : (t : Turn) → t ≡ turn d → state_by attacker aim d t ≢ to_move attacker d.mover
      moving t f k = never (state (tree attacker aim d)) (state_turn attacker aim d t f ∙ k ∙ ap (to_move attacker) e ∙ own attacker) h

      go : (t : Turn) → t ≢ turn d
      go Place f = moving Place f refl
      go Pass f = moving Pass f refl
      go Ended f = result (reached attacker aim d) (sym (state_turn attacker aim d Ended f) ∙ h)
