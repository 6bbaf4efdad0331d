-- Each move leaves fewer moves, so the tree is finite, and its branches are trees of positions.
use Rattle.std.specs.Prelude.{◌≡◌, ℕ, zero, suc, ◌+◌, ◌*◌, ◌<◌, ◌≤◌, Bool, true, false, not, ◌&&◌, ◌||◌, List, [], ◌∷◌, filter, ◌==◌, refl}
use Rattle.std.proofs.Common.{sym, ap, ap₂, ◌∙◌, arith}
use Rattle.std.proofs.Math.Bool.{or_comm}
use Rattle.std.specs.List.{range_with_len, AllByRecursion}
use Rattle.std.proofs.lemmas.Bool.{and_parts, eq-eqb}
use Rattle.std.proofs.ByRecursion.{kept_by_passes, all_kept_by, All-map, All-weaker}
use Rattle.game.specs.Tree.{Tree, node, Moves, move}
use Rattle.board.specs.Masks.{bit, member}
use Rattle.board.proofs.Bits.{bit_word}
use Rattle.othello_rules.specs.Rules.{flipped, legal, any}
use Rattle.othello_rules.specs.Diagrams.{opponent, discs, own, other, empty, empties, moved, own_after, other_after, placeable, placed, passed, placements, turn}
use Rattle.othello_rules.specs.declared.diagram.Diagram.{Diagram}
use Rattle.othello_rules.specs.declared.side.Side.{Side}
use Rattle.othello_rules.specs.declared.side.Side.TheVariants.{X, O}
use Rattle.othello_rules.specs.declared.turn.Turn.{Turn}
use Rattle.othello_rules.specs.declared.turn.Turn.TheVariants.{Place, Pass, Ended}
use Rattle.othello.specs.Endings.{Branch, placing, passing, by_turn, moves_of, state_of, code_of, due, rank_of, branches, root, grown, tree, Grows}
use Rattle.othello.specs.Fewer.{size_lt}
use Rattle.othello.specs.Turns.{pass_answered}

-- ---- a placement fills a square

still : (w o m e : Bool) → not ((w || (e || m)) || (o && not m)) ≡ true → not (w || o) ≡ true
still true o m e h = h
still false true true true h = h
still false true true false h = h
still false true false true h = h
still false true false false h = h
still false false m e h = refl

filled : (w o m e : Bool) → e ≡ true → not ((w || (e || m)) || (o && not m)) ≡ false
filled true o m e h = refl
filled false o m e h = simp h

-- the empty squares of a diagram by its mover's discs and the hostile ones, also after a move
pub empty_words : (d : Diagram) (q : ℕ) → empty d q ≡ not (own d q || other d q)
empty_words d q = go d.mover
  where
    go : (m : Side) → empty d q ≡ not (bit (discs m d) q || bit (discs (opponent m) d) q)
    go X = refl
    go O = ap not (or_comm (bit d.x q) (bit d.o q))

empty_moved : (m : Side) (a b q : ℕ) → empty (moved m a b) q ≡ not (bit a q || bit b q)
empty_moved X a b q = refl
empty_moved O a b q = ap not (or_comm (bit b q) (bit a q))

module _ (d : Diagram) (s : ℕ) where
  after_bits : (q : ℕ) → q < 64 → empty (placed d s) q ≡ not (own_after (own d) (other d) s q || other_after (own d) (other d) s q)
  after_bits q h =
      empty_moved d.mover _ _ q
      ∙ ap₂ (λ (x y : Bool). not (x || y)) (bit_word 64 (own_after (own d) (other d) s) q h) (bit_word 64 (other_after (own d) (other d) s) q h)

  pub on-empty : placeable d s ≡ true → empty d s ≡ true
  unfolding legal
  on-empty e = empty_words d s ∙ (and_parts (not (own d s || other d s)) (any (flipped (own d) (other d) s)) e).0

  pub fewer : s < 64 → placeable d s ≡ true → empties (placed d s) < empties d
  unfolding empties
  fewer h e =
      size_lt (empty (placed d s)) (empty d) s
      (λ q k t. empty_words d q ∙ still (own d q) (other d q) (member q (flipped (own d) (other d) s)) (s == q) (sym (after_bits q k) ∙ t))
      h
      (after_bits s h ∙ filled (own d s) (other d s) (member s (flipped (own d) (other d) s)) (s == s) (eq-eqb s s refl))
      (on-empty e)

-- ---- ranks

pub due_le : (t : Turn) → due t ≤ 1
due_le Place = omega arith
due_le Pass = omega arith
due_le Ended = omega arith

doubled : (a b x y : ℕ) → a < b → x ≤ 1 → 2 * a + x < 2 * b + y
doubled a b x y h k = omega arith

pub placed_rank : (d : Diagram) (s : ℕ) → s < 64 → placeable d s ≡ true → rank_of (placed d s) < rank_of d
unfolding rank_of
placed_rank d s h e = doubled (empties (placed d s)) (empties d) (due (turn (placed d s))) (due (turn d)) (fewer d s h e) (due_le (turn (placed d s)))

pub passed_rank : (d : Diagram) → turn d ≡ Pass → rank_of (passed d) < rank_of d
unfolding rank_of empties
passed_rank d e = less (empties d) (due (turn (passed d))) (due (turn d)) (ap due (pass_answered d e)) (ap due e)
  where
    less : (a x y : ℕ) → x ≡ 0 → y ≡ 1 → 2 * a + x < 2 * a + y
    less a x y i j = omega arith

-- ---- every move leads to a lower rank

-- what is listed is on the board and may be placed
pub all_placeable : (d : Diagram) → AllByRecursion (λ s. (s < 64) × (placeable d s ≡ true)) (placements d)
unfolding placements
all_placeable d = both (filter (placeable d) (range_with_len 0 64)) (all_kept_by (placeable d) (λ s. s < 64) (range_with_len 0 64) (below 64 0)) (kept_by_passes (placeable d) (range_with_len 0 64))
  where
    below : (n a : ℕ) → AllByRecursion (λ s. s < a + n) (range_with_len a n)
    below zero a = tt
    below (suc n) a = (omega arith, All-weaker (λ s. s < a + 1 + n) (λ s. s < a + suc n) (λ s h. omega arith) (range_with_len (a + 1) n) (below n (a + 1)))

    both : (l : List ℕ) → AllByRecursion (λ s. s < 64) l → AllByRecursion (λ s. placeable d s ≡ true) l → AllByRecursion (λ s. (s < 64) × (placeable d s ≡ true)) l
    both [] a b = tt
    both (x ∷ l) a b = ((a.0, b.0), both l a.1 b.1)

-- what holds of every placement and of a pass holds of every move
pub each_move : (d : Diagram) (P : Branch → Type 0)
    → ((s : ℕ) → s < 64 → placeable d s ≡ true → P (placing d s)) → (turn d ≡ Pass → P (passing d)) → AllByRecursion P (moves_of d)
unfolding moves_of
each_move d P f g = go (turn d) refl
  where
    go : (t : Turn) → turn d ≡ t → AllByRecursion P (by_turn d t)
    go Place e = All-map P (placing d) (placements d)
        (All-weaker (λ s. (s < 64) × (placeable d s ≡ true)) (λ s. P (placing d s)) (λ s h. f s h.0 h.1) (placements d) (all_placeable d))
    go Pass e = (g e, tt)
    go Ended e = tt

abbrev Lower : Diagram → Branch → Type 0
Lower d m = rank_of m.to < rank_of d

pub all_lower : (d : Diagram) → AllByRecursion (Lower d) (moves_of d)
all_lower d = each_move d (Lower d) (placed_rank d) (passed_rank d)

-- ---- the tree at any depth that suffices

same_branches : (f g : Diagram → Tree) (l : List Branch) → AllByRecursion (λ m. f m.to ≡ g m.to) l → branches f l ≡ branches g l
same_branches f g [] a = refl
same_branches f g (m ∷ l) a = ap₂ (λ (t : Tree) (ms : Moves). move m.text t ms) a.0 (same_branches f g l a.1)

module _ (attacker : Side) (aim : ℕ) where
  same_root : (d : Diagram) (f g : Diagram → Tree) → ((e : Diagram) → rank_of e < rank_of d → f e ≡ g e) → root attacker aim d f ≡ root attacker aim d g
  same_root d f g h =
      ap (λ (ms : Moves). node (state_of attacker aim d) (rank_of d) (code_of attacker aim d) ms)
      (same_branches f g (moves_of d) (All-weaker (Lower d) (λ m. f m.to ≡ g m.to) (λ m l. h m.to l) (moves_of d) (all_lower d)))

  enough : (n k : ℕ) (d : Diagram) → rank_of d < n → rank_of d < k → grown attacker aim n d ≡ grown attacker aim k d
  unfolding grown
  enough zero k d h i = absurd (omega arith)
  enough (suc n) zero d h i = absurd (omega arith)
  enough (suc n) (suc k) d h i =
      same_root d (grown attacker aim n) (grown attacker aim k) (λ e l. enough n k e (omega arith) (omega arith))

pub grows : Grows
unfolding tree grown
grows attacker aim d =
    same_root attacker aim d (grown attacker aim (rank_of d)) (tree attacker aim) (λ e l. enough attacker aim (rank_of d) (suc (rank_of e)) e l (omega arith))
