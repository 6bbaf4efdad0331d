-- Minimax over the tree of a position says whether its attacker mates.
use Rattle.std.proofs.Common.{◌≡◌, ℕ, zero, suc, Bool, true, false, ◌≢◌, ◌⊎◌, List, [], ◌∷◌, Decides, sym, refl, ◌∙◌, subst, inl, inr, ⊎_elim, arith}
use Rattle.std.specs.List.{ContainsAt as Has, AllByRecursion}
use Rattle.std.proofs.ByRecursion.{All-weaker, all-has, all_has_itself}
use Rattle.std.proofs.lemmas.Bool.{and_parts, and_from, or_cases, or_left, or_right, false≢true}
use Rattle.game.specs.Tree.{Tree, node, Moves, none as nothing, minimax, some_won, all_won}
use Rattle.game.specs.declared.state.State.{State}
use Rattle.game.specs.declared.state.State.TheVariants.{Won, NotWon, Attacker, Defender}
use Rattle.chess_attacks.specs.declared.men.Side.{Side}
use Rattle.chess_attacks.specs.Men.{same_side}
use Rattle.chess_attacks.proofs.Sides.{side-true, side_same}
use Rattle.chess_attacks.proofs.Meaning.{checked_means}
use Rattle.chess_moves.specs.declared.diagram.Diagram.{Diagram}
use Rattle.chess_moves.specs.declared.step.Move.{Move}
use Rattle.chess_moves.specs.After.{played}
use Rattle.chess_moves.specs.Moves.{legal_moves}
use Rattle.chess_moves.specs.Legal.{Legal, Lists}
use Rattle.chess_moves.specs.Leaves.{Leaves}
use Rattle.chess_moves.proofs.Whole.{lists}
use Rattle.chess_moves.proofs.Leaving.{legal_leaves, legal_once}
use Rattle.chess_rules.specs.Lawful.{Lawful}
use Rattle.chess_rules.proofs.Keeping.{moves-keep}
use Rattle.chess.specs.Code.{code}
use Rattle.chess.specs.Trees.{tree, branches, state_of, standing, no_move, is_in_check}
use Rattle.chess.specs.Mates.{IsStuck, IsMated, Forces, Mates, MinimaxIsMate}
use Rattle.chess.specs.Mates.Forces.{some, every}

-- ---- minimax by the state and the moves
abbrev value : State → Bool → Bool → Bool
value Won x y = true
value NotWon x y = false
value Attacker x y = x
value Defender x y = y

minimax_is : (s : State) (r : ℕ) (c : List ℕ) (m : Moves) → minimax (node s r c m) ≡ value s (some_won m) (all_won m)
unfolding minimax some_won all_won
minimax_is Won r c m = refl
minimax_is NotWon r c m = refl
minimax_is Attacker r c m = refl
minimax_is Defender r c m = refl

module _ (f : Diagram → Tree) (d : Diagram) where
  abbrev Wins : Move → Type 0
  Wins v = minimax (f (played d v)) ≡ true

  some_from : (P : Move → Type 0) (vs : List Move) → AllByRecursion P vs → some_won (branches f d vs) ≡ true → (v : Move) × P v × Wins v
  unfolding minimax some_won all_won
  some_from P [] a h = absurd (false≢true h)
  some_from P (v ∷ vs) a h =
      ⊎_elim (λ x. (v, a.0, x)) (λ y. some_from P vs a.1 y) (or_cases (minimax (f (played d v))) (some_won (branches f d vs)) h)

  some_each : (vs : List Move) → AllByRecursion (λ v. Wins v → some_won (branches f d vs) ≡ true) vs
  unfolding minimax some_won all_won
  some_each [] = tt
  some_each (v ∷ vs) = (
    λ h. or_left (minimax (f (played d v))) (some_won (branches f d vs)) h,
    All-weaker (λ w. Wins w → some_won (branches f d vs) ≡ true) (λ w. Wins w → some_won (branches f d (v ∷ vs)) ≡ true)
        (λ w k h. or_right (minimax (f (played d v))) (some_won (branches f d vs)) (k h)) vs (some_each vs),
  )

  all_from : (vs : List Move) → all_won (branches f d vs) ≡ true → AllByRecursion Wins vs
  unfolding minimax some_won all_won
  all_from [] h = tt
  all_from (v ∷ vs) h = let p = and_parts (minimax (f (played d v))) (all_won (branches f d vs)) h in (p.0, all_from vs p.1)

  all_to : (vs : List Move) → AllByRecursion Wins vs → all_won (branches f d vs) ≡ true
  unfolding minimax some_won all_won
  all_to [] a = refl
  all_to (v ∷ vs) a = and_from (minimax (f (played d v))) (all_won (branches f d vs)) a.0 (all_to vs a.1)

-- ---- a diagram by its side to move, its moves and its check
module _ (a : Side) (d : Diagram) where
  pub their : same_side d.mover a ≡ false → d.mover ≢ a
  their h e = false≢true (sym h ∙ side-true d.mover a e)

  pub no_moves : (vs : List Move) → legal_moves d ≡ vs → vs ≡ [] → IsStuck d
  no_moves vs e z v l =
      let h : Has [] v = subst (λ (us : List Move). Has us v) (e ∙ z) ((lists d).complete v l) in absurd (let y : ⊥ = omega (arith, h.1) in y)

  pub in_lists : (vs : List Move) → legal_moves d ≡ vs → Lists d vs
  in_lists vs e = subst (Lists d) e (lists d)

  pub first_legal : (v : Move) (vs : List Move) → legal_moves d ≡ v ∷ vs → Legal d v
  first_legal v vs e = (in_lists (v ∷ vs) e).sound v (0, omega arith, λ _. refl)

  pub all_legal : (vs : List Move) → legal_moves d ≡ vs → AllByRecursion (Legal d) vs
  all_legal vs e = All-weaker (Has vs) (Legal d) (λ v h. (in_lists vs e).sound v h) vs (all_has_itself vs)

  pub is_mated : same_side d.mover a ≡ false → legal_moves d ≡ [] → is_in_check d ≡ true → IsMated a d
  is_mated o e c = record { theirs = their o; check = (checked_means d.board d.mover).0 c; stuck = no_moves [] e refl }

  -- why it is not mated
  pub own_turn : same_side d.mover a ≡ true → IsMated a d → ⊥
  own_turn o m = m.theirs (side_same d.mover a o)

  pub no_check : is_in_check d ≡ false → IsMated a d → ⊥
  no_check c m = false≢true (sym c ∙ (checked_means d.board d.mover).1 m.check)

  pub can_move : (v : Move) (vs : List Move) → legal_moves d ≡ v ∷ vs → IsMated a d → ⊥
  can_move v vs e m = m.stuck v (first_legal v vs e)

  -- with no ply left
  at_once : (ours : Bool) → same_side d.mover a ≡ ours → (vs : List Move) → legal_moves d ≡ vs → (check : Bool) → is_in_check d ≡ check
      → Decides (value (standing ours (no_move vs) check 0) false true) (IsMated a d)
  at_once true o [] e check c = (λ h. absurd (false≢true h), λ m. absurd (own_turn o m))
  at_once false o [] e true c = (λ _. is_mated o e c, λ _. refl)
  at_once false o [] e false c = (λ h. absurd (false≢true h), λ m. absurd (no_check c m))
  at_once ours o (v ∷ vs) e check c = (λ h. absurd (false≢true h), λ m. absurd (can_move v vs e m))

  -- with a ply left
  module _ (n : ℕ) (f : Diagram → Tree) (k : Lawful d) (ih : (e : Diagram) → Lawful e → Decides (minimax (f e)) (Mates a n e)) where
    abbrev Now : Type 0
    Now = IsMated a d ⊎ Forces a d (Mates a n)

    -- a move wins exactly when the attacker mates from what it leaves
    wins_from : (v : Move) → Legal d v → (e : Diagram) → Leaves d v e → Mates a n e → Wins f d v
    wins_from v l e y h = (ih (played d v) (moves-keep d k v l)).1 (subst (Mates a n) (legal_once d k.whole v l e y) h)

    wins_to : (v : Move) → Legal d v → Wins f d v → (e : Diagram) → Leaves d v e → Mates a n e
    wins_to v l w e y = subst (Mates a n) (sym (legal_once d k.whole v l e y)) ((ih (played d v) (moves-keep d k v l)).0 w)

    left : (v : Move) → Legal d v → Leaves d v (played d v)
    left v l = legal_leaves d k.whole v l

    not_own : d.mover ≡ a → (vs : List Move) → legal_moves d ≡ vs → Now → some_won (branches f d vs) ≡ true
    not_own o vs e (inl m) = absurd (m.theirs o)
    not_own o vs e (inr (some _ v l x y h)) =
        all-has (λ w. Wins f d w → some_won (branches f d vs) ≡ true) vs v (some_each f d vs) ((in_lists vs e).complete v l) (wins_from v l x y h)
    not_own o vs e (inr (every t v l h)) = absurd (t o)

    not_theirs : (d.mover ≢ a) → (v : Move) (vs : List Move) → legal_moves d ≡ v ∷ vs → Now → all_won (branches f d (v ∷ vs)) ≡ true
    not_theirs t v vs e (inl m) = absurd (can_move v vs e m)
    not_theirs t v vs e (inr (some o w l x y h)) = absurd (t o)
    not_theirs t v vs e (inr (every _ w l h)) =
        all_to f d (v ∷ vs)
        (All-weaker (Legal d) (Wins f d) (λ u q. wins_from u q (played d u) (left u q) (h u q (played d u) (left u q))) (v ∷ vs) (all_legal (v ∷ vs) e))

    none_now : legal_moves d ≡ [] → (IsMated a d → ⊥) → Now → ⊥
    none_now e n (inl m) = n m
    none_now e n (inr (some _ v l x y h)) = no_moves [] e refl v l
    none_now e n (inr (every _ v l h)) = no_moves [] e refl v l

    by_moves : (ours : Bool) → same_side d.mover a ≡ ours → (vs : List Move) → legal_moves d ≡ vs → (check : Bool) → is_in_check d ≡ check
        → Decides (value (standing ours (no_move vs) check (suc n)) (some_won (branches f d vs)) (all_won (branches f d vs))) Now
    by_moves true o [] e check c = (λ h. absurd (false≢true h), λ m. absurd (none_now e (own_turn o) m))
    by_moves false o [] e true c = (λ _. inl (is_mated o e c), λ _. refl)
    by_moves false o [] e false c = (λ h. absurd (false≢true h), λ m. absurd (none_now e (no_check c) m))
    by_moves true o (v ∷ vs) e check c = (
      λ h. let r = some_from f d (Legal d) (v ∷ vs) (all_legal (v ∷ vs) e) h in
          inr (some (side_same d.mover a o) r.0 r.1 (played d r.0) (left r.0 r.1) (wins_to r.0 r.1 r.2 (played d r.0) (left r.0 r.1))),
      not_own (side_same d.mover a o) (v ∷ vs) e,
    )
    by_moves false o (v ∷ vs) e check c = (
      λ h. inr (every (their o) v (first_legal v vs e)
          (λ w l. wins_to w l (all-has (Wins f d) (v ∷ vs) w (all_from f d (v ∷ vs) h) ((in_lists (v ∷ vs) e).complete w l)))),
      not_theirs (their o) v vs e,
    )

moved_by : (x y : Bool) (P : Type 0) → x ≡ y → Decides y P → Decides x P
moved_by x y P e h = subst (λ (z : Bool). Decides z P) (sym e) h

tree_end : (a : Side) (d : Diagram) → minimax (tree a zero d) ≡ value (standing (same_side d.mover a) (no_move (legal_moves d)) (is_in_check d) 0) false true
unfolding tree state_of some_won all_won
tree_end a d = minimax_is (standing (same_side d.mover a) (no_move (legal_moves d)) (is_in_check d) 0) 0 (code a 0 d) nothing

tree_more : (a : Side) (n : ℕ) (d : Diagram) → minimax (tree a (suc n) d)
    ≡ value (standing (same_side d.mover a) (no_move (legal_moves d)) (is_in_check d) (suc n)) (some_won (branches (tree a n) d (legal_moves d))) (all_won (branches (tree a n) d (legal_moves d)))
unfolding tree state_of
tree_more a n d =
    minimax_is (standing (same_side d.mover a) (no_move (legal_moves d)) (is_in_check d) (suc n)) (suc n) (code a (suc n) d) (branches (tree a n) d (legal_moves d))

pub minimax_mates : MinimaxIsMate
minimax_mates a zero d k =
    moved_by _ _ (IsMated a d) (tree_end a d) (at_once a d (same_side d.mover a) refl (legal_moves d) refl (is_in_check d) refl)
minimax_mates a (suc n) d k =
    moved_by _ _ (Mates a (suc n) d) (tree_more a n d)
    (by_moves a d n (tree a n) k (minimax_mates a n) (same_side d.mover a) refl (legal_moves d) refl (is_in_check d) refl)
