-- The moves of a diagram by number: each may be made, and each that may be made has a number.
use Rattle.std.proofs.Common.{◌≡◌, ℕ, zero, suc, ◌<◌, true, eqb, List, [], ◌∷◌, map, length, get_or, Some, sym, refl, ap, inl, inr, arith}
use Rattle.std.specs.List.{slice_get}
use Rattle.std.proofs.lemmas.Bool.{false≢true, eqb-true, eq-eqb, or_cases, or_right, or_left}
use Rattle.board.specs.Masks.{member}
use Rattle.othello_rules.specs.Diagrams.{opponent, placed, passed}
use Rattle.othello_rules.specs.Legal.{IsOver, Legal, Lists}
use Rattle.othello_rules.specs.declared.diagram.Diagram.{Diagram}
use Rattle.othello_rules.proofs.Legality.{placed_leaves, passed_passes}
use Rattle.othello.specs.Moves.{Move, place, pass, May, Becomes, HasMoves, places, passes, over}

-- ---- lists by number

pub at_within : {X : Type 0} (xs : List X) (i : ℕ) (x : X) → Some x ≡ slice_get xs i → i < length xs
at_within [] i x e = absurd (let z : ⊥ = cc in z)
at_within (y ∷ xs) zero x e = omega arith
at_within (y ∷ xs) (suc i) x e = omega (arith, at_within xs i x e)

pub at_number : {X : Type 0} (xs : List X) (i : ℕ) (x d : X) → Some x ≡ slice_get xs i → get_or xs i d ≡ x
at_number [] i x d e = absurd (let z : ⊥ = cc in z)
at_number (y ∷ xs) zero x d e = cc
at_number (y ∷ xs) (suc i) x d e = at_number xs i x d e

pub numbered : {X : Type 0} (xs : List X) (i : ℕ) → i < length xs → (x : X) × (Some x ≡ slice_get xs i)
numbered [] i h = absurd (omega arith)
numbered (x ∷ xs) zero h = (x, refl)
numbered (x ∷ xs) (suc i) h = numbered xs i (omega arith)

pub at_map : {X Y : Type 0} (f : X → Y) (xs : List X) (i : ℕ) (y : Y) → Some y ≡ slice_get (map f xs) i → (x : X) × (Some x ≡ slice_get xs i) × (y ≡ f x)
at_map f [] i y e = absurd (let z : ⊥ = cc in z)
at_map f (x ∷ xs) zero y e = (x, refl, cc)
at_map f (x ∷ xs) (suc i) y e = at_map f xs i y e

pub map_at : {X Y : Type 0} (f : X → Y) (xs : List X) (i : ℕ) (x : X) → Some x ≡ slice_get xs i → Some (f x) ≡ slice_get (map f xs) i
map_at f [] i x e = absurd (let z : ⊥ = cc in z)
map_at f (y ∷ xs) zero x e = let z : x ≡ y = cc in ap (λ (w : _). Some (f w)) z
map_at f (y ∷ xs) (suc i) x e = map_at f xs i x e

at_member : (l : List ℕ) (i s : ℕ) → Some s ≡ slice_get l i → member s l ≡ true
unfolding member
at_member [] i s e = absurd (let z : ⊥ = cc in z)
at_member (q ∷ l) zero s e = let z : q ≡ s = cc in or_left (eqb q s) (member s l) (eq-eqb q s z)
at_member (q ∷ l) (suc i) s e = or_right (eqb q s) (member s l) (at_member l i s e)

member_at : (l : List ℕ) (s : ℕ) → member s l ≡ true → (i : ℕ) × (Some s ≡ slice_get l i)
unfolding member
member_at [] s e = absurd (false≢true e)
member_at (q ∷ l) s e = elim (or_cases (eqb q s) (member s l) e) [
  | inl z ↦ (let w : q ≡ s = eqb-true q s z in (0, ap Some (sym w)))
  | inr z ↦ (let r = member_at l s z in (suc r.0, r.1))
]

-- ---- moves by number

pub listed_legal : (d : Diagram) (l : List ℕ) (i s : ℕ) → Lists d l → Some s ≡ slice_get l i → Legal d.mover d s
listed_legal d l i s k e = (k.legal s).0 (at_member l i s e)

pub at_may : (d : Diagram) (vs : List Move) → HasMoves d vs → (i : ℕ) (v : Move) → Some v ≡ slice_get vs i → May d v
at_may d vs (places l can k) i v e =
    let r = at_map place l i v e in
    rw r.2 (listed_legal d l i r.0 k r.1)
at_may d vs (passes must) zero v e = let z : v ≡ pass = cc in rw z must
at_may d vs (passes must) (suc i) v e = absurd (let z : ⊥ = cc in z)
at_may d vs (over o) i v e = absurd (let z : ⊥ = cc in z)

-- no move may be made once the game is over
pub over_stuck : (d : Diagram) → IsOver d → (v : Move) → May d v → ⊥
over_stuck d o (place s) l = o d.mover (s, l)
over_stuck d o pass must = o (opponent d.mover) must.1

pub may_at : (d : Diagram) (vs : List Move) → HasMoves d vs → (v : Move) → May d v → (i : ℕ) × (Some v ≡ slice_get vs i)
may_at d vs (places l can k) (place s) m = let r = member_at l s ((k.legal s).1 m) in (r.0, map_at place l r.0 s r.1)
may_at d vs (places l can k) pass m = absurd (m.0 can)
may_at d vs (passes must) (place s) m = absurd (must.0 (s, m))
may_at d vs (passes must) pass m = (0, refl)
may_at d vs (over o) v m = absurd (over_stuck d o v m)

-- until the game is over, there is a move
pub some_move : (d : Diagram) (vs : List Move) → HasMoves d vs → (IsOver d → ⊥) → (v : Move) × May d v
some_move d vs (places l can k) n = (place can.0, can.1)
some_move d vs (passes must) n = (pass, must)
some_move d vs (over o) n = absurd (n o)

pub becomes : (d : Diagram) (v : Move) → May d v → (e : Diagram) × Becomes d v e
becomes d (place s) m = (placed d s, placed_leaves d s m)
becomes d pass m = (passed d, passed_passes d)
