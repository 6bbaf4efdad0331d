-- What the element of a number says of its list.
use Rattle.std.specs.Prelude.{◌≡◌, ℕ, zero, suc, ◌<◌, ◌≤◌, List, [], ◌∷◌, map, length, Some, None, slice_index_or, refl}
use Rattle.std.proofs.Common.{ap, ◌∙◌, arith}
use Rattle.std.specs.List.{slice_get}
use Rattle.std.proofs.lemmas.List.{get_or-map}
use Rattle.form.specs.Forms.{given}

pub nth_none : {X : Type 0} (xs : List X) (i : ℕ) → None ≡ slice_get xs i → length xs ≤ i
nth_none [] i h = omega arith
nth_none (x ∷ xs) zero h = absurd (let z : ◌≡◌ {A = ℕ} 0 1 = cc in omega arith)
nth_none (x ∷ xs) (suc i) h = omega (arith, nth_none xs i h)

pub nth_some : {X : Type 0} (xs : List X) (i : ℕ) (x d : X) → Some x ≡ slice_get xs i → (i < length xs) × (slice_index_or xs i d ≡ x)
nth_some [] i x d h = absurd (let z : ◌≡◌ {A = ℕ} 0 1 = cc in omega arith)
nth_some (y ∷ xs) zero x d h = (omega arith, cc)
nth_some (y ∷ xs) (suc i) x d h = let r = nth_some xs i x d h in (omega (arith, r.0), r.1)

pub nth_map : {X Y : Type 0} (f : X → Y) (xs : List X) (i : ℕ) → slice_get (map f xs) i ≡ given (slice_get xs i) None (λ x. Some (f x))
nth_map f [] i = refl
nth_map f (x ∷ xs) zero = refl
nth_map f (x ∷ xs) (suc i) = nth_map f xs i

-- what stands at the number in a list that is made of it
pub map_at : {X Y : Type 0} (f : X → Y) (xs : List X) (i : ℕ) (x : X) (e : Y) → Some x ≡ slice_get xs i → slice_index_or (map f xs) i e ≡ f x
map_at f xs i x e h = let r = nth_some xs i x x h in get_or-map f xs i x e r.0 ∙ ap f r.1
