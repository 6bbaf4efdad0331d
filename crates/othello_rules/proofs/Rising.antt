-- What a filter keeps of rising numbers rises, so no two places have the same.
use Rattle.std.specs.Prelude.{◌≡◌, ℕ, zero, suc, ◌+◌, ◌<◌, ◌≤◌, Bool, true, false, cond, List, [], ◌∷◌, length, filter, slice_index}
use Rattle.std.proofs.Common.{inl, inr, arith}
use Rattle.std.specs.List.{range_with_len}
use Rattle.std.proofs.lemmas.Bool.{cases_order}

abbrev pub Rising : ℕ → List ℕ → Type 0
Rising low [] = Unit {0}
Rising low (x ∷ xs) = (low ≤ x) × Rising (x + 1) xs

lower : (l : List ℕ) (a b : ℕ) → a ≤ b → Rising b l → Rising a l
lower [] a b h r = tt
lower (x ∷ xs) a b h r = (omega (arith, r.0), r.1)

pub rising : (p : ℕ → Bool) (n a : ℕ) → Rising a (filter p (range_with_len a n))
rising p zero a = tt
rising p (suc n) a =
    let r = rising p n (a + 1) in
    elim (p a) as (λ b. Rising a (cond b (a ∷ filter p (range_with_len (a + 1) n)) (filter p (range_with_len (a + 1) n))))
    [ true ↦ (omega arith, r) | false ↦ lower (filter p (range_with_len (a + 1) n)) a (a + 1) (omega arith) r ]

from : (l : List ℕ) (a i : ℕ) → Rising a l → i < length l → a ≤ slice_index l i
from [] a i r h = absurd (omega arith)
from (x ∷ xs) a zero r h = r.0
from (x ∷ xs) a (suc i) r h = omega (arith, r.0, from xs (x + 1) i r.1 (omega arith))

pub less : (l : List ℕ) (a i j : ℕ) → Rising a l → i < j → j < length l → slice_index l i < slice_index l j
less [] a i j r h k = absurd (omega arith)
less (x ∷ xs) a i zero r h k = absurd (omega arith)
less (x ∷ xs) a zero (suc j) r h k = omega (arith, from xs (x + 1) j r.1 (omega arith))
less (x ∷ xs) a (suc i) (suc j) r h k = less xs (x + 1) i j r.1 (omega arith) (omega arith)

pub one_place : (l : List ℕ) (a i j : ℕ) → Rising a l → i < length l → j < length l → slice_index l i ≡ slice_index l j → i ≡ j
one_place l a i j r h k e =
    elim (cases_order i j) [
      | inl z ↦ z
      | inr (inl z) ↦ absurd (omega (arith, less l a i j r z k))
      | inr (inr z) ↦ absurd (omega (arith, less l a j i r z h))
    ]
