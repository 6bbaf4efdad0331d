-- Reading stops within the text.
use Rattle.std.proofs.Common.{◌≡◌, ℕ, suc, ◌+◌, ◌≤◌, List, [], ◌∷◌, length, Some, None, Ok, Err, Option, Result, arith}
use Rattle.form.specs.Forms.{Form, given, reading_from, reading}

pub place_within : {S A : Type 0} (f : Form S A) (t : List ℕ) (n : ℕ) → reading f t ≡ Err n → n ≤ length t
unfolding reading_from
place_within {S} {A} f t n e = omega (arith, from 0 f.first t e)
  where
    stops : (m l : ℕ) → ◌≡◌ {A = Result A ℕ} (Err m) (Err n) → n ≤ m + l
    stops m l k = let z : m ≡ n = cc in omega arith

    ends : (m : ℕ) (o : Option A) → given o (Err m) (λ a. Ok a) ≡ Err n → n ≤ m + 0
    ends m None k = stops m 0 k
    ends m (Some a) k = absurd (cc)

    from : (m : ℕ) (s : S) (x : List ℕ) → reading_from f m s x ≡ Err n → n ≤ m + length x
    from m s [] k = ends m (f.content s) k
    from m s (b ∷ x) k =
        elim (f.next s b) as (λ o. given o (Err m) (λ u. reading_from f (suc m) u x) ≡ Err n → n ≤ m + length (b ∷ x))
        [ None ↦ stops m (length (b ∷ x)) | Some u ↦ λ q. omega (arith, from (suc m) u x q) ] k
