-- A set with fewer squares is smaller.
use Rattle.std.specs.Prelude.{◌≡◌, ℕ, zero, suc, ◌+◌, ◌<◌, ◌≤◌, Bool, true, false, cond, ◌⊎◌, List, ◌∷◌, length, filter, ◌≢◌, refl}
use Rattle.std.proofs.Common.{ap, ◌∙◌, inl, inr, arith}
use Rattle.std.specs.List.{range_with_len}
use Rattle.std.proofs.lemmas.Bool.{false≢true, cases_eq}
use Rattle.std.proofs.lemmas.List.Sums.{length-filter, count_by-le-length}
use Rattle.std.proofs.lemmas.List.FromFn.{length-range_with_len}
use Rattle.board.specs.Masks.{size}

step_le : (b c : Bool) (x : ℕ) (xs ys : List ℕ) → (b ≡ true → c ≡ true) → length xs ≤ length ys → length (cond b (x ∷ xs) xs) ≤ length (cond c (x ∷ ys) ys)
step_le true true x xs ys f h = let k : suc (length xs) ≤ suc (length ys) = omega arith in k
step_le true false x xs ys f h = absurd (false≢true (f refl))
step_le false true x xs ys f h = let k : length xs ≤ suc (length ys) = omega arith in k
step_le false false x xs ys f h = h

step_lt : (b c : Bool) (x : ℕ) (xs ys : List ℕ) → (b ≡ true → c ≡ true) → length xs < length ys → length (cond b (x ∷ xs) xs) < length (cond c (x ∷ ys) ys)
step_lt true true x xs ys f h = let k : suc (length xs) < suc (length ys) = omega arith in k
step_lt true false x xs ys f h = absurd (false≢true (f refl))
step_lt false true x xs ys f h = let k : length xs < suc (length ys) = omega arith in k
step_lt false false x xs ys f h = h

step_new : (b c : Bool) (x : ℕ) (xs ys : List ℕ) → b ≡ false → c ≡ true → length xs ≤ length ys → length (cond b (x ∷ xs) xs) < length (cond c (x ∷ ys) ys)
step_new b c x xs ys e f h = simp (e, f) (let k : length xs < suc (length ys) = omega arith in k)

module _ (f g : ℕ → Bool) where
  kept_le : (n a : ℕ) → ((q : ℕ) → q < a + n → f q ≡ true → g q ≡ true) → length (filter f (range_with_len a n)) ≤ length (filter g (range_with_len a n))
  kept_le zero a h = omega arith
  kept_le (suc n) a h = step_le (f a) (g a) a _ _ (h a (omega arith)) (kept_le n (a + 1) (λ q k. h q (omega arith)))

  kept_lt : (n a s : ℕ) → ((q : ℕ) → q < a + n → f q ≡ true → g q ≡ true) → a ≤ s → s < a + n → f s ≡ false → g s ≡ true
      → length (filter f (range_with_len a n)) < length (filter g (range_with_len a n))
  kept_lt zero a s h l m e k = absurd (omega arith)
  kept_lt (suc n) a s h l m e k =
      pick (cases_eq a s) (λ j. kept_lt n (a + 1) s (λ q r. h q (omega arith)) (omega arith) (omega arith) e k)
    where
      pick : (a ≡ s) ⊎ (a ≢ s) → ((a ≢ s) → length (filter f (range_with_len (a + 1) n)) < length (filter g (range_with_len (a + 1) n)))
          → length (filter f (range_with_len a (suc n))) < length (filter g (range_with_len a (suc n)))
      pick (inl i) r = step_new (f a) (g a) a _ _ (ap f i ∙ e) (ap g i ∙ k) (kept_le n (a + 1) (λ q j. h q (omega arith)))
      pick (inr i) r = step_lt (f a) (g a) a _ _ (h a (omega arith)) (r i)

pub size_le : (f g : ℕ → Bool) → ((q : ℕ) → q < 64 → f q ≡ true → g q ≡ true) → size f ≤ size g
unfolding size
size_le f g h = kept_le f g 64 0 (λ q k. h q (omega arith))

pub size_lt : (f g : ℕ → Bool) (s : ℕ) → ((q : ℕ) → q < 64 → f q ≡ true → g q ≡ true) → s < 64 → f s ≡ false → g s ≡ true → size f < size g
unfolding size
size_lt f g s h k e i = kept_lt f g 64 0 s (λ q l. h q (omega arith)) (omega arith) (omega arith) e i

pub size_few : (f : ℕ → Bool) → size f ≤ 64
unfolding size
size_few f = few (length-filter f (range_with_len 0 64)) (count_by-le-length f (range_with_len 0 64)) (length-range_with_len 0 64)
  where
    few : {a b c : ℕ} → a ≡ b → b ≤ c → c ≡ 64 → a ≤ 64
    few e h i = omega arith
