-- The bits of words: of one bit, of and, or, not, shifts, and of masks.
use Rattle.std.proofs.Common.{◌≡◌, ℕ, zero, suc, ◌+◌, ◌-◌, ◌*◌, ◌/◌, ◌%◌, ◌^◌, ◌<◌, min, max, Bool, true, false, cond, not, ◌&&◌, ◌||◌, eqb, List, [], ◌∷◌, ◌++◌, count_by, sym, refl, ap, ◌∙◌, ap₂, add_assoc, add_comm, suc-add, pow-suc, div-one, add-one, one-add, arith, pow_mono, shr-shr}
use native.Mathlib.Nat.{add_left_comm}
use lib.Bits.{bit_and, bit_or, and_step, or_step, and_mask, or_lt, shifted_even, shifted_half}
use lib.Pow.{shl-shr, field, mod-mod-pow}
use lib.Dec.{eqb-zero-suc, eqb-suc-zero, eqb-suc-suc}
use lib.Count.{ones, ones_in, ones_step}
use Rattle.std.specs.List.{range_with_len}
use Rattle.std.proofs.lemmas.List.Sums.{sum_by-cons}
use Rattle.std.proofs.lemmas.Bool.Decides.{nat_tests}
use Rattle.std.proofs.lemmas.Bool.{eq-eqb, ne_eqb, both_ways}
use Rattle.std.proofs.lemmas.Nat.{and_shr, or_shr, one_shl}
use Rattle.board.specs.Masks.{bit, member, mask, word}

-- ---- a word by its lowest bit and the rest

pub bit-zero : (w : ℕ) → bit w 0 ≡ eqb (w % 2) 1
unfolding bit
bit-zero w = ap (λ (x : ℕ). eqb (x % 2) 1) (div-one w)

pub bit-suc : (w s : ℕ) → bit w (suc s) ≡ bit (w / 2) s
unfolding bit
bit-suc w s = ap (λ (x : ℕ). eqb (x % 2) 1) (ap (λ (e : ℕ). w / 2 ^ e) (sym (one-add s)) ∙ sym (shr-shr w 1 s))

pub bit-none : (s : ℕ) → bit 0 s ≡ false
bit-none zero = bit-zero 0
bit-none (suc s) = bit-suc 0 s ∙ bit-none s

-- ---- and, or, not

min-one : (p q : ℕ) → p < 2 → q < 2 → eqb (min p q) 1 ≡ (eqb p 1 && eqb q 1)
min-one p q hp hq = grind (arith, nat_tests)

max-one : (p q : ℕ) → p < 2 → q < 2 → eqb (max p q) 1 ≡ (eqb p 1 || eqb q 1)
max-one p q hp hq = grind (arith, nat_tests)

and_odd : (a b : ℕ) → bit_and a b % 2 ≡ min (a % 2) (b % 2)
and_odd a b = omega (arith, and_step a b)

or-odd : (a b : ℕ) → bit_or a b % 2 ≡ max (a % 2) (b % 2)
or-odd a b = omega (arith, or_step a b)

and_half : (a b : ℕ) → bit_and a b / 2 ≡ bit_and (a / 2) (b / 2)
and_half a b = and_shr a b 1

or-half : (a b : ℕ) → bit_or a b / 2 ≡ bit_or (a / 2) (b / 2)
or-half a b = or_shr a b 1

odd-below : (a : ℕ) → a % 2 < 2
odd-below a = omega arith

pub bit-and : (a b s : ℕ) → bit (bit_and a b) s ≡ (bit a s && bit b s)
bit-and a b zero = simp bit-zero (ap (λ (x : ℕ). eqb x 1) (and_odd a b) ∙ min-one (a % 2) (b % 2) (odd-below a) (odd-below b))
bit-and a b (suc s) = simp bit-suc (ap (λ (x : ℕ). bit x s) (and_half a b) ∙ bit-and (a / 2) (b / 2) s)

pub bit-or : (a b s : ℕ) → bit (bit_or a b) s ≡ (bit a s || bit b s)
bit-or a b zero = simp bit-zero (ap (λ (x : ℕ). eqb x 1) (or-odd a b) ∙ max-one (a % 2) (b % 2) (odd-below a) (odd-below b))
bit-or a b (suc s) = simp bit-suc (ap (λ (x : ℕ). bit x s) (or-half a b) ∙ bit-or (a / 2) (b / 2) s)

not-one : (p q : ℕ) → p + q ≡ 1 → eqb p 1 ≡ not (eqb q 1)
not-one p q e = grind (arith, nat_tests)

-- two words that add up to all bits
apart : (j s a b : ℕ) → a + b + 1 ≡ 2 ^ suc (s + j) → bit a s ≡ not (bit b s)
apart j zero a b e =
    simp bit-zero (not-one (a % 2) (b % 2) (omega (arith, e, pow-suc 2 (0 + j))))
apart j (suc s) a b e =
    simp bit-suc
    (apart j s (a / 2) (b / 2) (let k : a + b + 1 ≡ 2 ^ suc (suc (s + j)) = e ∙ ap (λ (x : ℕ). 2 ^ suc x) (suc-add s j) in omega (arith, k, pow-suc 2 (suc (s + j)), pow-suc 2 (s + j))))

pub bit_not : (w a s : ℕ) → s < w → a < 2 ^ w → bit ((2 ^ w - 1) - a) s ≡ not (bit a s)
bit_not w a s h k =
    apart (w - suc s) s ((2 ^ w - 1) - a) a
    (let e : suc (s + (w - suc s)) ≡ w = omega arith in rw e (omega arith))

-- ---- one bit

pow_half : (k : ℕ) → 2 ^ suc k / 2 ≡ 2 ^ k
pow_half k = omega (arith, pow-suc 2 k)

pub bit-single : (k s : ℕ) → bit (2 ^ k) s ≡ eqb k s
bit-single zero zero = bit-zero 1
bit-single zero (suc s) = bit-suc 1 s ∙ bit-none s ∙ sym (eqb-zero-suc s)
bit-single (suc k) zero =
    bit-zero (2 ^ suc k)
    ∙ ap (λ (x : ℕ). eqb x 1) (let e : 2 ^ suc k % 2 ≡ 0 = omega (arith, pow-suc 2 k) in e)
    ∙ sym (eqb-suc-zero k)
bit-single (suc k) (suc s) =
    bit-suc (2 ^ suc k) s ∙ ap (λ (x : ℕ). bit x s) (pow_half k) ∙ bit-single k s ∙ sym (eqb-suc-suc k s)

-- `w & (1 << s) != 0`
and_one : (w : ℕ) → bit_and w 1 ≡ w % 2
and_one w = and_mask w 1

tested : (w s : ℕ) → not (eqb (bit_and w (2 ^ s)) 0) ≡ bit w s
tested w zero = rw bit-zero (ap (λ (x : ℕ). not (eqb x 0)) (and_one w) ∙ odd (w % 2) (odd-below w))
  where
    odd : (p : ℕ) → p < 2 → not (eqb p 0) ≡ eqb p 1
    odd p h = grind (arith, nat_tests)
tested w (suc s) = rw bit-suc (twice (bit_and w (2 ^ suc s)) (bit_and (w / 2) (2 ^ s)) e ∙ tested (w / 2) s)
  where
    twice : (x y : ℕ) → x ≡ y * 2 → not (eqb x 0) ≡ not (eqb y 0)
    twice x y e = grind (arith, nat_tests)

    e : bit_and w (2 ^ suc s) ≡ bit_and (w / 2) (2 ^ s) * 2
    e = rw (← pow_half s) (omega (arith, and_step w (2 ^ suc s), pow-suc 2 s))

pub bit_test : (w s : ℕ) → s < 64 → not (eqb (bit_and w ((1 * 2 ^ s) % 2 ^ 64)) 0) ≡ bit w s
bit_test w s h = rw (one_shl s 64 h) (tested w s)

-- ---- words with the same bits are equal

odd_eq : (p q : ℕ) → p < 2 → q < 2 → eqb p 1 ≡ eqb q 1 → p ≡ q
odd_eq p q hp hq e = grind (arith, nat_tests)

pub bit_ext : (w a b : ℕ) → a < 2 ^ w → b < 2 ^ w → ((s : ℕ) → s < w → bit a s ≡ bit b s) → a ≡ b
bit_ext zero a b ha hb f = omega arith
bit_ext (suc w) a b ha hb f =
    let lo : a % 2 ≡ b % 2 = odd_eq (a % 2) (b % 2) (odd-below a) (odd-below b) (sym (bit-zero a) ∙ f 0 (omega arith) ∙ bit-zero b) in
    let hi : a / 2 ≡ b / 2 =
    bit_ext w (a / 2) (b / 2) (omega (arith, ha, pow-suc 2 w)) (omega (arith, hb, pow-suc 2 w))
    (λ s h. sym (bit-suc a s) ∙ f (suc s) (omega arith) ∙ bit-suc b s) in
    omega arith

-- ---- masks of lists and words of functions

pub bit_mask : (l : List ℕ) (s : ℕ) → bit (mask l) s ≡ member s l
unfolding mask member
bit_mask [] s = bit-none s
bit_mask (q ∷ qs) s = bit-or (2 ^ q) (mask qs) s ∙ ap₂ (λ (x y : Bool). x || y) (bit-single q s) (bit_mask qs s)

pub bit_word : (n : ℕ) (f : ℕ → Bool) (s : ℕ) → s < n → bit (word n f) s ≡ f s
unfolding word
bit_word zero f s h = absurd (omega arith)
bit_word (suc n) f zero h = rw bit-zero (first (f 0) (word n (λ s. f (suc s))))
  where
    first : (b : Bool) (x : ℕ) → eqb ((cond b 1 0 + 2 * x) % 2) 1 ≡ b
    first true x = ap (λ (y : ℕ). eqb y 1) (let e : (1 + 2 * x) % 2 ≡ 1 = omega arith in e)
    first false x = ap (λ (y : ℕ). eqb y 1) (let e : (0 + 2 * x) % 2 ≡ 0 = omega arith in e)
bit_word (suc n) f (suc s) h = rw (bit-suc, rest (f 0) (word n (λ s. f (suc s)))) (bit_word n (λ s. f (suc s)) s (omega arith))
  where
    rest : (b : Bool) (x : ℕ) → (cond b 1 0 + 2 * x) / 2 ≡ x
    rest true x = omega arith
    rest false x = omega arith

pub word_below : (n : ℕ) (f : ℕ → Bool) → word n f < 2 ^ n
unfolding word
word_below zero f = omega arith
word_below (suc n) f = elim (f 0) as (λ b. cond b 1 0 + 2 * word n (λ s. f (suc s)) < 2 ^ suc n)
    [ true ↦ omega (arith, word_below n (λ s. f (suc s)), pow-suc 2 n) | false ↦ omega (arith, word_below n (λ s. f (suc s)), pow-suc 2 n) ]

-- a word of n bits is the word of its bits
pub word-is : (n a : ℕ) (f : ℕ → Bool) → a < 2 ^ n → ((s : ℕ) → s < n → bit a s ≡ f s) → a ≡ word n f
word-is n a f h k = bit_ext n a (word n f) h (word_below n f) (λ s l. k s l ∙ sym (bit_word n f s l))

-- ---- laws of or, from the bits

or_assoc_bits : (x y z : Bool) → ((x || y) || z) ≡ (x || (y || z))
or_assoc_bits true y z = refl
or_assoc_bits false y z = refl

below_pow : (n : ℕ) → n < 2 ^ n
below_pow zero = omega arith
below_pow (suc n) = omega (arith, below_pow n, pow-suc 2 n)

below_more : (n m : ℕ) → n < 2 ^ (n + m)
below_more n m = omega (arith, below_pow n, pow_mono {i = n} {j = n + m} (omega arith))

pub or_assoc : (a b c : ℕ) → bit_or (bit_or a b) c ≡ bit_or a (bit_or b c)
or_assoc a b c =
    let w = a + (b + c) in
    let ha : a < 2 ^ w = below_more a (b + c) in
    let hb : b < 2 ^ w = rw (add_left_comm a b c) (below_more b (a + c)) in
    let hc : c < 2 ^ w = rw (← add_assoc a b c, add_comm (a + b) c) (below_more c (a + b)) in
    bit_ext w (bit_or (bit_or a b) c) (bit_or a (bit_or b c))
    (or_lt w (bit_or a b) c (or_lt w a b ha hb) hc) (or_lt w a (bit_or b c) ha (or_lt w b c hb hc))
    (λ s h. simp bit-or (or_assoc_bits (bit a s) (bit b s) (bit c s)))

-- ---- shifts

pub bit_shr : (a k s : ℕ) → bit (a / 2 ^ k) s ≡ bit a (k + s)
unfolding bit
bit_shr a k s = ap (λ (x : ℕ). eqb (x % 2) 1) (shr-shr a k s)

pub bit_shl : (a k s : ℕ) → bit (a * 2 ^ k) (k + s) ≡ bit a s
bit_shl a k s = sym (bit_shr (a * 2 ^ k) k s) ∙ ap (λ (x : ℕ). bit x s) (shl-shr a k)

pub bit_shl_low : (a k s : ℕ) → s < k → bit (a * 2 ^ k) s ≡ false
bit_shl_low a (suc k) zero h = rw bit-zero (ap (λ (x : ℕ). eqb x 1) (shifted_even a k))
bit_shl_low a (suc k) (suc s) h = rw (bit-suc, shifted_half a k) (bit_shl_low a k s (omega arith))
bit_shl_low a zero s h = absurd (omega arith)

-- what is cut off by `% 2 ^ w` is above
pub bit_cut : (w a s : ℕ) → s < w → bit (a % 2 ^ w) s ≡ bit a s
unfolding bit
bit_cut w a s h =
    ap (λ (x : ℕ). eqb (x % 2) 1) (cut (w - suc s) (omega arith)) ∙ ap (λ (x : ℕ). eqb x 1) (mod-mod-pow (a / 2 ^ s) (w - suc s) 1)
  where
    cut : (j : ℕ) → w ≡ j + 1 + s → a % 2 ^ w / 2 ^ s ≡ a / 2 ^ s % 2 ^ (j + 1)
    cut j e = rw e (field a (j + 1) s)

-- ---- what the tests `w & (1 << s) != 0` and `w & (1 << s) == 0` tell

pub bit-hit : (w s : ℕ) → s < 64 → (bit_and w ((1 * 2 ^ s) % 2 ^ 64) ≡ 0 → ⊥) → bit w s ≡ true
bit-hit w s h ne = sym (bit_test w s h) ∙ ap not (ne_eqb (bit_and w ((1 * 2 ^ s) % 2 ^ 64)) 0 ne)

pub bit_miss : (w s : ℕ) → s < 64 → bit_and w ((1 * 2 ^ s) % 2 ^ 64) ≡ 0 → bit w s ≡ false
bit_miss w s h e = sym (bit_test w s h) ∙ ap not (eq-eqb (bit_and w ((1 * 2 ^ s) % 2 ^ 64)) 0 e)

-- ---- masks of lists joined, and of none

pub mask_append : (xs ys : List ℕ) → mask (xs ++ ys) ≡ bit_or (mask xs) (mask ys)
unfolding mask
mask_append [] ys = refl
mask_append (x ∷ xs) ys = ap (bit_or (2 ^ x)) (mask_append xs ys) ∙ sym (or_assoc (2 ^ x) (mask xs) (mask ys))

pub mask_one : (q : ℕ) (qs : List ℕ) → mask (q ∷ qs) ≡ 0 → ⊥
unfolding member
mask_one q qs e =
    both_ways (bit 0 q) (bit-none q)
    (ap (λ (x : ℕ). bit x q) (sym e) ∙ bit_mask (q ∷ qs) q ∙ first (eqb q q) (member q qs) (eq-eqb q q refl))
  where
    first : (x y : Bool) → x ≡ true → (x || y) ≡ true
    first x y h = rw h

-- ---- counts of bits

shifted : (p q : ℕ → Bool) → ((k : ℕ) → p (suc k) ≡ q k) → (n a : ℕ) → count_by p (range_with_len (a + 1) n) ≡ count_by q (range_with_len a n)
shifted p q f zero a = refl
shifted p q f (suc n) a =
    sum_by-cons (λ x. cond (p x) 1 0) (a + 1) (range_with_len (a + 1 + 1) n)
    ∙ ap₂ (λ (x y : ℕ). x + y) (ap (λ (b : Bool). cond b 1 0) (ap p (add-one a) ∙ f a)) (shifted p q f n (a + 1))
    ∙ sym (sum_by-cons (λ x. cond (q x) 1 0) a (range_with_len (a + 1) n))

odd-count : (p : ℕ) → p < 2 → cond (eqb p 1) 1 0 ≡ p
odd-count p h = grind (arith, nat_tests)

ones_none : ones 0 ≡ 0
unfolding ones ones_in
ones_none = refl

pub ones_bits : (n w : ℕ) → w < 2 ^ n → ones w ≡ count_by (bit w) (range_with_len 0 n)
ones_bits zero w h = let e : w ≡ 0 = omega arith in rw e ones_none
ones_bits (suc n) w h =
    ones_step w
    ∙ ap₂ (λ (x y : ℕ). x + y)
    (sym (ap (λ (b : Bool). cond b 1 0) (bit-zero w) ∙ odd-count (w % 2) (odd-below w)))
    (ones_bits n (w / 2) (omega (arith, h, pow-suc 2 n)) ∙ sym (shifted (bit w) (bit (w / 2)) (bit-suc w) n 0))
    ∙ sym (sum_by-cons (λ x. cond (bit w x) 1 0) 0 (range_with_len 1 n))
