-- A set of squares as a word: bit s stands for the square s.
use Rattle.std.specs.Prelude.{ℕ, zero, suc, ◌+◌, ◌*◌, ◌/◌, ◌%◌, ◌^◌, Bool, false, cond, ◌||◌, List, [], ◌∷◌, length, filter, ◌==◌, bit_or}
use Rattle.std.specs.List.{range_with_len}

-- whether the word w has the bit s
unfoldable pub bit : ℕ → ℕ → Bool
bit w s = w / 2 ^ s % 2 == 1

-- whether s stands in a list
unfoldable pub member : ℕ → List ℕ → Bool
member s [] = false
member s (q ∷ qs) = q == s || member s qs

-- the word with a bit for each square of a list
unfoldable pub mask : List ℕ → ℕ
mask [] = 0
mask (q ∷ qs) = bit_or (2 ^ q) (mask qs)

-- the word of n bits whose bit s is f s
unfoldable pub word : ℕ → (ℕ → Bool) → ℕ
word zero f = 0
word (suc n) f = cond (f 0) 1 0 + 2 * word n (λ s. f (suc s))

-- how many squares are in a set
unfoldable pub size : (ℕ → Bool) → ℕ
size f = length (filter f (range_with_len 0 64))
