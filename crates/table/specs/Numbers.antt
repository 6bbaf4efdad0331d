-- Proof and disproof numbers: their greatest, capped sums, what a frame asks of a list of them, and which two of them make a pair.
use Rattle.std.specs.Prelude.{ℕ, zero, suc, min, Bool, false, cond, ◌&&◌, ◌||◌, List, [], ◌∷◌, sum, ◌==◌, nat_lt}

abbrev pub top : ℕ
top = 1000000000

-- whether a term is `top`
abbrev pub some_top : List ℕ → Bool
some_top [] = false
some_top (n ∷ ns) = n == top || some_top ns

-- a capped sum: `top` if a term is `top`, else the lesser of the sum and `top` - 1
unfoldable pub capped : List ℕ → ℕ
capped ns = cond (some_top ns) top (min (sum ns) 999999999)

-- the least number, `top` where there is none
abbrev pub least : List ℕ → ℕ
least [] = top
least (n ∷ ns) = min n (least ns)

-- the first place of a number, or the length where it is not there
abbrev pub first : ℕ → List ℕ → ℕ
first n [] = 0
first n (k ∷ ns) = cond (k == n) 0 (suc (first n ns))

-- all but the one at a place
abbrev pub others : {A : Type 0} → ℕ → List A → List A
others i [] = []
others zero (x ∷ xs) = xs
others (suc i) (x ∷ xs) = x ∷ others i xs

-- a pair's numbers: 0 and `top` if won, `top` and 0 if not won, and else both from 1 to `top` - 1
abbrev pub well : ℕ → ℕ → Bool
well p d = (p == 0 && d == top) || ((p == top && d == 0) || ((nat_lt 0 p && nat_lt p top) && (nat_lt 0 d && nat_lt d top)))
