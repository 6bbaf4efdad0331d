-- The lists that the iterators over squares give.
use Rattle.std.proofs.Common.{◌≡◌, ℕ, suc, ◌+◌, ◌-◌, ◌<◌, List, ◌∷◌, length, Some, None, Option, refl, ap, ◌∙◌, sym, subst, arith}
use Rattle.std.specs.List.{range_with_len}
use Rattle.std.proofs.lemmas.Iterator.{YieldsList}
use Rattle.std.proofs.lemmas.Iterator.Consumers.{YieldsList-from_shown}
use Rattle.board.specs.declared.square.Square.{Square}
use Rattle.board.specs.declared.squares.Squares.{Squares}
use Rattle.board.specs.declared.ray.Ray.{Ray}
use Rattle.board.specs.declared.direction.Direction.{Direction}
use Rattle.board.specs.Squares.{reach, away, ray}
use Rattle.board.specs.Iterators.{Counts, Walks}
use Rattle.board.proofs.Walk.{ahead, ahead_start, ahead_more, ahead_end}

abbrev pub number : Square → ℕ
number q = q.number

abbrev pub counting : Squares → Option Square → Squares → Type 0
counting s r t = Counts s.next r t.next

abbrev from : ℕ → List ℕ
from n = range_with_len n (64 - n)

from_more : (n m q : ℕ) → n < 64 → q ≡ n → m ≡ n + 1 → from n ≡ q ∷ from m
from_more n m q h e f = let k : 64 - n ≡ suc (64 - (n + 1)) = omega arith in rw (k, e, f) refl

-- `Square::all()` gives the numbers below 64 in order
pub all_listed : {s : Squares} → s.next ≡ 0 → YieldsList counting number s (range_with_len 0 64)
all_listed {s} e =
    subst (λ (n : ℕ). YieldsList counting number s (from n)) e
    (YieldsList-from_shown counting number (λ t. from t.next)
    (λ s t h. ap (λ (n : ℕ). length (from n)) h.0)
    (λ s x t h. from_more s.next t.next x.number h.0 h.1 h.2) s)

abbrev pub walking : Ray → Option Square → Ray → Type 0
walking s r t = (t.from ≡ s.from) × (t.direction ≡ s.direction) × Walks s.direction s.from.number s.walked r t.walked

-- one call at a ray that began at f in the direction d
module _ (s t : Ray) (f : Square) (d : Direction) (e : s.from ≡ f) (g : s.direction ≡ d) where
  pub record Step (q : Square) : Type 0 where
    pub more : s.walked < reach d f.number
    pub at : q.number ≡ away d f.number (s.walked + 1)
    pub walked : t.walked ≡ s.walked + 1
    pub from : t.from ≡ f
    pub direction : t.direction ≡ d

  pub ray_step : (q : Square) → walking s (Some q) t → Step q
  ray_step q h =
      let w = rw (e, g) at h.2 in
      record { more = w.0; at = w.1; walked = w.2; from = h.0 ∙ e; direction = h.1 ∙ g }

  pub ray_end : walking s None t → s.walked ≡ reach d f.number
  ray_end h = (rw (e, g) at h.2).0

abbrev left : Ray → List ℕ
left s = ahead s.direction s.from.number s.walked

left_end : (s t : Ray) → walking s None t → length (left s) ≡ 0
left_end s t h = ap length (ahead_end s.direction s.from.number s.walked (omega (arith, h.2.0)))

left_more : (s : Ray) (q : Square) (t : Ray) → walking s (Some q) t → left s ≡ q.number ∷ left t
left_more s q t h =
    let same : left t ≡ ahead s.direction s.from.number (s.walked + 1)
    = rw (h.0, h.1, h.2.2) refl in
    ahead_more s.direction s.from.number s.walked q.number h.2.0 h.2.1 ∙ ap (λ (xs : List ℕ). q.number ∷ xs) (sym same)

-- `from.ray(direction)` gives the squares of the ray
pub ray_listed : {r : Ray} {f : Square} {d : Direction} → r.from ≡ f → r.direction ≡ d → r.walked ≡ 0 → YieldsList walking number r (ray d f.number)
ray_listed {r} {f} {d} e g h =
    let same : left r ≡ ray d f.number = rw (e, g, h) (ahead_start d f.number) in
    subst (λ (xs : List ℕ). YieldsList walking number r xs) same (YieldsList-from_shown walking number left left_end left_more r)
