-- What stands in the lists of commanded squares.
use Rattle.std.proofs.Common.{◌≡◌, ℕ, zero, suc, ◌+◌, ◌<◌, Bool, true, false, ◌||◌, eqb, List, [], ◌∷◌, ◌++◌, Some, None, Decides, Option, refl, ap, ◌∙◌, ⊎_elim, zero-add, arith}
use Rattle.std.specs.List.{list_any, range_with_len}
use Rattle.std.proofs.lemmas.Bool.{eqb-true, eq-eqb, or_cases, or_left, false≢true}
use Rattle.std.proofs.lemmas.List.Folds.{list_any-append}
use Rattle.std.proofs.lemmas.Bool.Decides.{Decides-below_or}
use Rattle.board.specs.Masks.{member}
use Rattle.chess_attacks.specs.declared.men.Man.{Man}
use Rattle.chess_attacks.specs.Men.{Squares}
use Rattle.chess_attacks.specs.Ranges.{range_of}
use Rattle.chess_attacks.specs.Lists.{line, lines, leaps, leap, single, any, eight_ways, eight_leaps}
use Rattle.chess_attacks.specs.Look.{or}

or_assoc : (x y z : Bool) → (x || (y || z)) ≡ ((x || y) || z)
or_assoc true y z = refl
or_assoc false y z = refl

pub member-append : (s : ℕ) (xs ys : List ℕ) → member s (xs ++ ys) ≡ (member s xs || member s ys)
unfolding member
member-append s [] ys = refl
member-append s (x ∷ xs) ys = ap (λ r. eqb x s || r) (member-append s xs ys) ∙ or_assoc (eqb x s) (member s xs) (member s ys)

pub member-lines : (b : Squares) (m : Man) (f s : ℕ) → member s (lines b m f) ≡ eight_ways or (λ d. member s (line b d f (range_of m d)))
unfolding lines
member-lines b m f s = simp member-append

pub member-leaps : (f s : ℕ) → member s (leaps f) ≡ eight_leaps or (λ o e. member s (single (leap o e f)))
unfolding leaps
member-leaps f s = simp member-append

pub member-single : (s : ℕ) (o : Option ℕ) → member s (single o) ≡ true → o ≡ Some s
unfolding member
member-single s None h = absurd (false≢true h)
member-single s (Some t) h = ⊎_elim (λ x. ap Some (eqb-true t s x)) (λ y. absurd (false≢true y)) (or_cases (eqb t s) false h)

pub single-member : (s : ℕ) (o : Option ℕ) → o ≡ Some s → member s (single o) ≡ true
unfolding member
single-member s o e = ap (λ o. member s (single o)) e ∙ or_left (eqb s s) false (eq-eqb s s refl)

pub decides-any : (n : ℕ) (p : ℕ → Bool) → Decides (any n p) ((k : ℕ) × (k < n) × (p k ≡ true))
decides-any n p = Decides-below_or p (λ k. p k ≡ true) (λ n. any n p) (λ k. (λ e. e, λ e. e)) refl (λ n. refl) n

-- one more number, and the same test over a list of numbers
pub range_more : (n a : ℕ) → range_with_len a (suc n) ≡ range_with_len a n ++ (a + n) ∷ []
range_more zero a = let e : a ≡ a + 0 = omega arith in ap (λ x. x ∷ []) e
range_more (suc n) a =
    let e : a + 1 + n ≡ a + suc n = omega arith in
    ap (λ xs. a ∷ xs) (range_more n (a + 1) ∙ ap (λ x. range_with_len (a + 1) n ++ x ∷ []) e)

turned : (x y : Bool) → (x || (y || false)) ≡ (y || x)
turned true true = refl
turned true false = refl
turned false true = refl
turned false false = refl

pub any_listed : (p : ℕ → Bool) (n : ℕ) → list_any p (range_with_len 0 n) ≡ any n p
any_listed p zero = refl
any_listed p (suc n) =
    ap (list_any p) (range_more n 0) ∙ list_any-append p (range_with_len 0 n) ((0 + n) ∷ [])
    ∙ turned (list_any p (range_with_len 0 n)) (p (0 + n)) ∙ (λ i. p (zero-add n i) || any_listed p n i)
