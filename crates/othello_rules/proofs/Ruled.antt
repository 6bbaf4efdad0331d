-- The rule of turning holds.
use Rattle.std.proofs.Common.{◌≡◌, ℕ, zero, suc, ◌+◌, ◌-◌, ◌<◌, ◌≤◌, Bool, true, false, cond, not, ◌||◌, eqb, ◌⊎◌, List, [], ◌∷◌, ◌++◌, map, length, get_or, take, sym, refl, ap, ◌∙◌, ap₂, inl, inr, arith}
use mathlib.Core.Bool.{or_assoc}
use Rattle.std.specs.List.{range_with_len}
use Rattle.std.proofs.lemmas.Bool.{false≢true, not-true, eqb-true, eq-eqb, cases_eq, and_parts, and_from, or_cases, or_parts, or_left, or_right}
use Rattle.std.proofs.lemmas.List.FromFn.{length-map-range_with_len, get_or-map-range_with_len, take-map-range_with_len}
use Rattle.board.specs.Squares.{reach, away, ray}
use Rattle.board.specs.declared.direction.Direction.{Direction}
use Rattle.board.specs.declared.direction.Direction.TheVariants.{East, West, North, South, NorthEast, NorthWest, SouthEast, SouthWest}
use Rattle.board.specs.Masks.{member}
use Rattle.othello_rules.specs.Rules.{Squares, run, after, begins, turned, flipped, any, legal}
use Rattle.othello_rules.specs.Turning.{Closed, Turning, Flips, Placing}

-- the same on a list
record ClosedIn (own other : Squares) (l : List ℕ) (n : ℕ) : Type 0 where
  within : n < length l
  hostile : (j : ℕ) → j < n → other (get_or l j 0) ≡ true
  ends : other (get_or l n 0) ≡ false
  closes : own (get_or l n 0) ≡ true

module _ (own other : Squares) where
  inner : (x : ℕ) (xs : List ℕ) (n : ℕ) → ClosedIn own other (x ∷ xs) (suc n) → ClosedIn own other xs n
  inner x xs n c = record { within = let h : suc n < suc (length xs) = c.within in omega arith; hostile = λ j h. c.hostile (suc j) (omega arith); ends = c.ends; closes = c.closes }

  run_closed : (l : List ℕ) (n : ℕ) → ClosedIn own other l n → run other l ≡ take n l
  unfolding run
  run_closed [] n c = absurd (let h : n < 0 = c.within in omega arith)
  run_closed (x ∷ xs) zero c = let e : other x ≡ false = c.ends in simp e
  run_closed (x ∷ xs) (suc n) c = let e : other x ≡ true = c.hostile 0 (omega arith) in simp e (ap (λ (l : List ℕ). x ∷ l) (run_closed xs n (inner x xs n c)))

  begins_closed : (l : List ℕ) (n : ℕ) → ClosedIn own other l n → begins own (after other l) ≡ true
  unfolding begins after
  begins_closed [] n c = absurd (let h : n < 0 = c.within in omega arith)
  begins_closed (x ∷ xs) zero c = let e : other x ≡ false = c.ends in simp e c.closes
  begins_closed (x ∷ xs) (suc n) c = let e : other x ≡ true = c.hostile 0 (omega arith) in simp e (begins_closed xs n (inner x xs n c))

  outer : (x : ℕ) (xs : List ℕ) → other x ≡ true → (n : ℕ) × ClosedIn own other xs n → (n : ℕ) × ClosedIn own other (x ∷ xs) n
  outer x xs e (n, c) = (suc n, record { within = let h : n < length xs = c.within in let k : suc n < suc (length xs) = omega arith in k; hostile = elim [ zero ↦ λ h. e | suc j ↦ λ h. c.hostile j (omega arith) ]; ends = c.ends; closes = c.closes })

  pick : (x : ℕ) (xs : List ℕ) (b : Bool) → other x ≡ b → begins own (cond b (after other xs) (x ∷ xs)) ≡ true
      → (begins own (after other xs) ≡ true → (n : ℕ) × ClosedIn own other xs n) → (n : ℕ) × ClosedIn own other (x ∷ xs) n
  unfolding begins
  pick x xs true h e f = outer x xs h (f e)
  pick x xs false h e f = (0, record { within = let k : 0 < suc (length xs) = omega arith in k; hostile = λ j l. absurd (omega arith); ends = h; closes = e })

  found : (l : List ℕ) → begins own (after other l) ≡ true → (n : ℕ) × ClosedIn own other l n
  unfolding begins after
  found [] e = absurd (false≢true e)
  found (x ∷ xs) e = pick x xs (other x) refl e (found xs)

  module _ (d : Direction) (s : ℕ) where
    at : (j : ℕ) → j < reach d s → get_or (ray d s) j 0 ≡ away d s (j + 1)
    at j h = get_or-map-range_with_len (away d s) 1 (reach d s) j (j + 1) 0 h (omega arith)

    long : length (ray d s) ≡ reach d s
    long = length-map-range_with_len (away d s) 1 (reach d s)

    to_list : (n : ℕ) → Closed own other d s n → ClosedIn own other (ray d s) n
    to_list n c = record {
      within = let h : n < reach d s = c.within in omega (arith, long);
      hostile = λ j h. let k : n < reach d s = c.within in ap other (at j (omega arith)) ∙ c.hostile (j + 1) (omega arith) (omega arith);
      ends = ap other (at n c.within) ∙ c.ends;
      closes = ap own (at n c.within) ∙ c.closes;
    }

    from_list : (n : ℕ) → ClosedIn own other (ray d s) n → Closed own other d s n
    from_list n c =
        let h : n < reach d s = (let k : n < length (ray d s) = c.within in omega (arith, long)) in
        record {
          within = h;
          hostile = λ k a b. (let e : k - 1 + 1 ≡ k = omega arith in ap (λ (j : ℕ). other (away d s j)) (sym e)) ∙ sym (ap other (at (k - 1) (omega arith))) ∙ c.hostile (k - 1) (omega arith);
          ends = sym (ap other (at n h)) ∙ c.ends;
          closes = sym (ap own (at n h)) ∙ c.closes;
        }

    closed_turned : (n : ℕ) → Closed own other d s n → turned own other (ray d s) ≡ map (away d s) (range_with_len 1 n)
    unfolding turned
    closed_turned n c =
        simp (begins_closed (ray d s) n (to_list n c))
        (run_closed (ray d s) n (to_list n c) ∙ take-map-range_with_len (away d s) 1 (reach d s) n (let h : n < reach d s = c.within in omega arith))

    open_turned : ((n : ℕ) → Closed own other d s n → ⊥) → turned own other (ray d s) ≡ []
    unfolding turned
    open_turned no_run = go (begins own (after other (ray d s))) refl
      where
        go : (b : Bool) → begins own (after other (ray d s)) ≡ b → cond b (run other (ray d s)) [] ≡ []
        go false e = refl
        go true e = let f = found (ray d s) e in absurd (no_run f.0 (from_list f.0 f.1))

    -- a run that is turned is closed
    closed_run : (b : Bool) → begins own (after other (ray d s)) ≡ b → cond b (run other (ray d s)) [] ≡ [] ⊎ ((n : ℕ) × Closed own other d s n)
    closed_run false e = inl refl
    closed_run true e = let f = found (ray d s) e in inr (f.0, from_list f.0 f.1)

pub turning : Turning
turning own other d s = (closed_turned own other d s, open_turned own other d s)

-- ---- a whole placement

member-append : (q : ℕ) (xs ys : List ℕ) → member q (xs ++ ys) ≡ (member q xs || member q ys)
unfolding member
member-append q [] ys = refl
member-append q (x ∷ xs) ys = elim (eqb x q) as (λ b. (b || member q (xs ++ ys)) ≡ ((b || member q xs) || member q ys))
    [ true ↦ refl | false ↦ member-append q xs ys ]

-- the squares at distances a to a + n - 1
member-counted : (f : ℕ → ℕ) (q n a : ℕ) → member q (map f (range_with_len a n)) ≡ true → (k : ℕ) × ((a ≤ k) × (k < a + n) × (q ≡ f k))
unfolding member
member-counted f q zero a e = absurd (false≢true e)
member-counted f q (suc n) a e = go (eqb (f a) q) refl e (member-counted f q n (a + 1))
  where
    go : (b : Bool) → eqb (f a) q ≡ b → (b || member q (map f (range_with_len (a + 1) n))) ≡ true
        → (member q (map f (range_with_len (a + 1) n)) ≡ true → (k : ℕ) × ((a + 1 ≤ k) × (k < a + 1 + n) × (q ≡ f k)))
        → (k : ℕ) × ((a ≤ k) × (k < a + suc n) × (q ≡ f k))
    go true h e more = (a, (omega arith, omega arith, sym (eqb-true (f a) q h)))
    go false h e more = let r = more e in (r.0, (omega (arith, r.1.0), omega (arith, r.1.1), r.1.2))

counted-member : (f : ℕ → ℕ) (q n a k : ℕ) → a ≤ k → k < a + n → q ≡ f k → member q (map f (range_with_len a n)) ≡ true
unfolding member
counted-member f q zero a k h l e = absurd (omega arith)
counted-member f q (suc n) a k h l e = go (cases_eq a k) (λ m. counted-member f q n (a + 1) k m (omega arith) e)
  where
    go : (a ≡ k) ⊎ (a ≡ k → ⊥) → (a + 1 ≤ k → member q (map f (range_with_len (a + 1) n)) ≡ true) → (eqb (f a) q || member q (map f (range_with_len (a + 1) n))) ≡ true
    go (inl i) more = ap (λ (b : Bool). b || member q (map f (range_with_len (a + 1) n))) (eq-eqb (f a) q (ap f i ∙ sym e))
    go (inr i) more = or_right (eqb (f a) q) _ (more (omega arith))

-- one of the eight directions
in_any : (Direction → Bool) → Bool
in_any f = f East || (f West || (f North || (f South || (f NorthEast || (f NorthWest || (f SouthEast || f SouthWest))))))

to-any : (f : Direction → Bool) (d : Direction) → f d ≡ true → in_any f ≡ true
unfolding in_any
to-any f East e = or_left (f East) _ e
to-any f West e = or_right (f East) _ (or_left (f West) _ e)
to-any f North e = or_right (f East) _ (or_right (f West) _ (or_left (f North) _ e))
to-any f South e = or_right (f East) _ (or_right (f West) _ (or_right (f North) _ (or_left (f South) _ e)))
to-any f NorthEast e = or_right (f East) _ (or_right (f West) _ (or_right (f North) _ (or_right (f South) _ (or_left (f NorthEast) _ e))))
to-any f NorthWest e = or_right (f East) _ (or_right (f West) _ (or_right (f North) _ (or_right (f South) _ (or_right (f NorthEast) _ (or_left (f NorthWest) _ e)))))
to-any f SouthEast e = or_right (f East) _ (or_right (f West) _ (or_right (f North) _ (or_right (f South) _ (or_right (f NorthEast) _ (or_right (f NorthWest) _ (or_left (f SouthEast) _ e))))))
to-any f SouthWest e = or_right (f East) _ (or_right (f West) _ (or_right (f North) _ (or_right (f South) _ (or_right (f NorthEast) _ (or_right (f NorthWest) _ (or_right (f SouthEast) _ e))))))

one_of : (f : Direction → Bool) (d : Direction) (rest : Bool) → (f d || rest) ≡ true → (rest ≡ true → (e : Direction) × (f e ≡ true)) → (e : Direction) × (f e ≡ true)
one_of f d rest h more = elim (or_cases (f d) rest h) [ inl k ↦ (d, k) | inr k ↦ more k ]

from-any : (f : Direction → Bool) → in_any f ≡ true → (d : Direction) × (f d ≡ true)
unfolding in_any
from-any f h =
    one_of f East _ h (λ h. one_of f West _ h (λ h. one_of f North _ h (λ h. one_of f South _ h
    (λ h. one_of f NorthEast _ h (λ h. one_of f NorthWest _ h (λ h. one_of f SouthEast _ h (λ h. (SouthWest, h))))))))

module _ (own other : Squares) (s : ℕ) where
  turned_in : ℕ → Direction → Bool
  turned_in q d = member q (turned own other (ray d s))

  member_flipped : (q : ℕ) → member q (flipped own other s) ≡ in_any (turned_in q)
  unfolding flipped in_any turned_in
  member_flipped q = simp (member-append, or_assoc) refl

  to_flips : (q : ℕ) → member q (flipped own other s) ≡ true → Flips own other s q
  unfolding turned_in turned member
  to_flips q e =
      let w = from-any (turned_in q) (sym (member_flipped q) ∙ e) in
      go w.0 w.1 (closed_run own other w.0 s (begins own (after other (ray w.0 s))) refl)
    where
      go : (d : Direction) → member q (turned own other (ray d s)) ≡ true → (turned own other (ray d s) ≡ []) ⊎ ((n : ℕ) × Closed own other d s n) → Flips own other s q
      go d m (inl z) = absurd (false≢true (sym (ap (member q) z) ∙ m))
      go d m (inr (n, c)) =
          let r = member-counted (away d s) q n 1 (sym (ap (member q) (closed_turned own other d s n c)) ∙ m) in
          record { direction = d; run = n; closed = c; distance = r.0; near = r.1.0; far = omega (arith, r.1.1); there = r.1.2 }

  from_flips : (q : ℕ) → Flips own other s q → member q (flipped own other s) ≡ true
  unfolding turned_in
  from_flips q f =
      member_flipped q
      ∙ to-any (turned_in q) f.direction
      (ap (member q) (closed_turned own other f.direction s f.run f.closed)
      ∙ counted-member (away f.direction s) q f.run 1 f.distance f.near (let h : f.distance ≤ f.run = f.far in omega arith) f.there)

  some_member : (l : List ℕ) → any l ≡ true → (q : ℕ) × (member q l ≡ true)
  unfolding any member
  some_member [] e = absurd (false≢true e)
  some_member (q ∷ l) e = (q, ap (λ (b : Bool). b || member q l) (eq-eqb q q refl))

  member_some : (l : List ℕ) (q : ℕ) → member q l ≡ true → any l ≡ true
  unfolding any member
  member_some [] q e = e
  member_some (x ∷ l) q e = refl

  legal_means : legal own other s ≡ true → (own s ≡ false) × (other s ≡ false) × ((q : ℕ) × Flips own other s q)
  unfolding legal
  legal_means e =
      let p = and_parts (not (own s || other s)) (any (flipped own other s)) e in
      let n = or_parts (own s) (other s) (not-true (own s || other s) p.0) in
      let w = some_member (flipped own other s) p.1 in
      (n.0, n.1, (w.0, to_flips w.0 w.1))

  means_legal : (own s ≡ false) × (other s ≡ false) × ((q : ℕ) × Flips own other s q) → legal own other s ≡ true
  unfolding legal
  means_legal (a, b, (q, f)) =
      and_from (not (own s || other s)) (any (flipped own other s))
      (ap₂ (λ (u v : Bool). not (u || v)) a b) (member_some (flipped own other s) q (from_flips q f))

pub placing : Placing
placing own other s = (λ q. (to_flips own other s q, from_flips own other s q), (legal_means own other s, means_legal own other s))
