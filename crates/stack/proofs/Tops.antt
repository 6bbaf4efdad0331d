-- The first entries of a slice, the last of them first: one more, one less, none.
use Rattle.std.proofs.Common.{◌≡◌, ℕ, zero, suc, Bool, true, false, None, Some, Option, MatchBool, MatchOption, ◌+◌, ◌-◌, ◌<◌, ◌≤◌, ◌≢◌, List, [], ◌∷◌, ◌++◌, reverse, length, get_or, take, drop, set, sym, refl, ap, ◌∙◌, arith, drop-cons}
use Rattle.std.specs.Borrow.{Bor}
use Rattle.std.specs.List.{slice_get}
use Rattle.std.specs.Option.{option_copied}
use Rattle.std.proofs.lemmas.List.{take_more, take_more_set, drop-set-lt, reverse-append, length-reverse, reverse-reverse, take-append-drop, length-take-le, get_or-take}
use Rattle.std.proofs.lemmas.Option.{slice_get-get_or}
use Rattle.stack.specs.Contents.{tops, TopOf}

pub tops-none : {T : Type 0} (xs : List T) → tops 0 xs ≡ []
unfolding tops
tops-none xs = refl

pub tops-length : {T : Type 0} (n : ℕ) (xs : List T) → n ≤ length xs → length (tops n xs) ≡ n
unfolding tops
tops-length n xs h = length-reverse (take n xs) ∙ length-take-le n xs h

pub tops-set : {T : Type 0} (n : ℕ) (xs : List T) (y : T) → n < length xs → tops (n + 1) (set xs n y) ≡ y ∷ tops n xs
unfolding tops
tops-set n xs y h = ap reverse (take_more_set xs n y h) ∙ reverse-append (take n xs) (y ∷ [])

pub tops-more : {T : Type 0} (n : ℕ) (xs : List T) (d : T) → n < length xs → tops (n + 1) xs ≡ get_or xs n d ∷ tops n xs
unfolding tops
tops-more n xs d h = ap reverse (take_more xs n d h) ∙ reverse-append (take n xs) (get_or xs n d ∷ [])

-- the entry of number n is the top one of n + 1, and the lowest above n
pub one_more : {T : Type 0} (n : ℕ) (xs : List T) → n < length xs → (e : T) × (tops (n + 1) xs ≡ e ∷ tops n xs) × (drop n xs ≡ e ∷ drop (n + 1) xs)
one_more n [] h = absurd (omega arith)
one_more n (d ∷ xs) h =
    let e : suc n ≡ n + 1 = omega arith in
    (get_or (d ∷ xs) n d, tops-more n (d ∷ xs) d h, drop-cons (d ∷ xs) n d h ∙ ap (λ k. get_or (d ∷ xs) n d ∷ drop k (d ∷ xs)) e)

-- the top entry of n, discarded
pub one_less : {T : Type 0} (n m : ℕ) (xs : List T) → n ≤ length xs → n ≡ m + 1 → (e : T) × (tops n xs ≡ e ∷ tops m xs) × (drop m xs ≡ e ∷ drop n xs)
one_less n m xs f h =
    let more = one_more m xs (omega arith) in
    (more.0, ap (λ k. tops k xs) h ∙ more.1, more.2 ∙ ap (λ k. more.0 ∷ drop k xs) (sym h))

-- what a read at the top gives
pub tops-top : {T : Type 0} (n : ℕ) (xs : List T) (d : T) → n ≢ 0 → n ≤ length xs → tops n xs ≡ get_or xs (n - 1) d ∷ tops (n - 1) xs
tops-top n xs d z h =
    let e : n ≡ (n - 1) + 1 = omega arith in
    ap (λ k. tops k xs) e ∙ tops-more (n - 1) xs d (omega arith)

pub tops-at-none : {T : Type 0} (n : ℕ) (xs : List T) → n ≡ 0 → tops n xs ≡ []
tops-at-none n xs e = ap (λ k. tops k xs) e ∙ tops-none xs

-- what the last of the first n is
pub tops-last : {T : Type 0} (n : ℕ) (xs : List T) (o : Option T) → n ≤ length xs → o ≡ slice_get (take n xs) (length (take n xs) - 1)
    → MatchOption o (tops n xs ≡ []) (λ e. (below : List T) × (tops n xs ≡ e ∷ below))
tops-last zero xs o h p = rw p (tops-none xs)
tops-last (suc n) [] o h p = absurd (omega arith)
tops-last (suc n) (x ∷ xs) o h p =
    let ys = take (suc n) (x ∷ xs) in
    let long : length ys ≡ suc n = length-take-le (suc n) (x ∷ xs) h in
    let at : length ys - 1 ≡ suc n - 1 = omega arith in
    let e : o ≡ Some (get_or (x ∷ xs) (suc n - 1) x) =
    p ∙ slice_get-get_or ys (length ys - 1) x (omega arith)
    ∙ ap (λ k. Some (get_or ys k x)) at ∙ ap Some (get_or-take (suc n) (x ∷ xs) (suc n - 1) x (omega arith)) in
    let some : suc n ≢ 0 = omega arith in
    rw e (tops (suc n - 1) (x ∷ xs), tops-top (suc n) (x ∷ xs) x some h)

-- the same of what is lent
pub tops_lent : {T : Type 0} (n : ℕ) (xs : List T) (o : Option (Bor T)) → n ≤ length xs → option_copied o ≡ slice_get (take n xs) (length (take n xs) - 1) → TopOf n xs o
tops_lent n xs None h p = tops-last n xs None h p
tops_lent n xs (Some r) h p = tops-last n xs (Some r.now) h p

-- a stack whose top entry is e, of which the top entry is discarded
pub popped : {T : Type 0} (o : Option T) (b : Bool) (old new up up' : List T)
    → MatchOption o (old ≡ []) (λ e. (below : List T) × (old ≡ e ∷ below))
    → MatchBool b ((e : T) × (old ≡ e ∷ new) × (up' ≡ e ∷ up)) ((old ≡ []) × (new ≡ []) × (up' ≡ up))
    → MatchOption o ((old ≡ []) × (new ≡ []) × (up' ≡ up)) (λ e. (old ≡ e ∷ new) × (up' ≡ e ∷ up))
popped None true old new up up' p q = absurd (let z = p in let y = q.1 in cc)
popped None false old new up up' p q = q
popped (Some e) true old new up up' p q =
    let z = p.1 in let y = q.1 in let x = q.2 in
    (cc, cc)
popped (Some e) false old new up up' p q = absurd (let z = p.1 in let y = q.0 in cc)

-- what a push writes
pub pushed : {T : Type 0} (n : ℕ) (xs ys : List T) (y : T) → (n < length xs) × (ys ≡ set xs n y)
    → (length (tops n xs) < length xs) × (tops (n + 1) ys ≡ y ∷ tops n xs)
pushed n xs ys y h = (omega (arith, tops-length n xs (omega arith)), ap (tops (n + 1)) h.1 ∙ tops-set n xs y h.0)

-- what a push leaves above
pub left_above : {T : Type 0} (n : ℕ) (xs ys : List T) (y : T) → (n < length xs) × (ys ≡ set xs n y) → (e : T) × (drop n xs ≡ e ∷ drop (n + 1) ys)
left_above n xs ys y h =
    let more = one_more n xs h.0 in
    (more.0, more.2 ∙ sym (ap (λ zs. more.0 ∷ drop (n + 1) zs) h.1 ∙ ap (λ zs. more.0 ∷ zs) (drop-set-lt (n + 1) xs n y (omega arith))))

-- a push on a full stack
pub refused : {T : Type 0} (n : ℕ) (xs ys : List T) (e y : T) → n ≤ length xs → (e ≡ y) × (length xs ≤ n) × (ys ≡ xs)
    → (e ≡ y) × (length (tops n xs) ≡ length xs) × (tops n ys ≡ tops n xs)
refused n xs ys e y f h = (h.0, omega (arith, tops-length n xs f), ap (tops n) h.2)

-- a slice is its first n, the last of them first in tops, and what is above
pub whole : {T : Type 0} (n : ℕ) (xs : List T) → xs ≡ reverse (tops n xs) ++ drop n xs
unfolding tops
whole n xs = sym (ap (λ ys. ys ++ drop n xs) (reverse-reverse (take n xs)) ∙ take-append-drop n xs)
