-- The numbers of a pair by cases, and why the definitions that make a pair of others make a pair.
use Rattle.std.specs.Prelude.{◌≡◌, ℕ, ◌+◌, ◌<◌, min, Bool, true, false, cond, ◌&&◌, ◌||◌, T, ◌⊎◌, List, [], ◌∷◌, sum, ◌==◌, ◌≢◌, nat_lt, refl}
use Rattle.std.proofs.Common.{sym, subst, ◌∙◌, inl, inr, arith}
use Rattle.std.proofs.lemmas.List.Sums.{sum_by-cons}
use Rattle.std.proofs.lemmas.Bool.{eqb-true, eq-eqb, ne_eqb, ltb-true, lt-ltb, and_parts, and_from, or_cases, or_left, or_right}
use Rattle.table.specs.Numbers.{top, some_top, capped, least, well}

pub data Form (p d : ℕ) : Type 0 where
  is_won : p ≡ 0 → d ≡ top → Form p d
  is_not_won : p ≡ top → d ≡ 0 → Form p d
  is_open : 0 < p → p < top → 0 < d → d < top → Form p d

passed : (b : Bool) → T b → b ≡ true
passed true t = refl
passed false t = elim t [ ]

passes : (b : Bool) → b ≡ true → T b
passes true e = tt
passes false e = absurd (cc)

pub form : (p d : ℕ) → T (well p d) → Form p d
form p d t = first (or_cases _ _ (passed (well p d) t))
  where
    third : ((nat_lt 0 p && nat_lt p top) && (nat_lt 0 d && nat_lt d top)) ≡ true → Form p d
    third e =
        let x = and_parts (nat_lt 0 p && nat_lt p top) (nat_lt 0 d && nat_lt d top) e in
        let y = and_parts (nat_lt 0 p) (nat_lt p top) x.0 in
        let z = and_parts (nat_lt 0 d) (nat_lt d top) x.1 in
        is_open (ltb-true 0 p y.0) (ltb-true p top y.1) (ltb-true 0 d z.0) (ltb-true d top z.1)

    second : ((p == top && d == 0) ≡ true) ⊎ (((nat_lt 0 p && nat_lt p top) && (nat_lt 0 d && nat_lt d top)) ≡ true) → Form p d
    second (inl e) = let x = and_parts (p == top) (d == 0) e in is_not_won (eqb-true p top x.0) (eqb-true d 0 x.1)
    second (inr e) = third e

    first : ((p == 0 && d == top) ≡ true) ⊎ (((p == top && d == 0) || ((nat_lt 0 p && nat_lt p top) && (nat_lt 0 d && nat_lt d top))) ≡ true) → Form p d
    first (inl e) = let x = and_parts (p == 0) (d == top) e in is_won (eqb-true p 0 x.0) (eqb-true d top x.1)
    first (inr e) = second (or_cases _ _ e)

pub formed : (p d : ℕ) → Form p d → T (well p d)
formed p d (is_won a b) = passes (well p d) (or_left (p == 0 && d == top) _ (and_from (p == 0) (d == top) (eq-eqb p 0 a) (eq-eqb d top b)))
formed p d (is_not_won a b) =
    passes (well p d) (or_right (p == 0 && d == top) _ (or_left (p == top && d == 0) _ (and_from (p == top) (d == 0) (eq-eqb p top a) (eq-eqb d 0 b))))
formed p d (is_open a b x y) =
    passes (well p d) (or_right (p == 0 && d == top) _ (or_right (p == top && d == 0) _
    (and_from (nat_lt 0 p && nat_lt p top) (nat_lt 0 d && nat_lt d top)
    (and_from (nat_lt 0 p) (nat_lt p top) (lt-ltb 0 p a) (lt-ltb p top b)) (and_from (nat_lt 0 d) (nat_lt d top) (lt-ltb 0 d x) (lt-ltb d top y)))))

pub exchanged : (p d : ℕ) → T (well p d) → T (well d p)
exchanged p d t = formed d p (go (form p d t))
  where
    go : Form p d → Form d p
    go (is_won a b) = is_not_won b a
    go (is_not_won a b) = is_won b a
    go (is_open a b x y) = is_open x y a b

-- a capped sum of two, and one by its first term

pub capped_low : (a b : ℕ) → (a ≢ top) → (b ≢ top) → capped (a ∷ b ∷ []) ≡ min (a + b) 999999999
unfolding capped
capped_low a b h k = rw (ne_eqb a top h, ne_eqb b top k) (omega arith)

pub capped_left : (a b : ℕ) → a ≡ top → capped (a ∷ b ∷ []) ≡ top
unfolding capped
capped_left a b e = rw (eq-eqb a top e)

pub capped_right : (a b : ℕ) → b ≡ top → capped (a ∷ b ∷ []) ≡ top
unfolding capped
capped_right a b e = go (a == top)
  where
    go : (x : Bool) → cond (x || (b == top || false)) top (min (sum (a ∷ b ∷ [])) 999999999) ≡ top
    go true = refl
    go false = rw (eq-eqb b top e)

pub capped_cons : (a : ℕ) (ns : List ℕ) → capped (a ∷ ns) ≡ capped (a ∷ capped ns ∷ [])
unfolding capped
capped_cons a ns = go (a == top) (some_top ns)
  where
    go : (x y : Bool) → cond (x || y) top (min (sum (a ∷ ns)) 999999999)
        ≡ cond (x || (cond y top (min (sum ns) 999999999) == top || false)) top (min (sum (a ∷ cond y top (min (sum ns) 999999999) ∷ [])) 999999999)
    go true y = refl
    go false true = refl
    go false false =
        rw (ne_eqb (min (sum ns) 999999999) top (λ e. omega arith)) (omega (arith, sum_by-cons (λ x. x) a ns))

-- the least and the capped sum of pairs' numbers make a pair

join : (p d n k : ℕ) → Form p d → Form n k → Form (min p n) (capped (d ∷ k ∷ []))
join p d n k (is_won a b) f = is_won (omega arith) (capped_left d k b)
join p d n k (is_not_won a b) (is_won x y) = is_won (omega arith) (capped_right d k y)
join p d n k (is_not_won a b) (is_not_won x y) =
    let e = capped_low d k (λ z. omega arith) (λ z. omega arith) in is_not_won (omega arith) (e ∙ omega arith)
join p d n k (is_not_won a b) (is_open x y u v) =
    let e = capped_low d k (λ z. omega arith) (λ z. omega arith) in is_open (omega arith) (omega arith) (rw e (omega arith)) (rw e (omega arith))
join p d n k (is_open a b x y) (is_won c e) = is_won (omega arith) (capped_right d k e)
join p d n k (is_open a b x y) (is_not_won c e) =
    let i = capped_low d k (λ z. omega arith) (λ z. omega arith) in is_open (omega arith) (omega arith) (rw i (omega arith)) (rw i (omega arith))
join p d n k (is_open a b x y) (is_open c e u v) =
    let i = capped_low d k (λ z. omega arith) (λ z. omega arith) in is_open (omega arith) (omega arith) (rw i (omega arith)) (rw i (omega arith))

pub joined : (p d n k : ℕ) → T (well p d) → T (well n k) → T (well (min p n) (capped (d ∷ k ∷ [])))
joined p d n k s t = formed (min p n) (capped (d ∷ k ∷ [])) (join p d n k (form p d s) (form n k t))

pub none_formed : T (well (least []) (capped []))
unfolding capped
none_formed = tt

pub more_formed : (p d : ℕ) (ns ks : List ℕ) → T (well p d) → T (well (least ns) (capped ks)) → T (well (least (p ∷ ns)) (capped (d ∷ ks)))
more_formed p d ns ks s t = subst (λ (k : ℕ). T (well (min p (least ns)) k)) (sym (capped_cons d ks)) (joined p d (least ns) (capped ks) s t)
