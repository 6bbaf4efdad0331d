-- What thresholds are for.
use Rattle.std.proofs.Common.{get_or-set_same, ◌≡◌, ℕ, zero, suc, ◌+◌, ◌-◌, ◌<◌, ◌≤◌, min, Bool, true, false, cond, ◌||◌, eqb, ◌⊎◌, List, [], ◌∷◌, map, length, get_or, set, sum, sym, refl, ap, ◌∙◌, ap₂, inl, inr, arith}
use Rattle.std.specs.List.{All, Any}
use native.Mathlib.Decide.{ℕ_discrete, dec_le}
use Rattle.std.proofs.lemmas.List.Sums.{sum_by-cons}
use Rattle.std.proofs.lemmas.Bool.{or_parts, or_from, eq-eqb, ne_eqb}
use Rattle.std.proofs.lemmas.List.{map-set, length-map}
use Rattle.game.specs.Tree.{state}
use Rattle.table.specs.declared.pair.Pair.{Pair}
use Rattle.table.specs.declared.side.Side.{Side}
use Rattle.table.specs.declared.side.Side.TheVariants.{Attacker, Defender}
use Rattle.table.specs.Numbers.{top, some_top, capped, least, others}
use Rattle.table.specs.Pairs.{own, against}
use Rattle.table.specs.Frames.{owns, againsts, chosen_at, FramePair}
use Rattle.table.specs.Storings.{Storing}
use Rattle.table.proofs.Formed.{capped_low, capped_left, capped_cons}
use Rattle.table.proofs.Passes as passes
use Rattle.search_laws.specs.declared.thresholds.Thresholds.{Thresholds}
use Rattle.search_laws.specs.Run.{mover, Reached, Below, chosen, taken, taken_thresholds, replaced, turned, thresholds_at}
use Rattle.search_laws.specs.Claims.{UpToTop, ThresholdsTell, TakesAnother}
use Rattle.search_laws.proofs.Numbers.{first-at}
use Rattle.search_laws.proofs.Counting.{given_reaches_lem}
use Rattle.search_laws.proofs.Taking.{turned-low, below_top, chosen_in}

-- a list of numbers with a new one at a place

least_set : (ns : List ℕ) (i a : ℕ) → i < length ns → least (set ns i a) ≡ min a (least (others i ns))
least_set [] i a h = absurd (omega arith)
least_set (n ∷ ns) zero a h = refl
least_set (n ∷ ns) (suc i) a h = let e = least_set ns i a (omega arith) in omega arith

some_set : (ns : List ℕ) (i b : ℕ) → i < length ns → some_top (set ns i b) ≡ (eqb b top || some_top (others i ns))
some_set [] i b h = absurd (omega arith)
some_set (n ∷ ns) zero b h = refl
some_set (n ∷ ns) (suc i) b h = go (eqb n top) (eqb b top) (some_set ns i b (omega arith))
  where
    go : (x y : Bool) → some_top (set ns i b) ≡ (y || some_top (others i ns)) → (x || some_top (set ns i b)) ≡ (y || (x || some_top (others i ns)))
    go true true e = refl
    go true false e = refl
    go false true e = e
    go false false e = e

sum_set : (ns : List ℕ) (i b : ℕ) → i < length ns → sum (set ns i b) ≡ b + sum (others i ns)
sum_set [] i b h = absurd (omega arith)
sum_set (n ∷ ns) zero b h = sum_by-cons (λ x. x) b ns
sum_set (n ∷ ns) (suc i) b h =
    let e = sum_set ns i b (omega arith) in
    omega (arith, sum_by-cons (λ x. x) n (set ns i b), sum_by-cons (λ x. x) n (others i ns))

capped_whole : (ns : List ℕ) (i b : ℕ) → i < length ns → capped (set ns i b) ≡ capped (b ∷ others i ns)
unfolding capped
capped_whole ns i b h =
    ap₂ (λ (x : Bool) (k : ℕ). cond x top (min k 999999999)) (some_set ns i b h)
    (sum_set ns i b h ∙ sym (sum_by-cons (λ x. x) b (others i ns)))

capped_set : (ns : List ℕ) (i b : ℕ) → i < length ns → capped (set ns i b) ≡ capped (b ∷ capped (others i ns) ∷ [])
capped_set ns i b h = capped_whole ns i b h ∙ capped_cons b (others i ns)

some_others : (ns : List ℕ) (i : ℕ) → some_top ns ≡ false → some_top (others i ns) ≡ false
some_others [] i e = e
some_others (n ∷ ns) zero e = (or_parts (eqb n top) (some_top ns) e).1
some_others (n ∷ ns) (suc i) e =
    let z = or_parts (eqb n top) (some_top ns) e in or_from (eqb n top) (some_top (others i ns)) z.0 (some_others ns i z.1)

none_top : (ns : List ℕ) → capped ns < top → some_top ns ≡ false
unfolding capped
none_top ns = go (some_top ns)
  where
    go : (b : Bool) → cond b top (min (sum ns) 999999999) < top → b ≡ false
    go true h = absurd (omega arith)
    go false h = refl

low_sum : (ns : List ℕ) → some_top ns ≡ false → capped ns < top
unfolding capped
low_sum ns e = rw e (omega arith)

others_low : (ns : List ℕ) (i : ℕ) → capped ns < top → capped (others i ns) < top
others_low ns i h = low_sum (others i ns) (some_others ns i (none_top ns h))

-- the number of the side to move: its threshold p, the taken one's new number a, and the least m of the others

own_reached : (p m a : ℕ) → min p (1 + m) ≤ a → (p ≤ min a m) ⊎ (m < a)
own_reached p m a h = go (dec_le a m)
  where
    go : Dec (a ≤ m) → (p ≤ min a m) ⊎ (m < a)
    go (yes x) = inl (omega arith)
    go (no x) = inr (omega arith)

own_below : (p m a : ℕ) → a < min p (1 + m) → (min a m < p) × (a ≤ m)
own_below p m a h = (omega arith, omega arith)

-- the number against it: its threshold d, the taken one's new number b, and the capped sum r of the others

against_reached : (d r b : ℕ) → d ≤ top → r < top → b ≤ top → cond (eqb d top) top (d - r) ≤ b → d ≤ capped (b ∷ r ∷ [])
against_reached d r b l h k x = go (ℕ_discrete d top) (ℕ_discrete b top)
  where
    go : Dec (d ≡ top) → Dec (b ≡ top) → d ≤ capped (b ∷ r ∷ [])
    go e (yes y) = let z = capped_left b r y in omega arith
    go (yes e) (no y) = let z : top ≤ b = rw (eq-eqb d top e) at x in absurd (omega arith)
    go (no e) (no y) = let z : d - r ≤ b = rw (ne_eqb d top e) at x in let c = capped_low b r y (λ w. omega arith) in omega arith

against_below : (d r b : ℕ) → d ≤ top → r < top → b ≤ top → b < cond (eqb d top) top (d - r) → capped (b ∷ r ∷ []) < d
against_below d r b l h k x = go (ℕ_discrete d top)
  where
    go : Dec (d ≡ top) → capped (b ∷ r ∷ []) < d
    go (yes e) = let z : b < top = rw (eq-eqb d top e) at x in let c = capped_low b r (λ w. omega arith) (λ w. omega arith) in omega arith
    go (no e) = let z : b < d - r = rw (ne_eqb d top e) at x in let c = capped_low b r (λ w. omega arith) (λ w. omega arith) in omega arith

-- numbers of pairs

against_top : (s : Side) (p : Pair) → against s p ≤ top
against_top Attacker p = passes.own-low Defender p
against_top Defender p = passes.own-low Attacker p

map_others : (f : Pair → ℕ) (ps : List Pair) (i : ℕ) → others i (map f ps) ≡ map f (others i ps)
map_others f [] i = refl
map_others f (p ∷ ps) zero = refl
map_others f (p ∷ ps) (suc i) = ap (λ (ns : List ℕ). f p ∷ ns) (map_others f ps i)

-- a number below the least of some pairs, and one above it

least_all : (f : Pair → ℕ) (ps : List Pair) (a : ℕ) → a ≤ least (map f ps) → All (λ p. a ≤ f p) ps
least_all f [] a h k d l = absurd (omega arith)
least_all f (p ∷ ps) a h zero d l = omega arith
least_all f (p ∷ ps) a h (suc k) d l = least_all f ps a (omega arith) k d (omega arith)

least_any : (f : Pair → ℕ) (ps : List Pair) (a : ℕ) → a ≤ top → least (map f ps) < a → Any (λ p. f p < a) ps
least_any f [] a t h = absurd (omega arith)
least_any f (p ∷ ps) a t h = go (dec_le a (f p)) (least_any f ps a t)
  where
    go : Dec (a ≤ f p) → (least (map f ps) < a → Any (λ p. f p < a) ps) → Any (λ p. f p < a) (p ∷ ps)
    go (no x) ih = (0, p, omega arith, refl, omega arith)
    go (yes x) ih = let r = ih (omega arith) in (suc r.0, r.1, let z = r.2 in omega arith, r.3, r.4)

least_at : (f : Pair → ℕ) (ps : List Pair) (a k : ℕ) (p : Pair) → k < length ps → get_or ps k p ≡ p → f p < a → least (map f ps) < a
least_at f [] a k p h e l = absurd (omega arith)
least_at f (x ∷ ps) a zero p h e l = let z : f x ≡ f p = ap f e in omega arith
least_at f (x ∷ ps) a (suc k) p h e l = let i = least_at f ps a k p (omega arith) e l in omega arith

module _ (s : Side) (ps : List Pair) (q : Pair) (inside : chosen_at s ps < length ps) where
  abbrev lesser : ℕ
  lesser = least (others (chosen_at s ps) (owns s ps))

  abbrev rest : ℕ
  rest = capped (others (chosen_at s ps) (againsts s ps))

  new_least : least (owns s (set ps (chosen_at s ps) q)) ≡ min (own s q) lesser
  new_least =
      let n = length-map ps (own s) in
      ap least (map-set (own s) ps (chosen_at s ps) q) ∙ least_set (owns s ps) (chosen_at s ps) (own s q) (omega arith)

  new_sum : capped (againsts s (set ps (chosen_at s ps) q)) ≡ capped (against s q ∷ rest ∷ [])
  new_sum =
      let n = length-map ps (against s) in
      ap capped (map-set (against s) ps (chosen_at s ps) q) ∙ capped_set (againsts s ps) (chosen_at s ps) (against s q) (omega arith)

  some_lesser : lesser < own s q → Any (λ p. own s p < own s q) (others (chosen_at s ps) ps)
  some_lesser h =
      let e = ap least (map_others (own s) ps (chosen_at s ps)) in
      least_any (own s) (others (chosen_at s ps) ps) (own s q) (passes.own-low s q) (omega arith)

  none_lesser : own s q ≤ lesser → All (λ p. own s q ≤ own s p) (others (chosen_at s ps) ps)
  none_lesser h =
      let e = ap least (map_others (own s) ps (chosen_at s ps)) in
      least_all (own s) (others (chosen_at s ps) ps) (own s q) (omega arith)

  another : Any (λ p. own s p < own s q) (others (chosen_at s ps) ps) → chosen_at s (set ps (chosen_at s ps) q) ≡ chosen_at s ps → ⊥
  another a e =
      let ns : List ℕ = owns s (set ps (chosen_at s ps) q) in
      let less = least_at (own s) (others (chosen_at s ps) ps) (own s q) a.0 a.1 a.2 a.3 a.4 in
      let same = ap least (map_others (own s) ps (chosen_at s ps)) in
      let new = new_least in
      let low = passes.own-low s q in
      let n = length-map ps (own s) in
      let there = first-at (least ns) ns 0 refl (omega arith) in
      let here : get_or ns (chosen_at s ps) 0 ≡ own s q =
      ap (λ (xs : List ℕ). get_or xs (chosen_at s ps) 0) (map-set (own s) ps (chosen_at s ps) q)
      ∙ get_or-set_same (owns s ps) (chosen_at s ps) (own s q) 0 (omega arith) in
      let both : get_or ns (chosen_at s (set ps (chosen_at s ps) q)) 0 ≡ get_or ns (chosen_at s ps) 0 = ap (λ (i : ℕ). get_or ns i 0) e in
      omega arith

-- thresholds and pairs as the side to move sees them

as_own : (s : Side) (l : Thresholds) (p : Pair) → Reached (turned s l) p → (l.proof ≤ own s p) ⊎ (l.disproof ≤ against s p)
as_own Attacker l p h = h
as_own Defender l p (inl h) = inr h
as_own Defender l p (inr h) = inl h

from_own : (s : Side) (l : Thresholds) (p : Pair) → ((turned s l).proof ≤ own s p) ⊎ ((turned s l).disproof ≤ against s p) → Reached l p
from_own Attacker l p h = h
from_own Defender l p (inl h) = inr h
from_own Defender l p (inr h) = inl h

below_own : (s : Side) (l : Thresholds) (p : Pair) → Below (turned s l) p → (own s p < l.proof) × (against s p < l.disproof)
below_own Attacker l p h = h
below_own Defender l p h = (h.1, h.0)

own_is_below : (s : Side) (l : Thresholds) (p : Pair) → own s p < (turned s l).proof → against s p < (turned s l).disproof → Below l p
own_is_below Attacker l p h k = (h, k)
own_is_below Defender l p h k = (k, h)

module _ (s : Side) (l : Thresholds) (ps : List Pair) (q p' : Pair) (low : UpToTop l) (inside : chosen_at s ps < length ps)
    (small : capped (againsts s ps) < top) (own_pair : FramePair s (set ps (chosen_at s ps) q) p') where
  bound : (turned s l).disproof ≤ top
  bound = (turned-low s l low).1

  few : rest s ps q inside < top
  few = others_low (againsts s ps) (chosen_at s ps) small

  tells_reached : Reached (thresholds_at s l ps) q → Reached l p' ⊎ Any (λ r. own s r < own s q) (others (chosen_at s ps) ps)
  tells_reached h = go (as_own s _ q h)
    where
      by_least : ((turned s l).proof ≤ min (own s q) (lesser s ps q inside)) ⊎ (lesser s ps q inside < own s q) →
          Reached l p' ⊎ Any (λ r. own s r < own s q) (others (chosen_at s ps) ps)
      by_least (inl x) = let e = new_least s ps q inside in inl (from_own s l p' (inl (omega (arith, own_pair.least))))
      by_least (inr x) = inr (some_lesser s ps q inside x)

      go : ((min (turned s l).proof (1 + lesser s ps q inside)) ≤ own s q)
          ⊎ (cond (eqb (turned s l).disproof top) top ((turned s l).disproof - rest s ps q inside) ≤ against s q) →
          Reached l p' ⊎ Any (λ r. own s r < own s q) (others (chosen_at s ps) ps)
      go (inl x) = by_least (own_reached (turned s l).proof (lesser s ps q inside) (own s q) x)
      go (inr x) =
          let z = against_reached (turned s l).disproof (rest s ps q inside) (against s q) bound few (against_top s q) x in
          let e = new_sum s ps q inside in
          inl (from_own s l p' (inr (omega (arith, own_pair.sum))))

  tells_below : Below (thresholds_at s l ps) q → Below l p' × All (λ r. own s q ≤ own s r) (others (chosen_at s ps) ps)
  tells_below h =
      let k = below_own s _ q h in
      let u = own_below (turned s l).proof (lesser s ps q inside) (own s q) k.0 in
      let v = against_below (turned s l).disproof (rest s ps q inside) (against s q) bound few (against_top s q) k.1 in
      let e = new_least s ps q inside in
      let i = new_sum s ps q inside in
      (own_is_below s l p' (omega (arith, own_pair.least)) (omega (arith, own_pair.sum)), none_lesser s ps q inside u.1)

pub thresholds_tell_lem : ThresholdsTell
thresholds_tell_lem t l ps p q p' low own_pair below new =
    let s : Side = mover (state t) in
    let inside = chosen_in s l ps p low own_pair below in
    let small = (below_top s l ps p low own_pair below).1 in
    (tells_reached s l ps q p' low inside small new, tells_below s l ps q p' low inside small new)

pub takes_another_lem : (S : Storing) → TakesAnother S
takes_another_lem S standing standing' left left' t l ps p q p' low own_pair below e new =
    go ((thresholds_tell_lem t l ps p q p' low own_pair below new).0 (given_reaches_lem S standing standing' left left' (taken t ps) (taken_thresholds t l ps) q e))
  where
    go : Reached l p' ⊎ Any (λ r. own (mover (state t)) r < own (mover (state t)) q) (others (chosen t ps) ps) →
        Reached l p' ⊎ (chosen t (replaced t ps q) ≡ chosen t ps → ⊥)
    go (inl h) = inl h
    go (inr a) = inr (another (mover (state t)) ps q (chosen_in (mover (state t)) l ps p low own_pair below) a)
