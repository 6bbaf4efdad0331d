-- One more number at the end of a list: its least, the first place of it, the others and their capped sums.
use Rattle.std.proofs.Common.{◌≡◌, ℕ, zero, suc, ◌<◌, ◌≤◌, min, Bool, true, false, cond, ◌||◌, eqb, ◌⊎◌, List, [], ◌∷◌, ◌++◌, length, take, sum, sym, refl, ap, ◌∙◌, subst, ap₂, inl, inr, arith}
use Rattle.std.proofs.lemmas.List.Sums.{sum_by_push}
use Rattle.std.proofs.lemmas.Bool.{eqb-false, eq-eqb, ne_eqb}
use Rattle.std.proofs.lemmas.List.{map_push, length-map, take_all}
use Rattle.table.specs.declared.pair.Pair.{Pair}
use Rattle.table.specs.declared.side.Side.{Side}
use Rattle.table.specs.declared.side.Side.TheVariants.{Attacker, Defender}
use Rattle.table.specs.declared.figures.Tally.{Tally}
use Rattle.table.specs.Numbers.{top, some_top, capped, least, first, others}
use Rattle.table.proofs.Formed.{Form, is_won, is_not_won, is_open, form}
use Rattle.table.specs.Pairs.{own, against}
use Rattle.table.specs.Frames.{owns, againsts, chosen_at, Tallied}
use Rattle.table.proofs.Frames.{pair_at}

pub least_push : (ns : List ℕ) (n : ℕ) → least (ns ++ (n ∷ [])) ≡ min (least ns) n
least_push [] n = omega arith
least_push (k ∷ ns) n = let e = least_push ns n in omega arith

some_push : (ns : List ℕ) (n : ℕ) → some_top (ns ++ (n ∷ [])) ≡ (some_top ns || eqb n top)
some_push [] n = go (eqb n top)
  where
    go : (b : Bool) → (b || false) ≡ b
    go true = refl
    go false = refl
some_push (k ∷ ns) n = go (eqb k top) (some_push ns n)
  where
    go : (b : Bool) → some_top (ns ++ (n ∷ [])) ≡ (some_top ns || eqb n top) → (b || some_top (ns ++ (n ∷ []))) ≡ ((b || some_top ns) || eqb n top)
    go true e = refl
    go false e = e

pub capped_push : (ns : List ℕ) (n : ℕ) → capped (ns ++ (n ∷ [])) ≡ capped (capped ns ∷ n ∷ [])
unfolding capped
capped_push ns n =
    ap (λ (b : Bool). cond b top (min (sum (ns ++ (n ∷ []))) 999999999)) (some_push ns n) ∙ go (some_top ns) (eqb n top)
  where
    go : (x y : Bool) → cond (x || y) top (min (sum (ns ++ (n ∷ []))) 999999999)
        ≡ cond (eqb (cond x top (min (sum ns) 999999999)) top || (y || false)) top (min (sum (cond x top (min (sum ns) 999999999) ∷ n ∷ [])) 999999999)
    go true y = refl
    go false true = rw (ne_eqb (min (sum ns) 999999999) top (λ e. omega arith))
    go false false =
        rw (ne_eqb (min (sum ns) 999999999) top (λ e. omega arith)) (omega (arith, sum_by_push (λ x. x) ns n))

-- the first place of a new least
pub first_new : (ns : List ℕ) (n : ℕ) → (ns ≡ []) ⊎ (n < least ns) → first n (ns ++ (n ∷ [])) ≡ length ns
first_new [] n h = rw (eq-eqb n n refl)
first_new (k ∷ ns) n (inl e) = absurd (cc)
first_new (k ∷ ns) n (inr h) = rw (ne_eqb k n (λ e. omega arith)) (ap suc (first_new ns n (inr (omega arith))))

-- the first place of an old one
pub first_old : (ns : List ℕ) (m n : ℕ) → first m ns < length ns → first m (ns ++ (n ∷ [])) ≡ first m ns
first_old [] m n h = absurd (omega arith)
first_old (k ∷ ns) m n h = go (eqb k m) h (first_old ns m n)
  where
    go : (b : Bool) → cond b 0 (suc (first m ns)) < suc (length ns) → (first m ns < length ns → first m (ns ++ (n ∷ [])) ≡ first m ns)
        → cond b 0 (suc (first m (ns ++ (n ∷ [])))) ≡ cond b 0 (suc (first m ns))
    go true l ih = refl
    go false l ih = ap suc (ih (omega arith))

pub others_new : {A : Type 0} (xs : List A) (x : A) → others (length xs) (xs ++ (x ∷ [])) ≡ xs
others_new [] x = refl
others_new (y ∷ xs) x = ap (λ l. y ∷ l) (others_new xs x)

pub others_old : {A : Type 0} (i : ℕ) (xs : List A) (x : A) → i < length xs → others i (xs ++ (x ∷ [])) ≡ others i xs ++ (x ∷ [])
others_old i [] x h = absurd (omega arith)
others_old zero (y ∷ xs) x h = refl
others_old (suc i) (y ∷ xs) x h = ap (λ l. y ∷ l) (others_old i xs x (omega arith))

pub own-low : (s : Side) (p : Pair) → own s p ≤ top
own-low s p = go s (form p.proof p.disproof p.formed)
  where
    go : (s : Side) → Form p.proof p.disproof → own s p ≤ top
    go Attacker (is_won a b) = omega arith
    go Attacker (is_not_won a b) = omega arith
    go Attacker (is_open a b c d) = omega arith
    go Defender (is_won a b) = omega arith
    go Defender (is_not_won a b) = omega arith
    go Defender (is_open a b c d) = omega arith

-- a frame with a successor takes one of them
pub chosen_in : (s : Side) (ps : List Pair) → 0 < length ps → chosen_at s ps < length ps
chosen_in s [] h = absurd (omega arith)
chosen_in s (p ∷ []) h = rw (eq-eqb (own s p) (min (own s p) top) (let l = own-low s p in omega arith)) (omega arith)
chosen_in s (p ∷ q ∷ ps) h =
    go (least (owns s (p ∷ q ∷ ps))) refl (eqb (own s p) (least (owns s (p ∷ q ∷ ps)))) refl (chosen_in s (q ∷ ps) (omega arith))
  where
    go : (m : ℕ) → m ≡ least (owns s (p ∷ q ∷ ps)) → (b : Bool) → eqb (own s p) m ≡ b → chosen_at s (q ∷ ps) < length (q ∷ ps)
        → cond b 0 (suc (first m (owns s (q ∷ ps)))) < suc (length (q ∷ ps))
    go m e true t l = omega arith
    go m e false t l =
        let n = eqb-false (own s p) m t in
        let i : m ≡ least (owns s (q ∷ ps)) = omega arith in
        let k : first m (owns s (q ∷ ps)) ≡ chosen_at s (q ∷ ps) = ap (λ (x : ℕ). first x (owns s (q ∷ ps))) i in
        omega arith

-- a tally with one more pair

module _ (s : Side) (ps : List Pair) (p : Pair) where
  length_owns : length (owns s ps) ≡ length ps
  length_owns = length-map ps (own s)

  nothing_owned : ps ≡ [] → owns s ps ≡ []
  nothing_owned e = ap (owns s) e

  chosen_new : (ps ≡ []) ⊎ (own s p < least (owns s ps)) → chosen_at s (ps ++ (p ∷ [])) ≡ length ps
  chosen_new h =
      ap (λ (ns : List ℕ). first (least ns) ns) (map_push (own s) ps p)
      ∙ ap (λ (n : ℕ). first n (owns s ps ++ (own s p ∷ []))) (least_push (owns s ps) (own s p) ∙ low h)
      ∙ first_new (owns s ps) (own s p) (here h) ∙ length_owns
    where
      low : (ps ≡ []) ⊎ (own s p < least (owns s ps)) → min (least (owns s ps)) (own s p) ≡ own s p
      low (inl e) = let i : least (owns s ps) ≡ top = ap (λ (x : List Pair). least (owns s x)) e in let l = own-low s p in omega arith
      low (inr l) = omega arith

      here : (ps ≡ []) ⊎ (own s p < least (owns s ps)) → (owns s ps ≡ []) ⊎ (own s p < least (owns s ps))
      here (inl e) = inl (nothing_owned e)
      here (inr l) = inr l

  chosen_old : 0 < length ps → least (owns s ps) ≤ own s p → chosen_at s (ps ++ (p ∷ [])) ≡ chosen_at s ps
  chosen_old h l =
      let low : min (least (owns s ps)) (own s p) ≡ least (owns s ps) = omega arith in
      let c = chosen_in s ps h in
      let e = length_owns in
      ap (λ (ns : List ℕ). first (least ns) ns) (map_push (own s) ps p)
      ∙ ap (λ (n : ℕ). first n (owns s ps ++ (own s p ∷ []))) (least_push (owns s ps) (own s p) ∙ low)
      ∙ first_old (owns s ps) (least (owns s ps)) (own s p) (omega arith)

  module _ (f f' : Tally) (sums : Tallied s ps f) (lowest : f'.least ≡ min f.least (own s p))
      (all : f'.sum ≡ capped (f.sum ∷ against s p ∷ [])) where
    least_more : f'.least ≡ least (owns s (ps ++ (p ∷ [])))
    least_more =
        lowest ∙ ap (λ (n : ℕ). min n (own s p)) sums.lowest ∙ sym (least_push (owns s ps) (own s p)) ∙ ap least (sym (map_push (own s) ps p))

    sum_more : f'.sum ≡ capped (againsts s (ps ++ (p ∷ [])))
    sum_more =
        all ∙ ap (λ (n : ℕ). capped (n ∷ against s p ∷ [])) sums.all ∙ sym (capped_push (againsts s ps) (against s p))
        ∙ ap capped (sym (map_push (against s) ps p))

    pub tallied_new : (ps ≡ []) ⊎ (own s p < f.least) → f'.place ≡ length ps → f'.second ≡ f.least → f'.rest ≡ f.sum
        → Tallied s (ps ++ (p ∷ [])) f'
    tallied_new h at next rest =
        let c = chosen_new (by h) in
        let on : others (chosen_at s (ps ++ (p ∷ []))) (owns s (ps ++ (p ∷ []))) ≡ owns s ps =
        ap₂ others (c ∙ sym length_owns) (map_push (own s) ps p) ∙ others_new (owns s ps) (own s p) in
        let off : others (chosen_at s (ps ++ (p ∷ []))) (againsts s (ps ++ (p ∷ []))) ≡ againsts s ps =
        ap₂ others (c ∙ sym (length-map ps (against s))) (map_push (against s) ps p) ∙ others_new (againsts s ps) (against s p) in
        record {
          lowest = least_more;
          place = at ∙ sym c;
          second = next ∙ sums.lowest ∙ ap least (sym on);
          all = sum_more;
          rest = rest ∙ sums.all ∙ ap capped (sym off);
        }
      where
        by : (ps ≡ []) ⊎ (own s p < f.least) → (ps ≡ []) ⊎ (own s p < least (owns s ps))
        by (inl e) = inl e
        by (inr l) = let e = sums.lowest in inr (omega arith)

    pub tallied_old : 0 < length ps → f.least ≤ own s p → f'.place ≡ f.place → f'.second ≡ min f.second (own s p)
        → f'.rest ≡ capped (f.rest ∷ against s p ∷ []) → Tallied s (ps ++ (p ∷ [])) f'
    tallied_old h l at next rest =
        let low = sums.lowest in
        let c = chosen_old h (omega arith) in
        let i = chosen_in s ps h in
        let j = length_owns in
        let k = length-map ps (against s) in
        let on : others (chosen_at s (ps ++ (p ∷ []))) (owns s (ps ++ (p ∷ []))) ≡ others (chosen_at s ps) (owns s ps) ++ (own s p ∷ []) =
        ap₂ others c (map_push (own s) ps p) ∙ others_old (chosen_at s ps) (owns s ps) (own s p) (omega arith) in
        let off : others (chosen_at s (ps ++ (p ∷ []))) (againsts s (ps ++ (p ∷ []))) ≡ others (chosen_at s ps) (againsts s ps) ++ (against s p ∷ []) =
        ap₂ others c (map_push (against s) ps p) ∙ others_old (chosen_at s ps) (againsts s ps) (against s p) (omega arith) in
        record {
          lowest = least_more;
          place = at ∙ sums.place ∙ sym c;
          second = next ∙ ap (λ (n : ℕ). min n (own s p)) sums.second ∙ sym (least_push (others (chosen_at s ps) (owns s ps)) (own s p)) ∙ ap least (sym on);
          all = sum_more;
          rest = rest ∙ ap (λ (n : ℕ). capped (n ∷ against s p ∷ [])) sums.rest
              ∙ sym (capped_push (others (chosen_at s ps) (againsts s ps)) (against s p)) ∙ ap capped (sym off);
        }

pub none_before : {A : Type 0} (xs : List A) → length xs ≡ 0 → xs ≡ []
none_before [] e = refl
none_before (x ∷ xs) e = absurd (omega arith)

-- a frame with no successor
pub tallied_none : (s : Side) (f : Tally) → f.least ≡ top → f.place ≡ 0 → f.second ≡ top → f.sum ≡ 0 → f.rest ≡ 0 → Tallied s [] f
unfolding capped
tallied_none s f a b c d e = record { lowest = a; place = b; second = c; all = d; rest = e }

pub tallied_all : (s : Side) (ps : List Pair) (i : ℕ) (t : Tally) → length ps ≤ i → Tallied s (take i ps) t → Tallied s ps t
tallied_all s ps i t h k = subst (λ (l : List Pair). Tallied s l t) (take_all i ps h) k

-- the numbers of a frame's pair
pub pair-numbers : (s : Side) (ps : List Pair) (t : Tally) (r : ℕ × ℕ) → Tallied s ps t
    → ((s ≡ Attacker) × (r ≡ (t.least, t.sum))) ⊎ ((s ≡ Defender) × (r ≡ (t.sum, t.least)))
    → (r.0 ≡ (pair_at s ps).proof) × (r.1 ≡ (pair_at s ps).disproof)
pair-numbers Attacker ps t r h (inl e) =
    (ap (λ (x : ℕ × ℕ). x.0) e.1 ∙ h.lowest, ap (λ (x : ℕ × ℕ). x.1) e.1 ∙ h.all)
pair-numbers Attacker ps t r h (inr e) = let n = e.0 in absurd (cc)
pair-numbers Defender ps t r h (inl e) = let n = e.0 in absurd (cc)
pair-numbers Defender ps t r h (inr e) =
    (ap (λ (x : ℕ × ℕ). x.0) e.1 ∙ h.all, ap (λ (x : ℕ × ℕ). x.1) e.1 ∙ h.lowest)
