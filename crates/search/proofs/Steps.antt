-- The steps of the run over a stack and lent records, as facts of its model.
use Rattle.std.proofs.Common.{◌≡◌, ℕ, zero, suc, ◌+◌, ◌-◌, ◌*◌, ◌<◌, ◌≤◌, List, [], ◌∷◌, map, length, get_or, take, drop, set, sym, refl, ap, ◌∙◌, subst, ap₂, subst₂, mul-le-mul_right, suc-mul, arith, length-take}
use borrow.Rule.Slice.PartMut.{put_mid}
use Rattle.std.proofs.lemmas.List.{take-take, take-set-le, drop-set-add, length-map}
use Rattle.std.proofs.lemmas.Slice.{between_is, take-put_mid_below, between-put_mid}
use Rattle.table.specs.declared.side.Side.{Side}
use Rattle.game.specs.Tree.{Tree, nowhere, state, rank, code, next}
use Rattle.table.specs.declared.pair.Pair.{Pair}
use Rattle.search_laws.specs.declared.thresholds.Thresholds.{Thresholds}
use Rattle.table.specs.Frames.{chosen_at, FramePair}
use Rattle.search.specs.declared.frame.Frame.{Frame as Kept}
use Rattle.search.specs.declared.frame.Step.{Step}
use Rattle.search.specs.declared.frame.Step.TheVariants.{Enter, Work, Back}
use Rattle.search_laws.specs.Run.{mover, OwnPair, Reached, Below, thresholds_at, tops, listed, Outcome, stopped, gave, Enters, none_left, counted, Works, gives, stops, works_on}
use Rattle.table.specs.Storings.{Storing}
use Rattle.search.specs.Steps.{Waiting, part, waiting_frame, waiting_frames, Through, Comes, free, Fits, Waits, Under, Stands, work, Goes}
use Rattle.search_laws.proofs.Taking.{chosen_in, thresholds-low}
use Rattle.search.specs.Backs.{back}

-- parts of the records

pub part_same : (e : Kept) (rs rs' : List Pair) (k : ℕ) → e.end ≤ k → take k rs' ≡ take k rs → part e rs' ≡ part e rs
part_same e rs rs' k l p =
    between_is rs' e.base e.end
    ∙ ap (drop e.base) (sym (take-take e.end k rs' l) ∙ ap (take e.end) p ∙ take-take e.end k rs l)
    ∙ sym (between_is rs e.base e.end)

take-set_lt : {A : Type 0} (n i : ℕ) (xs : List A) (a : A) → i < n → take n (set xs i a) ≡ set (take n xs) i a
take-set_lt zero i xs a l = absurd (omega arith)
take-set_lt (suc n) i [] a l = refl
take-set_lt (suc n) zero (x ∷ xs) a l = refl
take-set_lt (suc n) (suc i) (x ∷ xs) a l = ap (λ r. x ∷ r) (take-set_lt n i xs a (omega arith))

pub part-set : (e : Kept) (rs : List Pair) (p : Pair) → e.base + e.chosen < e.end → part e (set rs (e.base + e.chosen) p) ≡ set (part e rs) e.chosen p
part-set e rs p l =
    ap (take (e.end - e.base)) (drop-set-add e.base rs e.chosen p)
    ∙ take-set_lt (e.end - e.base) e.chosen (drop e.base rs) p (omega arith)

-- the frames below a change of the records

module _ (w : ℕ) (rs rs' : List Pair) where
  waits_same : (e : Kept) (t : Tree) → part e rs' ≡ part e rs → Waits e t rs → Waits e t rs'
  waits_same e t p h = record { number = h.number ∙ ap (chosen_at (mover (state t))) (sym p); among = h.among }

  under_same : (es : List Kept) (t : Tree) (ts : List Tree) (t₀ : Tree) (ts₀ : List Tree) (k : ℕ) → free es ≤ k → take k rs' ≡ take k rs
      → Under w es t ts rs t₀ ts₀ → Under w es t ts rs' t₀ ts₀ × (waiting_frames es ts rs' ≡ waiting_frames es ts rs)
  unfolding Under waiting_frames
  under_same [] t ts t₀ ts₀ k l p u = (u, refl)
  under_same (e ∷ es) t [] t₀ ts₀ k l p u = absurd u
  under_same (e ∷ es) t (v ∷ ts) t₀ ts₀ k l p u =
      let below = u.0.ends in
      let above = u.0.above in
      let q = part_same e rs rs' k l p in
      let r = under_same es v ts t₀ ts₀ k (omega arith) p u.2 in
      ((u.0, waits_same e v q u.1, r.0), ap₂ (λ (x : List Pair) (fs : List Waiting). (record { at = v; thresholds = e.thresholds; pairs = x }) ∷ fs) q r.1)

-- entering

child_space : (r r' w b n : ℕ) → r' < r → n ≤ w → b + r * w ≤ 6144 → (b + n) + r' * w ≤ 6144
child_space r r' w b n l k h =
    let a = mul-le-mul_right w l in
    let s = suc-mul r' w in
    omega arith

pub entry-space : (r w b n : ℕ) → (0 < n → 0 < r) → n ≤ w → b + r * w ≤ 6144 → b + n ≤ 6144
entry-space r w b zero f k h = omega arith
entry-space r w b (suc n) f k h =
    let a = child_space r 0 w b (suc n) (f (omega arith)) k h in omega arith

module _ (S : Storing) (w : ℕ) (l : Thresholds) (t : Tree) (ts : List Tree) (rs ys : List Pair) (h : S.Standing) (b c : ℕ) (side : Side)
    (wide : length (next t) ≤ w) (high : 0 < length (next t) → 0 < rank t)
    (count : c ≡ length (next t)) (sides : side ≡ mover (state t))
    (listing : ys ≡ map (listed (S.shows h)) (next t)) (room : b + length (next t) ≤ length rs) where
  abbrev entry : Kept
  entry = record { base = b; end = b + c; thresholds = l; side = side; chosen = 0 }

  enter_goes : (es : List Kept) (n : ℕ) → b ≡ free es → Goes S w (Enter l) es t ts rs h (suc n) (Work entry) es t ts (put_mid b (b + c - b) rs ys) h n
  unfolding Goes Stands Through Comes work
  enter_goes es n base t₀ ts₀ st =
      let rs' : List Pair = put_mid b (b + c - b) rs ys in
      let below : b ≤ length rs = omega arith in
      let u = under_same w rs rs' es t ts t₀ ts₀ b (omega arith) (take-put_mid_below b (b + c - b) rs ys b (omega arith) below) st.4 in
      let long : length ys ≡ b + c - b = ap length listing ∙ length-map (next t) (listed (S.shows h)) ∙ omega arith in
      let mine : part entry rs' ≡ map (listed (S.shows h)) (next t) = between-put_mid b (b + c - b) rs ys (b + c) below long ∙ listing in
      let space : b + rank t * w ≤ 6144 = omega (arith, st.3) in
      let inside : b + length (next t) ≤ 6144 = entry-space (rank t) w b (length (next t)) high wide space in
      let fits : Fits w entry t es = record {
        side = sides;
        ends = omega arith;
        above = omega arith;
        proof = st.0;
        disproof = st.1;
        places = st.2;
        space = space;
        inside = omega arith;
      } in
      let rest : (o : Outcome S.Standing) → Comes S (Work entry) es t ts rs' h n o → Comes S (Enter l) es t ts rs h (suc n) o = λ o r. (
        r.0,
        counted (subst (λ (ps : List Pair). Works S h n t l ps r.0) mine r.1),
        subst (λ (fs : List Waiting). Through S fs r.0 o) u.1 r.2,
      ) in
      ((fits, u.0), rest, omega arith)

  pub entered : (t' : Tree) (ts' : List Tree) → t' ≡ t → ts' ≡ ts
      → (es : List Kept) (n : ℕ) → b ≡ free es → Goes S w (Enter l) es t ts rs h (suc n) (Work entry) es t' ts' (put_mid b (b + c - b) rs ys) h n
  entered t' ts' q q' es n base = rw (q, q') (enter_goes es n base)

-- handing a pair to the frame below

module _ (S : Storing) (w : ℕ) (p : Pair) (e : Kept) (t t' : Tree) (ts' : List Tree) (rs : List Pair) (h : S.Standing) (es : List Kept) (n : ℕ) where
  hand_goes : Goes S w (Back p) (e ∷ es) t (t' ∷ ts') rs h n (Work e) es t' ts' (set rs (e.base + e.chosen) p) h n
  unfolding Goes Stands Through Comes work waiting_frames Under
  hand_goes t₀ ts₀ u =
      let rs' : List Pair = set rs (e.base + e.chosen) p in
      let k = under_same w rs rs' es t' ts' t₀ ts₀ e.base u.0.above (take-set-le e.base rs (e.base + e.chosen) p (omega arith)) u.2 in
      let mine : part e rs' ≡ set (part e rs) (chosen_at (mover (state t')) (part e rs)) p =
      part-set e rs p u.1.among ∙ ap (λ (i : ℕ). set (part e rs) i p) u.1.number in
      let rest : (o : Outcome S.Standing) → Comes S (Work e) es t' ts' rs' h n o → Comes S (Back p) (e ∷ es) t (t' ∷ ts') rs h n o = λ o r. (
        r.0,
        subst (λ (ps : List Pair). Works S h n t' e.thresholds ps r.0) mine r.1,
        subst (λ (fs : List Waiting). Through S fs r.0 o) k.1 r.2,
      ) in
      ((u.0, k.0), rest, omega arith)

  pub handed : (us : List Tree) (rs' : List Pair) → us ≡ t' ∷ ts' → rs' ≡ set rs (e.base + e.chosen) p
      → Goes S w (Back p) (e ∷ es) t us rs h n (Work e) es t' ts' rs' h n
  handed us rs' q r = rw (q, r) hand_goes

-- the frame at work: giving its pair

module _ (S : Storing) (w : ℕ) (e : Kept) (es : List Kept) (t : Tree) (ts : List Tree) (rs : List Pair) (h : S.Standing) (n : ℕ) where
  pub given : (q : Pair) (c : List ℕ) (h' : S.Standing) → FramePair e.side (part e rs) q → Reached e.thresholds q → c ≡ code t → h' ≡ S.stored h c q
      → Goes S w (Work e) es t ts rs h n (Back q) es t ts rs h' n
  unfolding Goes Stands Through Comes work
  given q c h' is reach coded store t₀ ts₀ st =
      let own : OwnPair t (part e rs) q = subst (λ (s : Side). FramePair s (part e rs) q) st.0.side is in
      let kept : h' ≡ S.stored h (code t) q = store ∙ ap (λ (x : List ℕ). S.stored h x q) coded in (
        st.1,
        λ o r. (gave (S.stored h (code t) q) n q, gives own reach, subst (λ (x : S.Standing). Through S (waiting_frames es ts rs) (gave x n q) o) kept r),
        omega arith,
      )

-- the frame at work: taking a successor

module _ (S : Storing) (w : ℕ) (e : Kept) (es : List Kept) (t : Tree) (ts : List Tree) (rs : List Pair) (h : S.Standing) (n : ℕ) (q : Pair) (l : Thresholds) (k : ℕ)
    (wide : length (next t) ≤ w)
    (falls : (i : ℕ) → i < length (next t) → rank (get_or (next t) i nowhere) < rank t)
    (is : FramePair e.side (part e rs) q) (no : Below e.thresholds q)
    (number : k ≡ chosen_at e.side (part e rs)) (limits : l ≡ thresholds_at e.side e.thresholds (part e rs)) where
  abbrev waiting : Kept
  waiting = record { base = e.base; end = e.end; thresholds = e.thresholds; side = e.side; chosen = k }

  pub chosen_low : Fits w e t es → k < length (next t)
  chosen_low f =
      let c = chosen_in e.side e.thresholds (part e rs) q (f.proof, f.disproof) is no in
      let a = length-take (e.end - e.base) (drop e.base rs) in
      omega (arith, f.ends)

  -- what the frame comes to, by what the successor that it takes comes to
  worked : OwnPair t (part e rs) q → (o o' : Outcome S.Standing) →
      Enters S h n (get_or (next t) (chosen_at (mover (state t)) (part e rs)) nowhere) (thresholds_at (mover (state t)) e.thresholds (part e rs)) o' →
      Through S (waiting_frame e t rs ∷ waiting_frames es ts rs) o' o →
      (o'' : Outcome S.Standing) × Works S h n t e.thresholds (part e rs) o'' × Through S (waiting_frames es ts rs) o'' o
  unfolding Through
  worked own o (stopped h') x y = (stopped h', stops own no x, y)
  worked own o (gave h' n' p) x y = (y.0, works_on own no x y.1, y.2)

  take_goes : Goes S w (Work e) es t ts rs h n (Enter l) (waiting ∷ es) (get_or (next t) k nowhere) (t ∷ ts) rs h n
  unfolding Goes Stands Through Comes work Under waiting_frames
  take_goes t₀ ts₀ st =
      let f : Fits w e t es = st.0 in
      let low = chosen_low f in
      let less = falls k low in
      let small = thresholds-low e.side e.thresholds (part e rs) (f.proof, f.disproof) in
      let own : OwnPair t (part e rs) q = subst (λ (s : Side). FramePair s (part e rs) q) f.side is in
      let number' : k ≡ chosen_at (mover (state t)) (part e rs) = number ∙ ap (λ (s : Side). chosen_at s (part e rs)) f.side in
      let limits' : l ≡ thresholds_at (mover (state t)) e.thresholds (part e rs) = limits ∙ ap (λ (s : Side). thresholds_at s e.thresholds (part e rs)) f.side in
      let fits : Fits w waiting t es = record {
        side = f.side;
        ends = f.ends;
        above = f.above;
        proof = f.proof;
        disproof = f.disproof;
        places = f.places;
        space = f.space;
        inside = f.inside;
      } in
      let waits : Waits waiting t rs = record { number = number'; among = omega (arith, f.ends) } in
      let space = child_space (rank t) (rank (get_or (next t) k nowhere)) w e.base (length (next t)) less wide f.space in (
        (rw limits small.0, rw limits small.1, omega (arith, f.places), omega (arith, f.ends), (fits, waits, st.1)),
        λ o r. worked own o r.0 (subst₂ (λ (x : ℕ) (p : Thresholds). Enters S h n (get_or (next t) x nowhere) p r.0) number' limits' r.1) r.2,
        omega arith,
      )

  pub taken : (es' : List Kept) (t' : Tree) (ts' : List Tree) → es' ≡ waiting ∷ es → t' ≡ get_or (next t) k nowhere → ts' ≡ t ∷ ts
      → Goes S w (Work e) es t ts rs h n (Enter l) es' t' ts' rs h n
  taken es' t' ts' a b c = rw (a, b, c) take_goes

-- going back to the start

pub under_back : (w : ℕ) (rs : List Pair) (es : List Kept) (t : Tree) (ts : List Tree) (t₀ : Tree) (ts₀ : List Tree)
    → Under w es t ts rs t₀ ts₀ → back (length es) t ts ≡ (t₀, ts₀)
unfolding Under back
under_back w rs [] t ts t₀ ts₀ u = λ i. (u.0 i, u.1 i)
under_back w rs (e ∷ es) t [] t₀ ts₀ u = absurd u
under_back w rs (e ∷ es) t (v ∷ ts) t₀ ts₀ u = under_back w rs es v ts t₀ ts₀ u.2

pub under_long : (w : ℕ) (rs : List Pair) (es : List Kept) (t : Tree) (ts : List Tree) (t₀ : Tree) (ts₀ : List Tree)
    → Under w es t ts rs t₀ ts₀ → length es ≤ length ts
unfolding Under
under_long w rs [] t ts t₀ ts₀ u = omega arith
under_long w rs (e ∷ es) t [] t₀ ts₀ u = absurd u
under_long w rs (e ∷ es) t (v ∷ ts) t₀ ts₀ u = let l = under_long w rs es v ts t₀ ts₀ u.2 in omega arith

-- the loop

-- a step from where the loop stands, by the equations that the program has
pub went : (S : Storing) (w : ℕ) (s s₁ s' : Step) (es es₁ es' : List Kept) (t t' : Tree) (ts ts' : List Tree) (rs rs' : List Pair) (h h' : S.Standing) (n n₁ n' : ℕ)
    (t₀ : Tree) (ts₀ : List Tree) (from : Outcome S.Standing → Type 0) → s ≡ s₁ → es ≡ es₁ → n ≡ n₁
    → Stands w s es t ts rs t₀ ts₀ → ((o : Outcome S.Standing) → Comes S s es t ts rs h n o → from o)
    → Goes S w s₁ es₁ t ts rs h n₁ s' es' t' ts' rs' h' n'
    → Stands w s' es' t' ts' rs' t₀ ts₀ × ((o : Outcome S.Standing) → Comes S s' es' t' ts' rs' h' n' o → from o) × (work s' es' n' < work s es n)
unfolding Goes
went S w s s₁ s' es es₁ es' t t' ts ts' rs rs' h h' n n₁ n' t₀ ts₀ from p q m st lead go =
    let k : (t₀ : Tree) (ts₀ : List Tree) → Stands w s es t ts rs t₀ ts₀
    → Stands w s' es' t' ts' rs' t₀ ts₀ × ((o : Outcome S.Standing) → Comes S s' es' t' ts' rs' h' n' o → Comes S s es t ts rs h n o) × (work s' es' n' < work s es n)
    = rw (p, q, m) go in
    let r = k t₀ ts₀ st in
    (r.0, λ o x. lead o (r.1 o x), r.2)

pub started : (S : Storing) (w d : ℕ) (es : List Kept) (t : Tree) (ts : List Tree) (rs : List Pair) (h : S.Standing) (n : ℕ)
    → es ≡ [] → rank t ≤ d → d ≤ 32 → d * w ≤ 6144
    → Stands w (Enter tops) es t ts rs t ts
    × ((o : Outcome S.Standing) → Comes S (Enter tops) es t ts rs h n o → Enters S h n t tops o)
unfolding Stands Through Comes waiting_frames Under
started S w d es t ts rs h n p low deep small =
    let m = mul-le-mul_right w low in
    rw p ((omega arith, omega arith, omega arith, omega arith, (refl, refl)), λ o r. subst (Enters S h n t tops) (last r.0 o r.2) r.1)
  where
    last : (o' o : Outcome S.Standing) → Through S [] o' o → o' ≡ o
    last (stopped h') o e = e
    last (gave h' n' p') o e = e

pub stopping : (S : Storing) (w : ℕ) (s : Step) (l : Thresholds) (es : List Kept) (t : Tree) (ts : List Tree) (rs : List Pair) (h : S.Standing) (n : ℕ)
    (t₀ : Tree) (ts₀ : List Tree) (from : Outcome S.Standing → Type 0) → s ≡ Enter l → n ≡ 0
    → Stands w s es t ts rs t₀ ts₀ → ((o : Outcome S.Standing) → Comes S s es t ts rs h n o → from o)
    → Under w es t ts rs t₀ ts₀ × from (stopped h)
unfolding Stands Through Comes
stopping S w s l es t ts rs h n t₀ ts₀ from p z st lead =
    let k : Stands w (Enter l) es t ts rs t₀ ts₀ = rw p at st in
    let r : (o : Outcome S.Standing) → Comes S (Enter l) es t ts rs h 0 o → from o = rw (p, z) at lead in
    (k.4, r (stopped h) (stopped h, none_left, refl))

pub giving : (S : Storing) (w : ℕ) (s : Step) (p : Pair) (es : List Kept) (t : Tree) (ts : List Tree) (rs : List Pair) (h : S.Standing) (n : ℕ)
    (t₀ : Tree) (ts₀ : List Tree) (from : Outcome S.Standing → Type 0) → s ≡ Back p → es ≡ []
    → Stands w s es t ts rs t₀ ts₀ → ((o : Outcome S.Standing) → Comes S s es t ts rs h n o → from o)
    → ((t ≡ t₀) × (ts ≡ ts₀)) × from (gave h n p)
unfolding Stands Through Comes Under waiting_frames
giving S w s p es t ts rs h n t₀ ts₀ from e z st lead =
    let k : Stands w (Back p) [] t ts rs t₀ ts₀ = rw (e, z) at st in
    let r : (o : Outcome S.Standing) → Comes S (Back p) [] t ts rs h n o → from o = rw (e, z) at lead in
    (k, r (gave h n p) refl)

-- what the steps ask

under_top : (w : ℕ) (e : Kept) (es : List Kept) (t : Tree) (ts : List Tree) (rs : List Pair) (t₀ : Tree) (ts₀ : List Tree)
    → Under w (e ∷ es) t ts rs t₀ ts₀ → e.base + e.chosen < 6144
unfolding Under
under_top w e es t [] rs t₀ ts₀ u = absurd u
under_top w e es t (v ∷ ts) rs t₀ ts₀ u = let a = u.0.inside in let b = u.1.among in omega arith

module _ (w : ℕ) (s : Step) (es : List Kept) (t : Tree) (ts : List Tree) (rs : List Pair) (t₀ : Tree) (ts₀ : List Tree) (st : Stands w s es t ts rs t₀ ts₀)
    (long : 6144 ≤ length rs) where
  pub enter_asks : (l : Thresholds) (b : ℕ) → s ≡ Enter l → length (next t) ≤ w → (0 < length (next t) → 0 < rank t) → b ≡ free es
      → b + length (next t) ≤ length rs
  unfolding Stands
  enter_asks l b p wide high base =
      let k : Stands w (Enter l) es t ts rs t₀ ts₀ = rw p at st in
      let a = entry-space (rank t) w (free es) (length (next t)) high wide k.3 in omega arith

  pub work_asks : (e : Kept) → s ≡ Work e → Fits w e t es × (e.end ≤ length rs)
  unfolding Stands
  work_asks e p =
      let k : Stands w (Work e) es t ts rs t₀ ts₀ = rw p at st in
      let b = k.0.inside in (k.0, omega arith)

  pub hand_asks : (p : Pair) (e : Kept) (below : List Kept) → s ≡ Back p → es ≡ e ∷ below → (e.base + e.chosen < length rs) × (0 < length ts)
  unfolding Stands
  hand_asks p e below q r =
      let k : Under w (e ∷ below) t ts rs t₀ ts₀ = rw (q, r) at st in
      let f = under_top w e below t ts rs t₀ ts₀ k in
      let l = under_long w rs (e ∷ below) t ts t₀ ts₀ k in (omega arith, omega arith)
