-- Runs end, with one outcome each, and a decided run stays as it is with more expansions.
use Rattle.std.proofs.Common.{◌≡◌, ℕ, zero, suc, ◌+◌, ◌-◌, ◌<◌, ◌≤◌, Bool, true, false, ◌⊎◌, List, map, None, sym, refl, ap, ◌∙◌, subst, inl, inr, suc-add, arith}
use Rattle.std.specs.Prelude.{codes, ◌≢◌}
use Rattle.game.specs.Tree.{Tree, state, code, next, minimax}
use Rattle.table.specs.declared.pair.Pair.{Pair}
use Rattle.table.specs.Storings.{Storing, Keeping}
use Rattle.table.proofs.Frames.{pair_at, frame_pair, only_pair}
use Rattle.search_laws.specs.declared.answer.Verdict.{Verdict}
use Rattle.search_laws.specs.declared.answer.Verdict.TheVariants.{Won as IsWon, NotWon as IsNotWon, Spent as IsSpent}
use Rattle.search_laws.specs.declared.answer.Answer.{Answer}
use Rattle.search_laws.specs.declared.thresholds.Thresholds.{Thresholds}
use Rattle.search_laws.specs.Run.{mover, OwnPair, Reached, Below, tops, listed, taken, taken_thresholds, replaced, Outcome, stopped, gave, Enters, none_left, counted, Works, gives, stops, works_on}
use Rattle.search_laws.specs.Trial.{pair_of, known, need, half, share, Trial, at_once, by_the_run, by_the_search, spent}
use Rattle.search_laws.specs.Words.{word, value_word}
use Rattle.search_laws.specs.Claims.{Ranging, RunsLast, VerdictsLast, OnePair, RunsAgree, FramesAgree, TrialsAgree, RunsEnd, FramesEnd}
use Rattle.search_laws.proofs.Counting.{seen, never_both, frames_count_within}
use Rattle.search_laws.proofs.Trials.{same_verdict, trials_are_right_lem, never_value}

abbrev more_of : {A : Type 0} → ℕ → Outcome A → Outcome A
more_of k (stopped standing) = stopped standing
more_of k (gave standing left p) = gave standing (left + k) p

abbrev Gave : {A : Type 0} → Outcome A → Type 0
Gave (stopped standing) = ⊥
Gave (gave standing left p) = Unit {0}

stopped_gave : {A : Type 0} (o : Outcome A) (standing : A) → o ≡ stopped standing → Gave o → ⊥
stopped_gave o standing e g = subst Gave e g

-- a frame has one pair of its own

abbrev pair_for : Tree → List Pair → Pair
pair_for t ps = pair_at (mover (state t)) ps

own_pair : (t : Tree) (ps : List Pair) → OwnPair t ps (pair_for t ps)
own_pair t ps = frame_pair (mover (state t)) ps

pub one_pair : OnePair
one_pair t ps = (pair_for t ps, own_pair t ps, λ q h. only_pair (mover (state t)) ps q h)

same_own : (t : Tree) (ps : List Pair) (p q : Pair) → OwnPair t ps p → OwnPair t ps q → p ≡ q
same_own t ps p q h k = only_pair (mover (state t)) ps p h ∙ sym (only_pair (mover (state t)) ps q k)

not_both : (t : Tree) (l : Thresholds) (ps : List Pair) (p q : Pair) → OwnPair t ps p → OwnPair t ps q → Reached l p → Below l q → ⊥
not_both t l ps p q h k r b = never_both l q (subst (Reached l) (same_own t ps p q h k) r) b

module _ (S : Storing) where
  -- what a frame does once its successor has come to an outcome
  abbrev Then : Tree → Thresholds → List Pair → Outcome S.Standing → Outcome S.Standing → Type 0
  Then t l ps o' (stopped standing) = ⊥
  Then t l ps o' (gave standing left q) = Works S standing left t l (replaced t ps q) o'

  mutual
    enters_agree : {standing : S.Standing} {left : ℕ} {t : Tree} {l : Thresholds} {o : Outcome S.Standing} → Enters S standing left t l o →
        (o' : Outcome S.Standing) → Enters S standing left t l o' → o ≡ o'
    enters_agree none_left o' none_left = refl
    enters_agree (counted w) o' (counted w') = works_agree w o' w'

    works_agree : {standing : S.Standing} {left : ℕ} {t : Tree} {l : Thresholds} {ps : List Pair} {o : Outcome S.Standing} → Works S standing left t l ps o →
        (o' : Outcome S.Standing) → Works S standing left t l ps o' → o ≡ o'
    works_agree (gives {standing} {left} {t} {l} {ps} {p} h r) o' (gives {p = p'} h' r') =
        ap (λ (x : Pair). gave (S.stored standing (code t) x) left x) (same_own t ps p p' h h')
    works_agree (gives {t = t} {l} {ps} {p} h r) o' (stops {p = p'} h' b' e') = absurd (not_both t l ps p p' h h' r b')
    works_agree (gives {t = t} {l} {ps} {p} h r) o' (works_on {p = p'} h' b' e' w') = absurd (not_both t l ps p p' h h' r b')
    works_agree (stops {t = t} {l} {ps} {p} h b e) o' (gives {p = p'} h' r') = absurd (not_both t l ps p' p h' h r' b)
    works_agree (stops h b e) o' (stops h' b' e') = enters_agree e _ e'
    works_agree (stops h b e) o' (works_on h' b' e' w') = absurd (stopped_gave _ _ (sym (enters_agree e _ e')) tt)
    works_agree (works_on {t = t} {l} {ps} {p} h b e w) o' (gives {p = p'} h' r') = absurd (not_both t l ps p' p h' h r' b)
    works_agree (works_on h b e w) o' (stops h' b' e') = absurd (stopped_gave _ _ (enters_agree e _ e') tt)
    works_agree (works_on {t = t} {l} {ps} h b e w) o' (works_on h' b' e' w') =
        works_agree w o' (subst (Then t l ps o') (sym (enters_agree e _ e')) w')

  pub runs_agree : RunsAgree S
  runs_agree standing left t l o o' e e' = enters_agree e o' e'

  pub frames_agree : FramesAgree S
  frames_agree standing left t l ps o o' w w' = works_agree w o' w'

  -- a frame ends, by the expansions left
  Ends : ℕ → Type 0
  Ends n = (standing : S.Standing) (left : ℕ) (t : Tree) (l : Thresholds) (ps : List Pair) → left ≤ n → (o : Outcome S.Standing) × Works S standing left t l ps o

  last_work : (standing : S.Standing) (t : Tree) (l : Thresholds) (ps : List Pair) → Reached l (pair_for t ps) ⊎ Below l (pair_for t ps) →
      (o : Outcome S.Standing) × Works S standing 0 t l ps o
  last_work standing t l ps (inl r) = (_, gives (own_pair t ps) r)
  last_work standing t l ps (inr b) = (_, stops (own_pair t ps) b none_left)

  more_work : (n : ℕ) → Ends n → (standing : S.Standing) (left : ℕ) (t : Tree) (l : Thresholds) (ps : List Pair) → left ≤ n →
      Reached l (pair_for t ps) ⊎ Below l (pair_for t ps) → (o : Outcome S.Standing) × Works S standing (suc left) t l ps o
  unfolding Ends
  more_work n ih standing left t l ps z (inl r) = (_, gives (own_pair t ps) r)
  more_work n ih standing left t l ps z (inr b) =
      let r = ih standing left (taken t ps) (taken_thresholds t l ps) (map (listed (S.shows standing)) (next (taken t ps))) z in go r.0 r.1
    where
      go : (o : Outcome S.Standing) → Works S standing left (taken t ps) (taken_thresholds t l ps) (map (listed (S.shows standing)) (next (taken t ps))) o →
          (o : Outcome S.Standing) × Works S standing (suc left) t l ps o
      go (stopped standing') w = (_, stops (own_pair t ps) b (counted w))
      go (gave standing' left' q) w =
          let c = frames_count_within S w in
          let r = ih standing' left' t l (replaced t ps q) (omega arith) in
          (r.0, works_on (own_pair t ps) b (counted w) r.1)

  ends : (n : ℕ) → Ends n
  unfolding Ends
  ends n standing zero t l ps h = last_work standing t l ps (seen l (pair_for t ps))
  ends zero standing (suc left) t l ps h = absurd (omega arith)
  ends (suc n) standing (suc left) t l ps h = more_work n (ends n) standing left t l ps (omega arith) (seen l (pair_for t ps))

  pub frames_end : FramesEnd S
  unfolding Ends
  frames_end standing left t l ps = ends left standing left t l ps (omega arith)

  pub runs_end : RunsEnd S
  unfolding Ends
  runs_end standing zero t l = (_, none_left)
  runs_end standing (suc left) t l =
      let r = ends left standing left t l (map (listed (S.shows standing)) (next t)) (omega arith) in (r.0, counted r.1)

  -- with more expansions
  module _ (k : ℕ) where
    mutual
      enters_more : {standing : S.Standing} {left : ℕ} {t : Tree} {l : Thresholds} {o : Outcome S.Standing} → Enters S standing left t l o → Gave o →
          Enters S standing (left + k) t l (more_of k o)
      enters_more none_left g = elim g [ ]
      enters_more (counted {left = left} w) g = rw (suc-add left k) (counted (works_more w g))

      works_more : {standing : S.Standing} {left : ℕ} {t : Tree} {l : Thresholds} {ps : List Pair} {o : Outcome S.Standing} →
          Works S standing left t l ps o → Gave o → Works S standing (left + k) t l ps (more_of k o)
      works_more (gives h r) g = gives h r
      works_more (stops h b e) g = elim g [ ]
      works_more (works_on h b e w) g = works_on h b (enters_more e tt) (works_more w g)

  pub runs_last : RunsLast S
  runs_last standing standing' left left' k t l p r = enters_more k r tt

  gave_and_stopped : (left₀ : ℕ) (standing₀ : S.Standing) (t : Tree) (standing standing' : S.Standing) (left : ℕ) (p : Pair) →
      Enters S standing₀ left₀ t tops (gave standing left p) → Enters S standing₀ left₀ t tops (stopped standing') → ⊥
  gave_and_stopped left₀ standing₀ t standing standing' left p r r' = stopped_gave _ _ (runs_agree _ _ _ _ _ _ r r') tt

  -- verdicts with the words of equal values
  alike : (v v' : Verdict) (w w' : Bool) → word v ≡ value_word w → word v' ≡ value_word w' → w ≡ w' → v ≡ v'
  alike v v' w w' k k' z = same_verdict v v' (k ∙ ap value_word z ∙ sym k')

  pub trials_agree_lem : TrialsAgree S
  trials_agree_lem standing t b a a' h h' (at_once {v} {w} e k) (at_once {v = v'} {w = w'} e' k') =
      let y : w ≡ w' = cc in
      let z = alike v v' w w' k k' y in (λ i. record { verdict = z i; expansions = 0; entries = 0 }, refl)
  trials_agree_lem standing t b a a' h h' (at_once e k) (by_the_run e' r d k') = absurd (cc)
  trials_agree_lem standing t b a a' h h' (at_once e k) (by_the_search e' r d k') = absurd (cc)
  trials_agree_lem standing t b a a' h h' (at_once e k) (spent e' r d k') = absurd (cc)
  trials_agree_lem standing t b a a' h h' (by_the_run e r d k) (at_once e' k') = absurd (cc)
  trials_agree_lem standing t b a a' h h' (by_the_run {v} {w} {standing'} {left} {p} e r d k) (by_the_run {v = v'} {w = w'} {standing' = standing''} {left = left'} {p = p'} e' r' d' k') =
      let x : gave standing' left p ≡ gave standing'' left' p' = runs_agree _ _ _ _ _ _ r r' in
      let l : left ≡ left' = cc in
      let y : w ≡ w' = cc in
      let z = alike v v' w w' k k' y in
      (λ i. record { verdict = z i; expansions = half b - l i; entries = 0 }, cc)
  trials_agree_lem standing t b a a' h h' (by_the_run e r d k) (by_the_search e' r' d' k') = absurd (gave_and_stopped _ _ _ _ _ _ _ r r')
  trials_agree_lem standing t b a a' h h' (by_the_run e r d k) (spent e' r' d' k') = absurd (gave_and_stopped _ _ _ _ _ _ _ r r')
  trials_agree_lem standing t b a a' h h' (by_the_search e r d k) (at_once e' k') = absurd (cc)
  trials_agree_lem standing t b a a' h h' (by_the_search e r d k) (by_the_run e' r' d' k') = absurd (gave_and_stopped _ _ _ _ _ _ _ r' r)
  trials_agree_lem standing t b a a' h h' (by_the_search {v} {standing'} e r d k) (by_the_search {v = v'} {standing' = standing''} e' r' d' k') =
      let x : stopped standing' ≡ stopped standing'' = runs_agree _ _ _ _ _ _ r r' in
      let l : standing' ≡ standing'' = cc in
      let z = same_verdict v v' (k ∙ sym k') in
      (λ i. record { verdict = z i; expansions = half b; entries = need t }, ap (λ (x : S.Standing). S.stored x (code t) (pair_of (minimax t))) l)
  trials_agree_lem standing t b a a' h h' (by_the_search e r d k) (spent e' r' d' k') = absurd (omega arith)
  trials_agree_lem standing t b a a' h h' (spent e r d k) (at_once e' k') = absurd (cc)
  trials_agree_lem standing t b a a' h h' (spent e r d k) (by_the_run e' r' d' k') = absurd (gave_and_stopped _ _ _ _ _ _ _ r' r)
  trials_agree_lem standing t b a a' h h' (spent e r d k) (by_the_search e' r' d' k') = absurd (omega arith)
  trials_agree_lem standing t b a a' h h' (spent {v} {standing'} e r d k) (spent {v = v'} {standing' = standing''} e' r' d' k') =
      let x : stopped standing' ≡ stopped standing'' = runs_agree _ _ _ _ _ _ r r' in
      let z = same_verdict v v' (k ∙ sym k') in
      (λ i. record { verdict = z i; expansions = half b; entries = share b }, cc)

  -- a trial that was not spent is not spent with a larger budget
  spent_run : (standing : S.Standing) (t : Tree) (b : ℕ) (a : Answer) (h : S.Standing) → Trial S standing t b a h → word a.verdict ≡ codes "spent" →
      (known (S.shows standing) t ≡ None) × (share b < need t) × Enters S standing (half b) t tops (stopped h)
  spent_run standing t b a h (at_once {v} {w} e k) z = absurd (never_value v w k z)
  spent_run standing t b a h (by_the_run {v} {w} e r d k) z = absurd (never_value v w k z)
  spent_run standing t b a h (by_the_search {v} e r n k) z = absurd (never_value v (minimax t) k z)
  spent_run standing t b a h (spent e r n k) z = (e, n, r)

  half_more : (b b' : ℕ) → b ≤ b' → half b + (half b' - half b) ≡ half b'
  half_more b b' h = omega arith

  still_unspent : (standing : S.Standing) (t : Tree) (b b' : ℕ) (a a' : Answer) (h h' : S.Standing) → b ≤ b' →
      Trial S standing t b a h → Trial S standing t b' a' h' → (word a.verdict ≢ codes "spent") → word a'.verdict ≢ codes "spent"
  still_unspent standing t b b' a a' h h' l (at_once e k) y n z =
      let x = (spent_run standing t b' a' h' y z).0 in cc
  still_unspent standing t b b' a a' h h' l (by_the_run {left = left} {p} e r d k) y n z =
      let x = (spent_run standing t b' a' h' y z).2 in
      let m = runs_last standing h (half b) left (half b' - half b) t tops p r in
      let m' = subst (λ (x : ℕ). Enters S standing x t tops (gave h (left + (half b' - half b)) p)) (half_more b b' l) m in
      gave_and_stopped _ _ _ _ _ _ _ m' x
  still_unspent standing t b b' a a' h h' l (by_the_search e r d k) y n z =
      let x = (spent_run standing t b' a' h' y z).1 in omega arith
  still_unspent standing t b b' a a' h h' l (spent e r d k) y n z = n k

-- two verdicts that are right
both_right : (v w : Verdict) (t : Tree) → (word v ≡ codes "won" → minimax t ≡ true) → (word v ≡ codes "not-won" → minimax t ≡ false) →
    (word w ≡ codes "won" → minimax t ≡ true) → (word w ≡ codes "not-won" → minimax t ≡ false) → (word v ≢ codes "spent") → (word w ≢ codes "spent") → word w ≡ word v
both_right IsWon IsWon t a b c d x y = refl
both_right IsWon IsNotWon t a b c d x y =
    let e = a refl in let f = d refl in absurd (cc)
both_right IsWon IsSpent t a b c d x y = absurd (y refl)
both_right IsNotWon IsWon t a b c d x y =
    let e = b refl in let f = c refl in absurd (cc)
both_right IsNotWon IsNotWon t a b c d x y = refl
both_right IsNotWon IsSpent t a b c d x y = absurd (y refl)
both_right IsSpent w t a b c d x y = absurd (x refl)

pub verdicts_last_lem : (positions : Tree → Type 0) → Ranging positions → (S : Storing) → Keeping S → VerdictsLast positions S
verdicts_last_lem positions ranging S keeping standing t b b' a a' h h' s i l x y n =
    let p = trials_are_right_lem positions ranging S keeping standing t b a h s i x in
    let q = trials_are_right_lem positions ranging S keeping standing t b' a' h' s i y in
    both_right a.verdict a'.verdict t p.1 p.2 q.1 q.2 n (still_unspent S standing t b b' a a' h h' l x y n)
