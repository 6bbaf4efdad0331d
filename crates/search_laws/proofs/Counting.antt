-- Frames entered are counted, and what a frame gives has reached a threshold.
use Rattle.std.proofs.Common.{◌≡◌, ℕ, ◌+◌, ◌≤◌, ◌⊎◌, List, [], ◌∷◌, ◌++◌, length, refl, inl, inr, arith, Bool, true, false, ◌||◌, leb, leb-true}
use Rattle.std.specs.Prelude.{Decides}
use Rattle.std.proofs.lemmas.Bool.{or_cases, or_left, or_right, le-leb}
use native.Mathlib.Decide.{dec_le}
use Rattle.game.specs.Tree.{Tree}
use Rattle.table.specs.declared.pair.Pair.{Pair}
use Rattle.table.specs.Storings.{Storing}
use Rattle.search_laws.specs.declared.thresholds.Thresholds.{Thresholds}
use Rattle.search_laws.specs.Run.{Reached, Below, Outcome, stopped, gave, Enters, none_left, counted, Works, gives, stops, works_on}
use Rattle.search_laws.specs.Entered.{Frame, frames, frames_within, left_after}
use Rattle.search_laws.specs.Trial.{at_once, by_the_run, by_the_search, spent}
use Rattle.search_laws.specs.Claims.{GivenReaches, FramesCount, ExpansionsCount}

-- each pair has reached a threshold or is below both
pub seen : (l : Thresholds) (p : Pair) → Reached l p ⊎ Below l p
seen l p = go (dec_le l.proof p.proof) (dec_le l.disproof p.disproof)
  where
    go : Dec (l.proof ≤ p.proof) → Dec (l.disproof ≤ p.disproof) → Reached l p ⊎ Below l p
    go (yes x) y = inl (inl x)
    go (no x) (yes y) = inl (inr y)
    go (no x) (no y) = inr (omega arith, omega arith)

pub never_both : (l : Thresholds) (p : Pair) → Reached l p → Below l p → ⊥
never_both l p (inl x) b = omega (arith, b.0)
never_both l p (inr x) b = omega (arith, b.1)

-- the test by which a frame sees it
pub tested : (l : Thresholds) (p : Pair) → Decides (leb l.proof p.proof || leb l.disproof p.disproof) (Reached l p)
tested l p = (yes, no)
  where
    by : (leb l.proof p.proof ≡ true) ⊎ (leb l.disproof p.disproof ≡ true) → Reached l p
    by (inl h) = inl (leb-true l.proof p.proof h)
    by (inr h) = inr (leb-true l.disproof p.disproof h)

    yes : (leb l.proof p.proof || leb l.disproof p.disproof) ≡ true → Reached l p
    yes e = by (or_cases (leb l.proof p.proof) (leb l.disproof p.disproof) e)

    no : Reached l p → (leb l.proof p.proof || leb l.disproof p.disproof) ≡ true
    no (inl h) = or_left (leb l.proof p.proof) (leb l.disproof p.disproof) (le-leb l.proof p.proof h)
    no (inr h) = or_right (leb l.proof p.proof) (leb l.disproof p.disproof) (le-leb l.disproof p.disproof h)

-- a test that says no
pub refused : (r : Bool) (l : Thresholds) (p : Pair) → Decides r (Reached l p) → r ≡ false → Below l p
refused r l p d e = go (seen l p)
  where
    go : Reached l p ⊎ Below l p → Below l p
    go (inl h) = let k = d.1 h in absurd (cc)
    go (inr b) = b

pub not_reached : (l : Thresholds) (p : Pair) → (leb l.proof p.proof || leb l.disproof p.disproof) ≡ false → Below l p
not_reached l p e = refused (leb l.proof p.proof || leb l.disproof p.disproof) l p (tested l p) e

length_append : (xs ys : List Frame) → length (xs ++ ys) ≡ length xs + length ys
length_append [] ys = omega arith
length_append (x ∷ xs) ys = let e = length_append xs ys in omega arith

abbrev Given : {A : Type 0} → Thresholds → Outcome A → Type 0
Given l (stopped standing) = Unit {0}
Given l (gave standing left p) = Reached l p

module _ (S : Storing) where
  mutual
    unfolding frames

    frames_count_of : {standing : S.Standing} {left : ℕ} {t : Tree} {l : Thresholds} {o : Outcome S.Standing} (e : Enters S standing left t l o) →
        length (frames e) + left_after o ≡ left
    frames_count_of none_left = refl
    frames_count_of (counted w) = let i = frames_count_within w in omega arith

    pub frames_count_within : {standing : S.Standing} {left : ℕ} {t : Tree} {l : Thresholds} {ps : List Pair} {o : Outcome S.Standing}
        (w : Works S standing left t l ps o) → length (frames_within w) + left_after o ≡ left
    frames_count_within (gives h r) = omega arith
    frames_count_within (stops h b e) = frames_count_of e
    frames_count_within (works_on h b e w) =
        let i = frames_count_of e in
        let j = frames_count_within w in
        let k = length_append (frames e) (frames_within w) in
        omega arith

  pub frames_count_lem : FramesCount S
  frames_count_lem standing left t l o e = frames_count_of e

  pub expansions_count_lem : ExpansionsCount S
  expansions_count_lem standing t b a standing' (at_once k x) n = absurd (cc)
  expansions_count_lem standing t b a h (by_the_run {standing'} {left} {p} k e d x) n = let c = frames_count_of e in (gave standing' left p, e, omega arith)
  expansions_count_lem standing t b a h (by_the_search {standing'} k e d x) n = let c = frames_count_of e in (stopped standing', e, omega arith)
  expansions_count_lem standing t b a h (spent {standing'} k e d x) n = let c = frames_count_of e in (stopped standing', e, omega arith)

  mutual
    enters_given : {standing : S.Standing} {left : ℕ} {t : Tree} {l : Thresholds} {o : Outcome S.Standing} → Enters S standing left t l o → Given l o
    enters_given none_left = tt
    enters_given (counted w) = works_given w

    works_given : {standing : S.Standing} {left : ℕ} {t : Tree} {l : Thresholds} {ps : List Pair} {o : Outcome S.Standing} →
        Works S standing left t l ps o → Given l o
    works_given (gives h r) = r
    works_given (stops h b e) = tt
    works_given (works_on h b e w) = works_given w

  pub given_reaches_lem : GivenReaches S
  given_reaches_lem standing standing' left left' t l p e = enters_given e
