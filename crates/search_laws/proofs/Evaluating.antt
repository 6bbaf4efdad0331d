-- The outcome of a run, and the frames that it enters, by computing them.
use Rattle.std.proofs.Common.{◌≡◌, ℕ, zero, suc, Bool, true, false, ◌||◌, leb, List, [], ◌∷◌, ◌++◌, map, Some, None, Option, sym, refl, ap, subst}
use Rattle.game.specs.Tree.{Tree, state, code, next}
use Rattle.table.specs.declared.pair.Pair.{Pair}
use Rattle.table.specs.Storings.{Storing}
use Rattle.table.proofs.Frames.{pair_at, frame_pair}
use Rattle.search_laws.specs.declared.thresholds.Thresholds.{Thresholds}
use Rattle.search_laws.specs.Run.{mover, OwnPair, Below, tops, listed, taken, taken_thresholds, replaced, Outcome, stopped, gave, Enters, none_left, counted, Works, gives, stops, works_on}
use Rattle.search_laws.specs.Entered.{Frame, frames, frames_within}
use Rattle.search_laws.proofs.Counting.{tested, not_reached}

abbrev test : Thresholds → Pair → Bool
test l p = leb l.proof p.proof || leb l.disproof p.disproof

abbrev pair_for : Tree → List Pair → Pair
pair_for t ps = pair_at (mover (state t)) ps

own_pair : (t : Tree) (ps : List Pair) → OwnPair t ps (pair_for t ps)
own_pair t ps = frame_pair (mover (state t)) ps

some_same : {A : Type 0} (x y : A) → Some x ≡ Some y → x ≡ y
some_same x y e = cc

module _ (S : Storing) where
  -- an outcome, and the frames entered
  abbrev pub Came : Type 0
  Came = Outcome S.Standing × List Frame

  abbrev Computes : Type 0
  Computes = S.Standing → ℕ → Tree → Thresholds → List Pair → Option Came

  abbrev entered_first : List Frame → Option Came → Option Came
  entered_first fs None = None
  entered_first fs (Some c) = Some (c.0, fs ++ c.1)

  abbrev going_on : Computes → Tree → Thresholds → List Pair → List Frame → Outcome S.Standing → Option Came
  going_on f t l ps fs (stopped standing) = Some (stopped standing, fs)
  going_on f t l ps fs (gave standing left q) = entered_first fs (f standing left t l (replaced t ps q))

  abbrev taking : Computes → Tree → Thresholds → List Pair → Option Came → Option Came
  taking f t l ps None = None
  taking f t l ps (Some c) = going_on f t l ps (record { at = taken t ps; thresholds = taken_thresholds t l ps } ∷ c.1) c.0

  abbrev working : Computes → Bool → Computes
  working f true standing left t l ps = Some (gave (S.stored standing (code t) (pair_for t ps)) left (pair_for t ps), [])
  working f false standing zero t l ps = Some (stopped standing, [])
  working f false standing (suc left) t l ps =
      taking f t l ps (f standing left (taken t ps) (taken_thresholds t l ps) (map (listed (S.shows standing)) (next (taken t ps))))

  -- what a frame comes to, within so many steps
  abbrev pub computed : ℕ → Computes
  computed zero standing left t l ps = None
  computed (suc n) standing left t l ps = working (computed n) (test l (pair_for t ps)) standing left t l ps

  abbrev Done : S.Standing → ℕ → Tree → Thresholds → List Pair → Came → Type 0
  Done standing left t l ps c = (w : Works S standing left t l ps c.0) × (frames_within w ≡ c.1)

  Sure : Computes → Type 0
  Sure f = (standing : S.Standing) (left : ℕ) (t : Tree) (l : Thresholds) (ps : List Pair) (c : Came) → f standing left t l ps ≡ Some c →
      Done standing left t l ps c

  module _ (f : Computes) (sure : Sure f) (standing : S.Standing) (left : ℕ) (t : Tree) (l : Thresholds) (ps : List Pair) where
    abbrev first_pairs : List Pair
    first_pairs = map (listed (S.shows standing)) (next (taken t ps))

    by_more : Below l (pair_for t ps) → (standing' : S.Standing) (left' : ℕ) (q : Pair)
        (w : Works S standing left (taken t ps) (taken_thresholds t l ps) first_pairs (gave standing' left' q)) →
        (r : Option Came) → f standing' left' t l (replaced t ps q) ≡ r → (c : Came) →
        entered_first (record { at = taken t ps; thresholds = taken_thresholds t l ps } ∷ frames_within w) r ≡ Some c → Done standing (suc left) t l ps c
    unfolding frames Sure
    by_more b standing' left' q w None i c e = absurd (cc)
    by_more b standing' left' q w (Some d) i c e =
        subst (Done standing (suc left) t l ps) (some_same _ c e) (go (sure standing' left' t l (replaced t ps q) d i))
      where
        go : Done standing' left' t l (replaced t ps q) d →
            Done standing (suc left) t l ps (d.0, (record { at = taken t ps; thresholds = taken_thresholds t l ps } ∷ frames_within w) ++ d.1)
        go k = (works_on (own_pair t ps) b (counted w) k.0, ap (λ (fs : List Frame). (record { at = taken t ps; thresholds = taken_thresholds t l ps } ∷ frames_within w) ++ fs) k.1)

    by_going : Below l (pair_for t ps) → (o : Outcome S.Standing) (w : Works S standing left (taken t ps) (taken_thresholds t l ps) first_pairs o) → (c : Came) →
        going_on f t l ps (record { at = taken t ps; thresholds = taken_thresholds t l ps } ∷ frames_within w) o ≡ Some c → Done standing (suc left) t l ps c
    unfolding frames
    by_going b (stopped standing') w c e = subst (Done standing (suc left) t l ps) (some_same _ c e) (stops (own_pair t ps) b (counted w), refl)
    by_going b (gave standing' left' q) w c e = by_more b standing' left' q w _ refl c e

    by_taking : Below l (pair_for t ps) → (r : Option Came) → f standing left (taken t ps) (taken_thresholds t l ps) first_pairs ≡ r → (c : Came) →
        taking f t l ps r ≡ Some c → Done standing (suc left) t l ps c
    unfolding Sure
    by_taking b None i c e = absurd (cc)
    by_taking b (Some d) i c e =
        let k = sure standing left (taken t ps) (taken_thresholds t l ps) first_pairs d i in
        by_going b d.0 k.0 c (subst (λ (fs : List Frame). going_on f t l ps (record { at = taken t ps; thresholds = taken_thresholds t l ps } ∷ fs) d.0 ≡ Some c) (sym k.1) e)

  by_working : (f : Computes) → Sure f → (b : Bool) (standing : S.Standing) (left : ℕ) (t : Tree) (l : Thresholds) (ps : List Pair) (c : Came) →
      test l (pair_for t ps) ≡ b → working f b standing left t l ps ≡ Some c → Done standing left t l ps c
  unfolding frames
  by_working f sure true standing left t l ps c i e =
      subst (Done standing left t l ps) (some_same _ c e) (gives (own_pair t ps) ((tested l (pair_for t ps)).0 i), refl)
  by_working f sure false standing zero t l ps c i e =
      subst (Done standing 0 t l ps) (some_same _ c e) (stops (own_pair t ps) (not_reached l (pair_for t ps) i) none_left, refl)
  by_working f sure false standing (suc left) t l ps c i e = by_taking f sure standing left t l ps (not_reached l (pair_for t ps) i) _ refl c e

  sure_computed : (n : ℕ) → Sure (computed n)
  unfolding Sure
  sure_computed zero standing left t l ps c e = absurd (cc)
  sure_computed (suc n) standing left t l ps c e =
      by_working (computed n) (sure_computed n) (test l (pair_for t ps)) standing left t l ps c refl e

  -- a run, computed
  abbrev pub run_of : ℕ → S.Standing → ℕ → Tree → Option Came
  run_of n standing zero t = Some (stopped standing, [])
  run_of n standing (suc left) t = entered_first (record { at = t; thresholds = tops } ∷ []) (computed n standing left t tops (map (listed (S.shows standing)) (next t)))

  abbrev Ran : S.Standing → ℕ → Tree → Came → Type 0
  Ran standing left t c = (e : Enters S standing left t tops c.0) × (frames e ≡ c.1)

  by_counting : (standing : S.Standing) (left : ℕ) (t : Tree) (r : Option Came) → ((d : Came) → r ≡ Some d → Done standing left t tops (map (listed (S.shows standing)) (next t)) d) →
      (c : Came) → entered_first (record { at = t; thresholds = tops } ∷ []) r ≡ Some c → Ran standing (suc left) t c
  unfolding frames
  by_counting standing left t None h c e = absurd (cc)
  by_counting standing left t (Some d) h c e =
      let k = h d refl in
      subst (Ran standing (suc left) t) (some_same _ c e) (counted k.0, ap (λ (fs : List Frame). record { at = t; thresholds = tops } ∷ fs) k.1)

  pub run_after : (n : ℕ) (standing : S.Standing) (left : ℕ) (t : Tree) (c : Came) → run_of n standing left t ≡ Some c → Ran standing left t c
  unfolding Sure frames
  run_after n standing zero t c e = subst (Ran standing 0 t) (some_same _ c e) (none_left, refl)
  run_after n standing (suc left) t c e =
      by_counting standing left t _ (λ d i. sure_computed n standing left t tops (map (listed (S.shows standing)) (next t)) d i) c e

-- the outcome alone
abbrev pub outcome_of : (S : Storing) → Option (Came S) → Option (Outcome S.Standing)
outcome_of S None = None
outcome_of S (Some c) = Some c.0

pub entered_after : (S : Storing) (n : ℕ) (standing : S.Standing) (left : ℕ) (t : Tree) (o : Outcome S.Standing) →
    outcome_of S (run_of S n standing left t) ≡ Some o → Enters S standing left t tops o
entered_after S n standing left t o = go (run_of S n standing left t) refl
  where
    go : (r : Option (Came S)) → run_of S n standing left t ≡ r → outcome_of S r ≡ Some o → Enters S standing left t tops o
    go None i e = absurd (cc)
    go (Some c) i e = subst (Enters S standing left t tops) (some_same c.0 o e) (run_after S n standing left t c i).0
