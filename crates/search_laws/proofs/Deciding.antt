-- The pair that a run gives is decided, so every trial ends.
use Rattle.std.proofs.Common.{◌≡◌, ◌≤◌, Bool, true, false, ◌⊎◌, Some, None, Option, refl, ap, inl, inr, arith}
use native.Mathlib.Decide.{dec_le}
use Rattle.game.specs.Tree.{minimax}
use Rattle.table.specs.declared.pair.Pair.{Pair}
use Rattle.table.specs.Pairs.{won, not_won}
use Rattle.table.specs.Storings.{Storing}
use Rattle.table.proofs.Formed.{Form, is_won, is_not_won, is_open, form}
use Rattle.table.proofs.Frames.{same_pair}
use Rattle.search_laws.specs.declared.answer.Verdict.{Verdict}
use Rattle.search_laws.specs.declared.answer.Verdict.TheVariants.{Won as IsWon, NotWon as IsNotWon, Spent as IsSpent}
use Rattle.search_laws.specs.declared.answer.Answer.{Answer}
use Rattle.search_laws.specs.Run.{Reached, tops, Outcome, stopped, gave, Enters}
use Rattle.search_laws.specs.Trial.{decided, known, need, half, share, Trial, at_once, by_the_run, by_the_search, spent}
use Rattle.search_laws.specs.Words.{word, value_word}
use Rattle.search_laws.specs.Claims.{RunsDecide, TrialsEnd}
use Rattle.search_laws.proofs.Counting.{given_reaches_lem}
use Rattle.search_laws.proofs.Courses.{runs_end}

-- a pair with a number at `top` is decided
reached_decided : (p : Pair) → Reached tops p → (p ≡ won) ⊎ (p ≡ not_won)
reached_decided p r = by (form p.proof p.disproof p.formed) r
  where
    by : Form p.proof p.disproof → Reached tops p → (p ≡ won) ⊎ (p ≡ not_won)
    by (is_won a b) r = inl (same_pair p won a b)
    by (is_not_won a b) r = inr (same_pair p not_won a b)
    by (is_open a b c d) (inl h) = absurd (omega arith)
    by (is_open a b c d) (inr h) = absurd (omega arith)

module _ (S : Storing) where
  pub runs_decide_lem : RunsDecide S
  runs_decide_lem standing standing' left left' t p r = reached_decided p (given_reaches_lem S standing standing' left left' t tops p r)

  pub decided_value : (p : Pair) → (p ≡ won) ⊎ (p ≡ not_won) → (w : Bool) × (decided p ≡ Some w)
  decided_value p (inl e) = (true, ap decided e)
  decided_value p (inr e) = (false, ap decided e)

  -- a verdict with the word of a value
  verdict_with : (w : Bool) → (v : Verdict) × (word v ≡ value_word w)
  verdict_with true = (IsWon, refl)
  verdict_with false = (IsNotWon, refl)

  pub trials_end_lem : TrialsEnd S
  trials_end_lem standing t b = go (known (S.shows standing) t) refl
    where
      search-end : known (S.shows standing) t ≡ None → (standing' : S.Standing) → Enters S standing (half b) t tops (stopped standing') → Dec (need t ≤ share b) →
          (a : Answer) × ((standing' : S.Standing) × Trial S standing t b a standing')
      search-end e standing' r (yes l) = (_, (_, by_the_search e r l (verdict_with (minimax t)).1))
      search-end e standing' r (no l) = (_, (_, spent {v = IsSpent} e r (omega arith) refl))

      run_end : known (S.shows standing) t ≡ None → (o : Outcome S.Standing) → Enters S standing (half b) t tops o →
          (a : Answer) × ((standing' : S.Standing) × Trial S standing t b a standing')
      run_end e (stopped standing') r = search-end e standing' r (dec_le (need t) (share b))
      run_end e (gave standing' left p) r =
          let d = decided_value p (runs_decide_lem standing standing' (half b) left t p r) in
          (_, (_, by_the_run e r d.1 (verdict_with d.0).1))

      go : (o : Option Bool) → known (S.shows standing) t ≡ o → (a : Answer) × ((standing' : S.Standing) × Trial S standing t b a standing')
      go (Some w) e = (_, (_, at_once e (verdict_with w).1))
      go None e = let r = runs_end S standing (half b) t tops in run_end e r.0 r.1
