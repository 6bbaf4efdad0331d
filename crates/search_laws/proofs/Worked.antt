-- The trials by hand.
use Rattle.std.proofs.Common.{◌≡◌, ℕ, List, map, Some, refl, ap, ◌∙◌, lit<, lit≤}
use Rattle.game.specs.Tree.{Tree, minimax, some_won, all_won}
use Rattle.table.specs.Numbers.{capped}
use Rattle.table.specs.Pairs.{nothing, won, not_won}
use Rattle.table.specs.Slots.{turned, mixed, slot_of}
use Rattle.table.specs.Policies.{none_storing, newest_storing}
use Rattle.table.specs.Storings.{Storing}
use Rattle.search_laws.specs.Words.{word}
use Rattle.search_laws.specs.Run.{stopped, gave}
use Rattle.search_laws.specs.Entered.{Frame}
use Rattle.search_laws.specs.declared.answer.Verdict.{Verdict}
use Rattle.search_laws.specs.declared.answer.Verdict.TheVariants.{Won, NotWon, Spent}
use Rattle.search_laws.specs.declared.answer.Answer.{Answer}
use Rattle.search_laws.specs.Trial.{Trial, need, until_won, until_not_won, at_once, by_the_run, by_the_search, spent}
use Rattle.search_laws.specs.Examples.{keep, keeps, LawsKept, Answers, Visits, ChainTrials, NewestTrials, FiveTrials, WideTrials, chain, position_a, p16}
use Rattle.search_laws.proofs.Evaluating.{Came, run_of, entered_after, run_after}

pub laws_kept : LawsKept
unfolding keeps
laws_kept = (refl, refl, refl)

abbrev pub answer : Verdict → ℕ → ℕ → Answer
answer v x e = record { verdict = v; expansions = x; entries = e }

as_said : {S : Storing} {standing standing' : S.Standing} {t : Tree} {b : ℕ} (v : Verdict) (x e : ℕ) →
    Trial S standing t b (answer v x e) standing' → Answers S standing t b (word v) x e standing'
as_said v x e r = record { answer = answer v x e; trial = r; verdict = refl; expansions = refl; entries = refl }

pub chain_trials : ChainTrials
unfolding capped minimax some_won all_won need until_won until_not_won
chain_trials = (
  as_said NotWon 2 0 (by_the_run refl (entered_after none_storing 40 tt 2 chain (gave _ 0 not_won) refl) refl refl),
  as_said NotWon 1 2 (by_the_search refl (entered_after none_storing 40 tt 1 chain (stopped _) refl) (lit≤ tt) refl),
  as_said Spent 1 1 (spent refl (entered_after none_storing 40 tt 1 chain (stopped _) refl) (lit< tt) refl),
)

pub newest_trials : NewestTrials
unfolding capped turned mixed slot_of
newest_trials = (
  _,
  as_said NotWon 2 0 (by_the_run refl (entered_after newest_storing 40 nothing 2 chain (gave _ 0 not_won) refl) refl refl),
  as_said NotWon 0 0 (at_once refl refl),
  refl,
)

visited : (n : ℕ) (t : Tree) (c : Came keep) → run_of keep 40 nothing n t ≡ Some c → (ts : List Tree) → map (λ (f : Frame). f.at) c.1 ≡ ts → Visits t n ts
visited n t c e ts k =
    let r = run_after keep 40 nothing n t c e in (c.0, r.0, ap (map (λ (f : Frame). f.at)) r.1 ∙ k)

pub five_trials : FiveTrials
unfolding capped minimax some_won all_won need until_won until_not_won
five_trials = (
  (_, as_said Spent 3 3 (spent refl (entered_after keep 40 nothing 3 position_a (stopped _) refl) (lit< tt) refl), refl),
  (_, as_said NotWon 4 4 (by_the_search refl (entered_after keep 40 nothing 4 position_a (stopped _) refl) (lit≤ tt) refl), refl),
  (_, as_said NotWon 5 0 (by_the_run refl (entered_after keep 40 nothing 5 position_a (gave _ 0 not_won) refl) refl refl), refl),
  visited 5 position_a (gave _ 0 not_won, _) refl _ refl,
)

pub wide_trials : WideTrials
unfolding capped minimax some_won all_won need until_won until_not_won
wide_trials = (
  (_, as_said Spent 5 5 (spent refl (entered_after keep 40 nothing 5 p16 (stopped _) refl) (lit< tt) refl), refl),
  (_, as_said Won 5 6 (by_the_search refl (entered_after keep 40 nothing 5 p16 (stopped _) refl) (lit≤ tt) refl), refl),
  (_, as_said Won 9 6 (by_the_search refl (entered_after keep 40 nothing 9 p16 (stopped _) refl) (lit≤ tt) refl), refl),
  (_, as_said Won 10 0 (by_the_run refl (entered_after keep 40 nothing 10 p16 (gave _ 0 won) refl) refl refl), refl),
  visited 10 p16 (gave _ 0 won, _) refl _ refl,
)
