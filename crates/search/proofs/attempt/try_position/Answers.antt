use Rattle.std.proofs.Common.{◌≡◌, ℕ, ◌-◌, ◌<◌, ◌≤◌, Some, None, sym, refl, ap, ◌∙◌, subst, ap₂}
use Rattle.game.specs.Tree.{Tree, code, minimax}
use Rattle.table.specs.Storings.{Storing}
use Rattle.search_laws.specs.declared.answer.Verdict.{Verdict}
use Rattle.search_laws.specs.Run.{Outcome, stopped, Enters, tops}
use Rattle.search_laws.specs.Trial.{known, pair_of, need, half, share, Trial, at_once, by_the_run, by_the_search, spent}
use Rattle.search_laws.specs.Words.{word, value_word}
use Rattle.search.specs.Plain.{Searched}
use Rattle.search_laws.proofs.Courses.{trials_agree_lem}
use Rattle.search.specs.declared.frame.Given.{Given}
use Rattle.search.specs.Finishes.{Tells}
use Rattle.search_laws.specs.declared.answer.Answer.{Answer}
use Rattle.search.proofs.attempt.try_position.Goals as wants

search_trial : (S : Storing) (h h' : S.Standing) (u : Tree) (b : ℕ) → known (S.shows h) u ≡ None → Enters S h (half b) u tops (stopped h') → need u ≤ share b →
    (v : Verdict) (n : ℕ) (H : S.Standing) → word v ≡ value_word (minimax u) → n ≡ need u → H ≡ S.stored h' (code u) (pair_of (minimax u)) →
    Trial S h u b (record { verdict = v; expansions = half b; entries = n }) H
search_trial S h h' u b k r l v n H x y z =
    subst (λ (m : ℕ). Trial S h u b (record { verdict = v; expansions = half b; entries = m }) H) (sym y)
    (subst (λ (d : S.Standing). Trial S h u b (record { verdict = v; expansions = half b; entries = need u }) d) (sym z)
    (by_the_search k r l x))

stopped_run : (S : Storing) (h h' : S.Standing) (u : Tree) (n : ℕ) (o : Outcome S.Standing) → Enters S h n u tops o → Tells None h' o →
    Enters S h n u tops (stopped h')
stopped_run S h h' u n o e k = subst (Enters S h n u tops) k e

run_trial : (S : Storing) (h h' : S.Standing) (u : Tree) (b : ℕ) (g : Given) (v : Verdict) (o : Outcome S.Standing) → known (S.shows h) u ≡ None →
    Enters S h (half b) u tops o → Tells (Some g) h' o → word v ≡ value_word g.won →
    Trial S h u b (record { verdict = v; expansions = half b - g.left; entries = 0 }) h'
run_trial S h h' u b g v o k e told x = by_the_run k (subst (Enters S h (half b) u tops) told.2 e) told.1 x

only_so : (S : Storing) (h h' : S.Standing) (u : Tree) (b : ℕ) (a : Answer) → Trial S h u b a h' →
    (a' : Answer) (h'' : S.Standing) → Trial S h u b a' h'' → (a' ≡ a) × (h'' ≡ h')
only_so S h h' u b a x a' h'' y = trials_agree_lem S h u b a' a h'' h' y x

pub returns-in-Some-clause-tried : wants.returns-in-Some-clause-tried
returns-in-Some-clause-tried g c = at_once (sym c.known_value.ensures ∙ c.in-Some.is) c.of.ensures

pub returns-in-Some-clause-only : wants.returns-in-Some-clause-only
returns-in-Some-clause-only g c = only_so g.T.Table.storing _ _ _ _ _ (returns-in-Some-clause-tried g c)

pub returns-in-None-clause-tried : wants.returns-in-None-clause-tried
returns-in-None-clause-tried g c =
    let S : Storing = g.T.Table.storing in
    let u : Tree = g.G.Game.current c.args.game.now in
    let at : g.G.Game.current c.run.new.game ≡ u = c.run.ensures.at in
    let less : share c.amount-budget.result < need u = subst (λ (x : Tree). share c.amount-budget.result < need x) at c.in-None.ensures.found in
    let comes = c.in_default-run.ensures.comes in
    rw (← c.amount-budget.ensures.is) (spent (sym c.known_value.ensures ∙ c.in_default.is) (stopped_run S _ _ u _ comes.0 comes.1 comes.2) less refl)

pub returns-in-None-clause-only : wants.returns-in-None-clause-only
returns-in-None-clause-only g c = only_so g.T.Table.storing _ _ _ _ _ (returns-in-None-clause-tried g c)

pub returns-in-Some-run-clause-tried : wants.returns-in-Some-run-clause-tried
returns-in-Some-run-clause-tried g c =
    let comes = c.in-Some-run.ensures.comes in
    rw (← c.amount-budget.ensures.is)
    (run_trial g.T.Table.storing _ _ _ _ c.in-Some-run.given _ comes.0 (sym c.known_value.ensures ∙ c.in_default.is) comes.1 comes.2 c.of-in-Some-run.ensures)

pub returns-in-Some-run-clause-only : wants.returns-in-Some-run-clause-only
returns-in-Some-run-clause-only g c = only_so g.T.Table.storing _ _ _ _ _ (returns-in-Some-run-clause-tried g c)

pub returns-in-Some-plain_search-clause-tried : wants.returns-in-Some-plain_search-clause-tried
returns-in-Some-plain_search-clause-tried g c =
    let S : Storing = g.T.Table.storing in
    let h : S.Standing = g.T.Table.standing c.args.table.now in
    let h' : S.Standing = g.T.Table.standing c.run.new.table in
    let u : Tree = g.G.Game.current c.args.game.now in
    let at : g.G.Game.current c.run.new.game ≡ u = c.run.ensures.at in
    let comes = c.in_default-run.ensures.comes in
    let found : Searched u (share c.amount-budget.result) (Some c.in-Some-plain_search.found) =
    subst (λ (x : Tree). Searched x (share c.amount-budget.result) (Some c.in-Some-plain_search.found)) at c.in-Some-plain_search.ensures.found in
    let same : g.G.Game.current c.plain_search.new.game ≡ u = c.plain_search.ensures.at ∙ at in
    let table : g.T.Table.standing c.store_value.new.table ≡ S.stored h' (code u) (pair_of (minimax u)) =
    c.store_value.ensures ∙ ap₂ (S.stored h') (ap code same) (ap pair_of found.0) in
    rw (← c.amount-budget.ensures.is) (search_trial S h h' u c.amount-budget.result (sym c.known_value.ensures ∙ c.in_default.is) (stopped_run S h h' u _ comes.0 comes.1 comes.2) found.2
    c.of-in-Some-plain_search.result c.in-Some-plain_search.found.entries (g.T.Table.standing c.store_value.new.table)
    (c.of-in-Some-plain_search.ensures ∙ ap value_word found.0) found.1 table)

pub returns-in-Some-plain_search-clause-only : wants.returns-in-Some-plain_search-clause-only
returns-in-Some-plain_search-clause-only g c = only_so g.T.Table.storing _ _ _ _ _ (returns-in-Some-plain_search-clause-tried g c)
