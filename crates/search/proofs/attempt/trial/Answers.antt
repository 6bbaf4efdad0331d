use Rattle.std.proofs.Common.{◌≡◌, ℕ, ◌≤◌, true, false, length, None, subst, rules}
use Rattle.std.specs.Prelude.{codes}
use Rattle.game.specs.Limits.{records_needed}
use Rattle.game.specs.Tree.{Tree, minimax}
use Rattle.table.specs.Storings.{Storing}
use Rattle.search_laws.specs.Trial.{Trial}
use Rattle.search_laws.specs.Words.{word}
use Rattle.search_laws.specs.declared.answer.Answer.{Answer}
use Rattle.search_laws.specs.Claims.{Ranging, Sound}
use Rattle.table.specs.Storings.{Keeping}
use Rattle.search_laws.specs.Calls.{Means, budget_limit, trial_decline}
use Rattle.search_laws.proofs.Trials.{trials_are_right_lem, spent-is-meant}
use Rattle.search_laws.proofs.Laws.{ranging}
use Rattle.search.proofs.attempt.trial.Goals as goal

accepted : (b n : ℕ) → b ≤ budget_limit → records_needed ≤ n → trial_decline b n ≡ None
accepted b n within enough = search rules

means : (S : Storing) → Keeping S → (positions : Tree → Type 0) → Ranging positions → (h : S.Standing) (t : Tree) (b : ℕ) (a : Answer) (h' : S.Standing)
    → positions t → Trial S h t b a h' → Means positions S h t b a h'
means S keeping positions ranging h t b a h' i r =
    let right : Sound positions (S.shows h) → Sound positions (S.shows h') × (word a.verdict ≡ codes "won" → minimax t ≡ true) × (word a.verdict ≡ codes "not-won" → minimax t ≡ false) =
    λ s. trials_are_right_lem positions ranging S keeping h t b a h' s i r in
    record { sound = λ s. (right s).0; won = λ s. (right s).1; not_won = λ s. (right s).2; spent = spent-is-meant S h t b a h' r }

pub returns-clause-right : goal.returns-clause-right
returns-clause-right g c =
    let S : Storing = g.T.Table.storing in
    let h : S.Standing = g.T.Table.standing c.args.table.now in
    let h' : S.Standing = g.T.Table.standing c.try_position.new.table in
    let t : Tree = g.G.Game.current c.args.game.now in
    means S g.met.T.Table.keeping
    g.G.Game.positions (ranging g.met.G.Game.lawful)
    h t c.args.budget c.try_position.result h' (g.met.G.Game.within c.args.game.now)
    (subst (λ (b : ℕ). Trial S h t b c.try_position.result h') c.in_ok-budget.ensures c.try_position.ensures.tried)

pub returns-clause-tried : goal.returns-clause-tried
returns-clause-tried g c =
    let S : Storing = g.T.Table.storing in
    let h : S.Standing = g.T.Table.standing c.args.table.now in
    let h' : S.Standing = g.T.Table.standing c.try_position.new.table in
    let t : Tree = g.G.Game.current c.args.game.now in
    let within : c.args.budget ≤ budget_limit = subst (λ (b : ℕ). b ≤ budget_limit) c.in_ok-budget.ensures c.in_ok-budget.budget.within in (
      accepted c.args.budget (length c.args.records.now) within c.in-Some.ensures.cases.enough,
      search rules,
      subst (λ (b : ℕ). Trial S h t b c.try_position.result h') c.in_ok-budget.ensures c.try_position.ensures.tried,
    )
