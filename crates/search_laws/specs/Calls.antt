-- The trial as a call: what is declined, what an accepted call answers, and what its answer means.
use Rattle.std.specs.Prelude.{◌≡◌, ℕ, ◌<◌, true, false, cond, List, length, Some, None, Ok, Err, Option, Result, codes, nat_lt}
use Rattle.game.specs.declared.decline.Decline.{Decline}
use Rattle.game.specs.Declines.{number}
use Rattle.game.specs.Limits.{records_needed}
use Rattle.game.specs.Tree.{Tree, minimax}
use Rattle.table.specs.declared.pair.Pair.{Pair}
use Rattle.table.specs.Storings.{Storing}
use Rattle.search_laws.specs.declared.answer.Answer.{Answer}
use Rattle.search_laws.specs.Trial.{Trial, need, share}
use Rattle.search_laws.specs.Words.{word}
use Rattle.search_laws.specs.Claims.{Sound}

-- the greatest budget of a call
abbrev pub budget_limit : ℕ
budget_limit = 99999999

-- the number by which a trial with a budget and so many pair records is declined, if it is, in the order of checking
abbrev pub trial_decline : ℕ → ℕ → Option ℕ
trial_decline b n = cond (nat_lt budget_limit b) (Some 1) (cond (nat_lt n records_needed) (Some 2) None)

-- A trial's answer, or a decline that changes neither where the table stands nor the records. After an accepted call the records are as many
-- as before, and may hold any pairs.
abbrev pub Tried : (S : Storing) → S.Standing → Tree → ℕ → List Pair → Result Answer Decline → S.Standing → List Pair → Type 0
Tried S standing t b rs (Ok a) standing' rs' =
    (trial_decline b (length rs) ≡ None) × (length rs' ≡ length rs) × Trial S standing t b a standing'
Tried S standing t b rs (Err d) standing' rs' =
    (trial_decline b (length rs) ≡ Some (number d)) × (standing' ≡ standing) × (rs' ≡ rs)

-- What a trial's answer says of its position. Where the table showed no false decided pair, it shows none, and a verdict won or not won is
-- minimax's; spent is said only where the plain search needs more than its share.
pub record Means (positions : Tree → Type 0) (S : Storing) (standing : S.Standing) (t : Tree) (b : ℕ) (a : Answer) (standing' : S.Standing) : Type 0 where
  pub sound : Sound positions (S.shows standing) → Sound positions (S.shows standing')
  pub won : Sound positions (S.shows standing) → word a.verdict ≡ codes "won" → minimax t ≡ true
  pub not_won : Sound positions (S.shows standing) → word a.verdict ≡ codes "not-won" → minimax t ≡ false
  pub spent : word a.verdict ≡ codes "spent" → share b < need t

abbrev pub Right : (Tree → Type 0) → (S : Storing) → S.Standing → Tree → ℕ → Result Answer Decline → S.Standing → Type 0
Right positions S standing t b (Ok a) standing' = Means positions S standing t b a standing'
Right positions S standing t b (Err d) standing' = standing' ≡ standing
