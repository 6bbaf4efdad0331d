-- A trial's verdict is right, and it is spent only where it must be.
use Rattle.std.proofs.Common.{◌≡◌, Bool, true, false, cond, ◌&&◌, eqb, Some, None, Option, refl, ◌∙◌, arith, eqb-true}
use Rattle.std.specs.Prelude.{codes}
use Rattle.game.specs.declared.state.State.TheVariants.{Won, NotWon, Attacker, Defender}
use Rattle.game.specs.Tree.{Tree, node, state, minimax, some_won, all_won}
use Rattle.table.specs.declared.pair.Pair.{Pair}
use Rattle.table.specs.Pairs.{Shown, won, not_won}
use Rattle.table.specs.Storings.{Storing, Keeping}
use Rattle.table.proofs.Frames.{same_pair}
use Rattle.search_laws.specs.declared.answer.Verdict.{Verdict}
use Rattle.search_laws.specs.declared.answer.Verdict.TheVariants.{Won as IsWon, NotWon as IsNotWon, Spent as IsSpent}
use Rattle.search_laws.specs.Trial.{pair_of, same, decided, decided_in, known, half, at_once, by_the_run, by_the_search, spent}
use Rattle.search_laws.specs.Run.{tops}
use Rattle.search_laws.specs.Words.{word, value_word, VerdictTells}
use Rattle.search_laws.specs.Claims.{Ranging, Agrees, Sound, Active, TrialsAreRight, SpentIsMeant}
use Rattle.search_laws.proofs.Soundness.{proof-of, runs_are_right, sound_stored}

-- verdicts of the same word are the same
pub same_verdict : VerdictTells
same_verdict IsWon IsWon e = refl
same_verdict IsWon IsNotWon e = absurd (cc)
same_verdict IsWon IsSpent e = absurd (cc)
same_verdict IsNotWon IsWon e = absurd (cc)
same_verdict IsNotWon IsNotWon e = refl
same_verdict IsNotWon IsSpent e = absurd (cc)
same_verdict IsSpent IsWon e = absurd (cc)
same_verdict IsSpent IsNotWon e = absurd (cc)
same_verdict IsSpent IsSpent e = refl

same_numbers : (p q : Pair) → same p q ≡ true → (p.proof ≡ q.proof) × (p.disproof ≡ q.disproof)
same_numbers p q = go (eqb p.proof q.proof) (eqb p.disproof q.disproof) refl refl
  where
    go : (x y : Bool) → eqb p.proof q.proof ≡ x → eqb p.disproof q.disproof ≡ y → (x && y) ≡ true →
        (p.proof ≡ q.proof) × (p.disproof ≡ q.disproof)
    go true true a b e = (eqb-true p.proof q.proof a, eqb-true p.disproof q.disproof b)
    go true false a b e = absurd (cc)
    go false y a b e = absurd (cc)

-- a decided pair that is right says what is right
decided_says : (t : Tree) (p : Pair) (w : Bool) → Agrees t p → decided p ≡ Some w → minimax t ≡ w
decided_says t p w a = go (same p won) (same p not_won) refl refl
  where
    go : (x y : Bool) → same p won ≡ x → same p not_won ≡ y → cond x (Some true) (cond y (Some false) None) ≡ Some w → minimax t ≡ w
    go true y i j e = let z : true ≡ w = cc in a.0 (same_pair p won (same_numbers p won i).0 (same_numbers p won i).1) ∙ z
    go false true i j e = let z : false ≡ w = cc in a.1 (same_pair p not_won (same_numbers p not_won j).0 (same_numbers p not_won j).1) ∙ z
    go false false i j e = absurd (cc)

in_says : (t : Tree) (w : Bool) (o : Option Pair) → ((p : Pair) → o ≡ Some p → Agrees t p) → decided_in o ≡ Some w → minimax t ≡ w
in_says t w (Some p) h e = decided_says t p w (h p refl) e
in_says t w None h e = absurd (cc)

known_says : (positions : Tree → Type 0) (standing : Shown) (t : Tree) (w : Bool) → Sound positions standing → positions t → known standing t ≡ Some w → minimax t ≡ w
unfolding minimax some_won all_won
known_says positions standing (node Won r c m) w s i e = cc
known_says positions standing (node NotWon r c m) w s i e = cc
known_says positions standing (node Attacker r c m) w s i e = in_says (node Attacker r c m) w (standing c) (s (node Attacker r c m) i) e
known_says positions standing (node Defender r c m) w s i e = in_says (node Defender r c m) w (standing c) (s (node Defender r c m) i) e

-- a position with nothing known has not ended
unknown_active : (standing : Shown) (t : Tree) → known standing t ≡ None → Active (state t)
unknown_active standing (node Won r c m) e = absurd (cc)
unknown_active standing (node NotWon r c m) e = absurd (cc)
unknown_active standing (node Attacker r c m) e = tt
unknown_active standing (node Defender r c m) e = tt

-- a verdict with the word of a position's value says what is right
says : (v : Verdict) (w : Bool) (t : Tree) → word v ≡ value_word w → minimax t ≡ w → (word v ≡ codes "won" → minimax t ≡ true) × (word v ≡ codes "not-won" → minimax t ≡ false)
says v true t k h = (λ _. h, λ e. absurd (cc))
says v false t k h = (λ e. absurd (cc), λ _. h)

value-agrees : (t : Tree) (b : Bool) → minimax t ≡ b → Agrees t (pair_of b)
value-agrees t true e = (λ _. e, λ z. let y = proof-of z in absurd (omega arith))
value-agrees t false e = (λ z. let y = proof-of z in absurd (omega arith), λ _. e)

module _ (positions : Tree → Type 0) (ranging : Ranging positions) (S : Storing) (keeping : Keeping S) where
  pub trials_are_right_lem : TrialsAreRight positions S
  trials_are_right_lem standing t b a standing' s i (at_once {v} {w} e k) =
      let z = says v w t k (known_says positions (S.shows standing) t w s i e) in (s, z.0, z.1)
  trials_are_right_lem standing t b a standing' s i (by_the_run {v} {w} {left = l} {p} e r d k) =
      let g = (runs_are_right positions ranging S keeping standing (half b) t tops standing' s i (unknown_active (S.shows standing) t e) (omega arith, omega arith)).1 l p r in
      let z = says v w t k (decided_says t p w g.1 d) in
      (g.0, z.0, z.1)
  trials_are_right_lem standing t b a standing'' s i (by_the_search {v} {standing'} e r n k) =
      let g = (runs_are_right positions ranging S keeping standing (half b) t tops standing' s i (unknown_active (S.shows standing) t e) (omega arith, omega arith)).0 r in
      let z = says v (minimax t) t k refl in
      (sound_stored positions ranging S keeping standing' t (pair_of (minimax t)) g i (value-agrees t (minimax t) refl), z.0, z.1)
  trials_are_right_lem standing t b a standing' s i (spent e r n k) = (
    (runs_are_right positions ranging S keeping standing (half b) t tops standing' s i (unknown_active (S.shows standing) t e) (omega arith, omega arith)).0 r,
    λ z. absurd (cc),
    λ z. absurd (cc),
  )

-- no value's word is that of `spent`
pub never_value : (v : Verdict) (w : Bool) → word v ≡ value_word w → word v ≡ codes "spent" → ⊥
never_value v true k e = cc
never_value v false k e = cc

pub spent-is-meant : (S : Storing) → SpentIsMeant S
spent-is-meant S standing t b a standing' (at_once {v} {w} e k) z = absurd (never_value v w k z)
spent-is-meant S standing t b a standing' (by_the_run {v} {w} e r d k) z = absurd (never_value v w k z)
spent-is-meant S standing t b a standing'' (by_the_search {v} e r n k) z = absurd (never_value v (minimax t) k z)
spent-is-meant S standing t b a standing' (spent e r n k) z = n
