-- What a table without a false decided pair lists is right, a frame's pair is right if its records are, and so on through a run.
use Rattle.std.proofs.Common.{◌≡◌, ℕ, ◌⊎◌, List, [], ◌∷◌, map, Some, None, Option, sym, refl, ap, ◌∙◌, subst, inl, inr, arith}
use mathlib.Core.List.{List-discrete}
use native.Mathlib.Decide.{ℕ_discrete}
use Rattle.std.specs.List.{AllByRecursion}
use Rattle.std.proofs.ByRecursion.{All-get_or}
use Rattle.game.specs.declared.state.State.TheVariants.{Won, NotWon, Attacker, Defender}
use Rattle.game.specs.Tree.{Tree, node, nowhere, state, code, next, minimax, some_won, all_won}
use Rattle.table.specs.declared.pair.Pair.{Pair}
use Rattle.table.specs.Pairs.{Code, Shown}
use Rattle.table.specs.Storings.{Storing, Keeping}
use Rattle.search_laws.specs.declared.thresholds.Thresholds.{Thresholds}
use Rattle.search_laws.specs.Run.{mover, OwnPair, Below, or_fresh, listed, chosen, taken, Outcome, stopped, gave, Enters, none_left, counted, Works, gives, stops, works_on}
use Rattle.search_laws.specs.Claims.{Ranging, Agrees, Sound, Active, UpToTop, RunsAreRight}
use Rattle.search_laws.proofs.Numbers.{Fits, Fit, some_yes, some_no, all_yes, all_no, each_length, each_set, settled_each}
use Rattle.search_laws.proofs.Taking.{chosen_in}
use Rattle.search_laws.proofs.Active.{settled_active, taken_active}

unequal_some : (p : Pair) → ◌≡◌ {A = Option Pair} None (Some p) → ⊥
unequal_some p e = cc

same_some : (o : Option Pair) (p q : Pair) → o ≡ Some p → o ≡ Some q → p ≡ q
same_some o p q a b = cc

pub fits-active : (u : Tree) (p : Pair) → Active (state u) → Agrees u p → Fits u p
fits-active u p a g =
    record { agrees = g; settled = settled_active u p a }

pub proof-of : {p q : Pair} → p ≡ q → p.proof ≡ q.proof
proof-of e = ap (λ (x : Pair). x.proof) e

pub disproof-of : {p q : Pair} → p ≡ q → p.disproof ≡ q.disproof
disproof-of e = ap (λ (x : Pair). x.disproof) e

-- a frame's pair is right if its records are
pub pair-agrees : (t : Tree) (ps : List Pair) (p : Pair) → Active (state t) → Fit (next t) ps → OwnPair t ps p → Agrees t p
unfolding minimax some_won all_won
pair-agrees (node Won r c m) ps p a f h = elim a [ ]
pair-agrees (node NotWon r c m) ps p a f h = elim a [ ]
pair-agrees (node Attacker r c m) ps p a f h = (λ e. some_yes m ps f (sym h.least ∙ proof-of e), λ e. some_no m ps f (sym h.sum ∙ disproof-of e))
pair-agrees (node Defender r c m) ps p a f h = (λ e. all_yes m ps f (sym h.sum ∙ proof-of e), λ e. all_no m ps f (sym h.least ∙ disproof-of e))

-- what a frame comes to is right
abbrev pub Comes : (Tree → Type 0) → (S : Storing) → Tree → Outcome S.Standing → Type 0
Comes positions S t (stopped standing) = Sound positions (S.shows standing)
Comes positions S t (gave standing left p) = Sound positions (S.shows standing) × Agrees t p

module _ (positions : Tree → Type 0) (ranging : Ranging positions) (S : Storing) (keeping : Keeping S) where
  pub sound_stored : (standing : S.Standing) (t : Tree) (p : Pair) → Sound positions (S.shows standing) → positions t → Agrees t p → Sound positions (S.shows (S.stored standing (code t) p))
  sound_stored standing t p s i a u j q e = go (List-discrete ℕ_discrete (code t) (code u))
    where
      new : code t ≡ code u → (S.shows (S.stored standing (code t) p) (code t) ≡ Some p) ⊎ ((S.shows (S.stored standing (code t) p) (code t) ≡ S.shows standing (code t)) ⊎ (S.shows (S.stored standing (code t) p) (code t) ≡ None)) → Agrees u q
      new c (inl k) =
          let same : t ≡ u = ranging.codes t u i j c in
          let k' : S.shows (S.stored standing (code t) p) (code u) ≡ Some p = subst (λ (x : Code). S.shows (S.stored standing (code t) p) x ≡ Some p) c k in
          let pq : p ≡ q = same_some (S.shows (S.stored standing (code t) p) (code u)) p q k' e in
          subst (λ (x : Pair). Agrees u x) pq (subst (λ (x : Tree). Agrees x p) same a)
      new c (inr (inl k)) =
          let k' : S.shows (S.stored standing (code t) p) (code u) ≡ S.shows standing (code u) = subst (λ (x : Code). S.shows (S.stored standing (code t) p) x ≡ S.shows standing x) c k in
          s u j q (sym k' ∙ e)
      new c (inr (inr k)) =
          let k' : S.shows (S.stored standing (code t) p) (code u) ≡ None = subst (λ (x : Code). S.shows (S.stored standing (code t) p) x ≡ None) c k in
          absurd (unequal_some q (sym k' ∙ e))

      old : (S.shows (S.stored standing (code t) p) (code u) ≡ S.shows standing (code u)) ⊎ (S.shows (S.stored standing (code t) p) (code u) ≡ None) → Agrees u q
      old (inl k) = s u j q (sym k ∙ e)
      old (inr k) = absurd (unequal_some q (sym k ∙ e))

      go : Dec (code t ≡ code u) → Agrees u q
      go (yes c) = new c (keeping.own standing (code t) p)
      go (no c) = old (keeping.other standing (code t) (code u) p c)

  -- what a sound table lists is right
  fresh_agrees : (standing : Shown) (u : Tree) → Sound positions standing → positions u → (o : Option Pair) → standing (code u) ≡ o → Agrees u (or_fresh o)
  fresh_agrees standing u s i (Some p) e = s u i p e
  fresh_agrees standing u s i None e = (λ z. let y = proof-of z in absurd (omega arith), λ z. let y = proof-of z in absurd (omega arith))

  fits_listed : (standing : Shown) (u : Tree) → Sound positions standing → positions u → Fits u (listed standing u)
  unfolding minimax some_won all_won
  fits_listed standing (node Won r c m) s i =
      record {
        agrees = (λ z. refl, λ z. let y = proof-of z in absurd (omega arith));
        settled = record { ended_won = λ z. refl; ended_not = λ e. absurd (cc) };
      }
  fits_listed standing (node NotWon r c m) s i =
      record {
        agrees = (λ z. let y = proof-of z in absurd (omega arith), λ z. refl);
        settled = record { ended_won = λ e. absurd (cc); ended_not = λ z. refl };
      }
  fits_listed standing (node Attacker r c m) s i = fits-active (node Attacker r c m) _ tt (fresh_agrees standing (node Attacker r c m) s i (standing c) refl)
  fits_listed standing (node Defender r c m) s i = fits-active (node Defender r c m) _ tt (fresh_agrees standing (node Defender r c m) s i (standing c) refl)

  fit_listed : (standing : Shown) → Sound positions standing → (us : List Tree) → AllByRecursion positions us → Fit us (map (listed standing) us)
  fit_listed standing s [] h = tt
  fit_listed standing s (u ∷ us) h = (fits_listed standing u s h.0, fit_listed standing s us h.1)

  taken_position : (t : Tree) (l : Thresholds) (ps : List Pair) (p : Pair) → positions t → UpToTop l → Fit (next t) ps → OwnPair t ps p → Below l p →
      positions (taken t ps)
  taken_position t l ps p at low fit own below =
      let among = chosen_in (mover (state t)) l ps p low own below in
      let long = each_length Fits (next t) ps fit in
      All-get_or positions (next t) (chosen t ps) nowhere (omega arith) (ranging.closed t at)

  -- by what the frames come to, from the inside out
  mutual
    pub enters_right : {standing : S.Standing} {left : ℕ} {t : Tree} {l : Thresholds} {o : Outcome S.Standing} → Enters S standing left t l o →
        Sound positions (S.shows standing) → positions t → Active (state t) → UpToTop l → Comes positions S t o
    enters_right none_left s i a k = s
    enters_right (counted {standing} {t = t} w) s i a k =
        works_right w s i a k (fit_listed (S.shows standing) s (next t) (ranging.closed t i))

    works_right : {standing : S.Standing} {left : ℕ} {t : Tree} {l : Thresholds} {ps : List Pair} {o : Outcome S.Standing} →
        Works S standing left t l ps o → Sound positions (S.shows standing) → positions t → Active (state t) → UpToTop l → Fit (next t) ps →
        Comes positions S t o
    works_right (gives {standing} {t = t} {ps = ps} {p} h r) s i a k f =
        let g = pair-agrees t ps p a f h in (sound_stored standing t p s i g, g)
    works_right (stops {t = t} {l} {ps} {p} h b e) s i a k f =
        let g = taken_active t l ps p k (settled_each (next t) ps f) h b in
        enters_right e s (taken_position t l ps p i k f h b) g.0 g.1
    works_right (works_on {t = t} {l} {ps} {p} {q} h b e w) s i a k f =
        let g = taken_active t l ps p k (settled_each (next t) ps f) h b in
        let r = enters_right e s (taken_position t l ps p i k f h b) g.0 g.1 in
        works_right w r.0 i a k (each_set Fits (next t) ps f (chosen t ps) q (fits-active (taken t ps) q g.0 r.1))

  pub runs_are_right : RunsAreRight positions S
  runs_are_right standing left t l standing' s i a k = (λ r. enters_right r s i a k, λ left' p r. enters_right r s i a k)
