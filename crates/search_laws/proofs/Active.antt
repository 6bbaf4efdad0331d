-- No frame belongs to a position that has ended.
use Rattle.std.proofs.Common.{◌≡◌, ℕ, ◌<◌, List, [], ◌∷◌, ◌++◌, map, length, get_or, sym, refl, ap, ◌∙◌, subst, arith}
use Rattle.std.specs.List.{AllByRecursion}
use Rattle.std.proofs.lemmas.List.{get_or-map, length-map}
use Rattle.game.specs.declared.state.State.TheVariants.{Won, NotWon, Attacker, Defender}
use Rattle.game.specs.Tree.{Tree, node, state, next}
use Rattle.table.specs.declared.pair.Pair.{Pair}
use Rattle.table.specs.declared.side.Side.{Side}
use Rattle.table.specs.declared.side.Side.TheVariants.{Attacker as Attacks, Defender as Defends}
use Rattle.table.specs.Numbers.{top, least}
use Rattle.table.specs.Pairs.{Shown, won, own, against}
use Rattle.table.specs.Frames.{owns, againsts}
use Rattle.table.specs.Storings.{Storing}
use Rattle.search_laws.specs.declared.thresholds.Thresholds.{Thresholds}
use Rattle.search_laws.specs.Run.{mover, OwnPair, Below, listed, chosen, taken, taken_thresholds, Outcome, Enters, none_left, counted, Works, gives, stops, works_on}
use Rattle.search_laws.specs.Entered.{Frame, frames, frames_within}
use Rattle.search_laws.specs.Claims.{Active, UpToTop, FramesAreActive}
use Rattle.search_laws.proofs.Numbers.{Settled, Each, first-at, capped-top, each_length, each_at, each_set}
use Rattle.search_laws.proofs.Taking.{below_top, chosen_in, thresholds-low}

pub settled_active : (u : Tree) (p : Pair) → Active (state u) → Settled u p
settled_active u p a = record { ended_won = λ e. absurd (subst Active e a); ended_not = λ e. absurd (subst Active e a) }

settled_listed : (shown : Shown) (u : Tree) → Settled u (listed shown u)
settled_listed shown (node Won r c m) = record { ended_won = λ z. refl; ended_not = λ e. absurd (cc) }
settled_listed shown (node NotWon r c m) = record { ended_won = λ e. absurd (cc); ended_not = λ z. refl }
settled_listed shown (node Attacker r c m) = settled_active (node Attacker r c m) _ tt
settled_listed shown (node Defender r c m) = settled_active (node Defender r c m) _ tt

all_settled : (shown : Shown) (us : List Tree) → Each Settled us (map (listed shown) us)
all_settled shown [] = tt
all_settled shown (u ∷ us) = (settled_listed shown u, all_settled shown us)

-- a successor with neither number at `top` has not ended
active_child : (s : Side) (u : Tree) (p : Pair) → Settled u p → own s p < top → (against s p ≡ top → ⊥) → Active (state u)
active_child Attacks (node Won r c m) p f x y = absurd (y (ap (λ (q : Pair). q.disproof) (f.ended_won refl)))
active_child Attacks (node NotWon r c m) p f x y = let e : p.proof ≡ top = ap (λ (q : Pair). q.proof) (f.ended_not refl) in absurd (omega arith)
active_child Attacks (node Attacker r c m) p f x y = tt
active_child Attacks (node Defender r c m) p f x y = tt
active_child Defends (node Won r c m) p f x y = let e : p.disproof ≡ top = ap (λ (q : Pair). q.disproof) (f.ended_won refl) in absurd (omega arith)
active_child Defends (node NotWon r c m) p f x y = absurd (y (ap (λ (q : Pair). q.proof) (f.ended_not refl)))
active_child Defends (node Attacker r c m) p f x y = tt
active_child Defends (node Defender r c m) p f x y = tt

-- the successor that a frame takes has not ended
pub taken_active : (t : Tree) (l : Thresholds) (ps : List Pair) (p : Pair) → UpToTop l → Each Settled (next t) ps → OwnPair t ps p → Below l p →
    Active (state (taken t ps)) × UpToTop (taken_thresholds t l ps)
taken_active t l ps p low fit own_pair below =
    let s : Side = mover (state t) in
    let i : ℕ = chosen t ps in
    let b = below_top s l ps p low own_pair below in
    let in-ps : i < length ps = chosen_in s l ps p low own_pair below in
    let in-us : i < length (next t) = omega (arith, each_length Settled (next t) ps fit) in
    let long = length-map ps (against s) in
    let is-least : own s (get_or ps i won) ≡ least (owns s ps) =
    sym (get_or-map (own s) ps i won 0 in-ps) ∙ first-at (least (owns s ps)) (owns s ps) 0 refl b.0 in
    let no_top : against s (get_or ps i won) ≡ top → ⊥ =
    λ z. let w = capped-top (againsts s ps) i 0 (omega arith) (get_or-map (against s) ps i won 0 in-ps ∙ z) in omega (arith, b.1) in (
      active_child s (taken t ps) (get_or ps i won) (each_at Settled (next t) ps fit i won in-us) (omega (arith, b.0)) no_top,
      thresholds-low s l ps low,
    )

abbrev Open : Frame → Type 0
Open f = Active (state f.at) × UpToTop f.thresholds

all_append : (xs ys : List Frame) → AllByRecursion Open xs → AllByRecursion Open ys → AllByRecursion Open (xs ++ ys)
all_append [] ys h k = k
all_append (x ∷ xs) ys h k = (h.0, all_append xs ys h.1 k)

module _ (S : Storing) where
  mutual
    unfolding frames

    enters_active : {standing : S.Standing} {left : ℕ} {t : Tree} {l : Thresholds} {o : Outcome S.Standing} (e : Enters S standing left t l o) →
        Active (state t) → UpToTop l → AllByRecursion Open (frames e)
    enters_active none_left a k = tt
    enters_active (counted {standing} {t = t} w) a k = ((a, k), works_active w k (all_settled (S.shows standing) (next t)))

    works_active : {standing : S.Standing} {left : ℕ} {t : Tree} {l : Thresholds} {ps : List Pair} {o : Outcome S.Standing}
        (w : Works S standing left t l ps o) → UpToTop l → Each Settled (next t) ps → AllByRecursion Open (frames_within w)
    works_active (gives h r) k f = tt
    works_active (stops {t = t} {l} {ps} {p} h b e) k f =
        let g = taken_active t l ps p k f h b in enters_active e g.0 g.1
    works_active (works_on {t = t} {l} {ps} {p} {q} h b e w) k f =
        let g = taken_active t l ps p k f h b in
        all_append (frames e) (frames_within w) (enters_active e g.0 g.1)
        (works_active w k (each_set Settled (next t) ps f (chosen t ps) q (settled_active (taken t ps) q g.0)))

  pub frames_are_active_lem : FramesAreActive S
  frames_are_active_lem standing left t l o e a k = enters_active e a k
