-- Leasts and capped sums of the successors' numbers, and what they say of the successors' values.
use Rattle.std.proofs.Common.{◌≡◌, ℕ, zero, suc, ◌<◌, min, Bool, true, false, cond, ◌&&◌, ◌||◌, eqb, ◌⊎◌, List, [], ◌∷◌, length, get_or, set, refl, ap, ◌∙◌, inl, inr, arith}
use native.Mathlib.Decide.{ℕ_discrete}
use Rattle.std.proofs.lemmas.Bool.{eqb-true, eqb-false}
use Rattle.game.specs.declared.state.State.TheVariants.{Won, NotWon}
use Rattle.game.specs.Tree.{Tree, Moves, none, move, nowhere, state, successors, minimax, some_won, all_won}
use Rattle.table.specs.declared.pair.Pair.{Pair}
use Rattle.table.specs.declared.side.Side.TheVariants.{Attacker, Defender}
use Rattle.table.specs.Numbers.{top, capped, least, first}
use Rattle.table.proofs.Formed.{Form, is_won, is_not_won, is_open, form, capped_low, capped_left, capped_right, capped_cons}
use Rattle.table.proofs.Frames.{same_pair}
use Rattle.table.specs.Pairs.{won, not_won}
use Rattle.table.specs.Frames.{owns, againsts}
use Rattle.search_laws.specs.Claims.{Agrees}

-- a pair with a 0 is decided

pub zero-won : (p : Pair) → p.proof ≡ 0 → p ≡ won
zero-won p e = go (form p.proof p.disproof p.formed)
  where
    go : Form p.proof p.disproof → p ≡ won
    go (is_won a b) = same_pair p won a b
    go (is_not_won a b) = absurd (omega arith)
    go (is_open a b c d) = absurd (omega arith)

pub zero-not : (p : Pair) → p.disproof ≡ 0 → p ≡ not_won
zero-not p e = go (form p.proof p.disproof p.formed)
  where
    go : Form p.proof p.disproof → p ≡ not_won
    go (is_won a b) = absurd (omega arith)
    go (is_not_won a b) = same_pair p not_won a b
    go (is_open a b c d) = absurd (omega arith)

-- a successor's record is decided if the successor has ended
pub record Settled (u : Tree) (p : Pair) : Type 0 where
  pub ended_won : state u ≡ Won → p ≡ won
  pub ended_not : state u ≡ NotWon → p ≡ not_won

-- and it is right
pub record Fits (u : Tree) (p : Pair) : Type 0 where
  pub agrees : Agrees u p
  pub settled : Settled u p

-- successors and their records, one by one
abbrev pub Each : (Tree → Pair → Type 0) → List Tree → List Pair → Type 0
Each R [] [] = Unit {0}
Each R [] (p ∷ ps) = ⊥
Each R (u ∷ us) [] = ⊥
Each R (u ∷ us) (p ∷ ps) = R u p × Each R us ps

abbrev pub Fit : List Tree → List Pair → Type 0
Fit us ps = Each Fits us ps

min-zero : (a b : ℕ) → min a b ≡ 0 → (a ≡ 0) ⊎ (b ≡ 0)
min-zero zero b e = inl refl
min-zero (suc a) zero e = inr refl
min-zero (suc a) (suc b) e = absurd (omega arith)

capped-zero : (n : ℕ) (ns : List ℕ) → capped (n ∷ ns) ≡ 0 → (n ≡ 0) × (capped ns ≡ 0)
capped-zero n ns e = go (ℕ_discrete n top) (ℕ_discrete (capped ns) top)
  where
    go : Dec (n ≡ top) → Dec (capped ns ≡ top) → (n ≡ 0) × (capped ns ≡ 0)
    go (yes x) y = absurd (omega (arith, capped_cons n ns, capped_left n (capped ns) x))
    go (no x) (yes y) = absurd (omega (arith, capped_cons n ns, capped_right n (capped ns) y))
    go (no x) (no y) = let c = capped_cons n ns in let l = capped_low n (capped ns) x y in (omega arith, omega arith)

or-true : (b : Bool) → (b || true) ≡ true
or-true true = refl
or-true false = refl

and_false : (b : Bool) → (b && false) ≡ false
and_false true = refl
and_false false = refl

-- the attacker to move
pub some_yes : (m : Moves) (ps : List Pair) → Fit (successors m) ps → least (owns Attacker ps) ≡ 0 → some_won m ≡ true
unfolding minimax some_won all_won
some_yes none [] f e = absurd (omega arith)
some_yes none (p ∷ ps) f e = elim f [ ]
some_yes (move x t m) [] f e = elim f [ ]
some_yes (move x t m) (p ∷ ps) f e = go (min-zero p.proof (least (owns Attacker ps)) e) (some_yes m ps f.1)
  where
    go : (p.proof ≡ 0) ⊎ (least (owns Attacker ps) ≡ 0) → (least (owns Attacker ps) ≡ 0 → some_won m ≡ true) → (minimax t || some_won m) ≡ true
    go (inl z) h = rw (f.0.agrees.0 (zero-won p z))
    go (inr z) h = rw (h z) (or-true (minimax t))

pub some_no : (m : Moves) (ps : List Pair) → Fit (successors m) ps → capped (againsts Attacker ps) ≡ 0 → some_won m ≡ false
unfolding minimax some_won all_won
some_no none [] f e = refl
some_no none (p ∷ ps) f e = elim f [ ]
some_no (move x t m) [] f e = elim f [ ]
some_no (move x t m) (p ∷ ps) f e =
    let z = capped-zero p.disproof (againsts Attacker ps) e in
    rw (f.0.agrees.1 (zero-not p z.0)) (some_no m ps f.1 z.1)

-- the defender to move
pub all_no : (m : Moves) (ps : List Pair) → Fit (successors m) ps → least (owns Defender ps) ≡ 0 → all_won m ≡ false
unfolding minimax some_won all_won
all_no none [] f e = absurd (omega arith)
all_no none (p ∷ ps) f e = elim f [ ]
all_no (move x t m) [] f e = elim f [ ]
all_no (move x t m) (p ∷ ps) f e = go (min-zero p.disproof (least (owns Defender ps)) e) (all_no m ps f.1)
  where
    go : (p.disproof ≡ 0) ⊎ (least (owns Defender ps) ≡ 0) → (least (owns Defender ps) ≡ 0 → all_won m ≡ false) → (minimax t && all_won m) ≡ false
    go (inl z) h = rw (f.0.agrees.1 (zero-not p z))
    go (inr z) h = rw (h z) (and_false (minimax t))

pub all_yes : (m : Moves) (ps : List Pair) → Fit (successors m) ps → capped (againsts Defender ps) ≡ 0 → all_won m ≡ true
unfolding minimax some_won all_won
all_yes none [] f e = refl
all_yes none (p ∷ ps) f e = elim f [ ]
all_yes (move x t m) [] f e = elim f [ ]
all_yes (move x t m) (p ∷ ps) f e =
    let z = capped-zero p.proof (againsts Defender ps) e in
    rw (f.0.agrees.0 (zero-won p z.0)) (all_yes m ps f.1 z.1)

-- the number at the first place of the least, where that is below `top`
pub first-at : (n : ℕ) (ns : List ℕ) (d : ℕ) → least ns ≡ n → n < top → get_or ns (first n ns) d ≡ n
first-at n [] d e h = absurd (omega arith)
first-at n (k ∷ ns) d e h = go (eqb k n) refl (first-at n ns d)
  where
    go : (b : Bool) → eqb k n ≡ b → (least ns ≡ n → n < top → get_or ns (first n ns) d ≡ n) → get_or (k ∷ ns) (cond b 0 (suc (first n ns))) d ≡ n
    go true t ih = eqb-true k n t
    go false t ih =
        let q : k ≡ n → ⊥ = eqb-false k n t in
        let l : least ns ≡ n = omega arith in
        ih l h

-- a number `top` makes the capped sum `top`
pub capped-top : (ns : List ℕ) (i d : ℕ) → i < length ns → get_or ns i d ≡ top → capped ns ≡ top
capped-top [] i d h e = absurd (omega arith)
capped-top (n ∷ ns) zero d h e = capped_cons n ns ∙ capped_left n (capped ns) e
capped-top (n ∷ ns) (suc i) d h e = capped_cons n ns ∙ capped_right n (capped ns) (capped-top ns i d (omega arith) e)

-- records by number

module _ (R : Tree → Pair → Type 0) where
  pub each_length : (us : List Tree) (ps : List Pair) → Each R us ps → length us ≡ length ps
  each_length [] [] f = refl
  each_length [] (p ∷ ps) f = elim f [ ]
  each_length (u ∷ us) [] f = elim f [ ]
  each_length (u ∷ us) (p ∷ ps) f = ap suc (each_length us ps f.1)

  pub each_at : (us : List Tree) (ps : List Pair) → Each R us ps → (i : ℕ) (d : Pair) → i < length us → R (get_or us i nowhere) (get_or ps i d)
  each_at [] [] f i d h = absurd (omega arith)
  each_at [] (p ∷ ps) f i d h = elim f [ ]
  each_at (u ∷ us) [] f i d h = elim f [ ]
  each_at (u ∷ us) (p ∷ ps) f zero d h = f.0
  each_at (u ∷ us) (p ∷ ps) f (suc i) d h = each_at us ps f.1 i d (omega arith)

  pub each_set : (us : List Tree) (ps : List Pair) → Each R us ps → (i : ℕ) (p : Pair) → R (get_or us i nowhere) p → Each R us (set ps i p)
  each_set [] [] f i q g = tt
  each_set [] (p ∷ ps) f i q g = elim f [ ]
  each_set (u ∷ us) [] f i q g = elim f [ ]
  each_set (u ∷ us) (p ∷ ps) f zero q g = (g, f.1)
  each_set (u ∷ us) (p ∷ ps) f (suc i) q g = (f.0, each_set us ps f.1 i q g)

pub settled_each : (us : List Tree) (ps : List Pair) → Fit us ps → Each Settled us ps
settled_each [] [] f = tt
settled_each [] (p ∷ ps) f = elim f [ ]
settled_each (u ∷ us) [] f = elim f [ ]
settled_each (u ∷ us) (p ∷ ps) f = (f.0.settled, settled_each us ps f.1)
