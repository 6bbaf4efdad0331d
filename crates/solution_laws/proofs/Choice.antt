-- Which move is chosen for `!`.
use Rattle.std.proofs.Common.{◌≡◌, ℕ, zero, suc, ◌<◌, Bool, true, false, cond, List, [], ◌∷◌, length, get_or, Some, None, Option, sym, refl, subst, arith}
use Rattle.solution_laws.specs.Solution.{onward, first_win, best}
use Rattle.solution_laws.proofs.Clash.{clash}

pub true_below : (ws : List Bool) (i : ℕ) → get_or ws i false ≡ true → i < length ws
true_below [] zero e = clash (cc)
true_below [] (suc i) e = clash (cc)
true_below (w ∷ ws) zero e = omega arith
true_below (w ∷ ws) (suc i) e = let h = true_below ws i e in omega arith

onward-some : (o : Option ℕ) (j : ℕ) → onward o ≡ Some j → (i : ℕ) × (o ≡ Some i) × (j ≡ suc i)
onward-some None j e = clash (cc)
onward-some (Some i) j e = (i, refl, cc)

onward-none : (o : Option ℕ) → onward o ≡ None → o ≡ None
onward-none None e = refl
onward-none (Some i) e = clash (cc)

first-wins : (ws : List Bool) (j : ℕ) → first_win ws ≡ Some j → get_or ws j false ≡ true
first-wins [] j e = clash (cc)
first-wins (true ∷ ws) j e = let p : j ≡ 0 = cc in subst (λ (k : ℕ). get_or (true ∷ ws) k false ≡ true) (sym p) refl
first-wins (false ∷ ws) j e =
    let k = onward-some (first_win ws) j e in
    subst (λ (n : ℕ). get_or (false ∷ ws) n false ≡ true) (sym k.2) (first-wins ws k.0 k.1)

first-none : (ws : List Bool) → first_win ws ≡ None → (i : ℕ) → get_or ws i false ≡ true → ⊥
first-none [] e zero h = clash (cc)
first-none [] e (suc i) h = clash (cc)
first-none (true ∷ ws) e i h = clash (cc)
first-none (false ∷ ws) e zero h = clash (cc)
first-none (false ∷ ws) e (suc i) h = first-none ws (onward-none (first_win ws) e) i h

pub best-wins : (o : Option ℕ) (ws : List Bool) (j : ℕ) → best o ws ≡ Some j → get_or ws j false ≡ true
best-wins None ws j e = first-wins ws j e
best-wins (Some i) ws j e = go (get_or ws i false) refl e
  where
    go : (v : Bool) → get_or ws i false ≡ v → cond v (Some i) (first_win ws) ≡ Some j → get_or ws j false ≡ true
    go true h k = let p : i ≡ j = cc in subst (λ (n : ℕ). get_or ws n false ≡ true) p h
    go false h k = first-wins ws j k

pub best_none : (o : Option ℕ) (ws : List Bool) → best o ws ≡ None → (i : ℕ) → get_or ws i false ≡ true → ⊥
best_none None ws e i h = first-none ws e i h
best_none (Some k) ws e i h = go (get_or ws k false) e
  where
    go : (v : Bool) → cond v (Some k) (first_win ws) ≡ None → ⊥
    go true z = clash (cc)
    go false z = first-none ws z i h
