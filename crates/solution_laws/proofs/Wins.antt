-- The attacker's lines at a position: for winning moves only, and one for each of them.
use Rattle.std.proofs.Common.{◌≡◌, ℕ, zero, suc, ◌+◌, ◌<◌, Bool, true, false, cond, ◌&&◌, eqb, List, [], ◌∷◌, ◌++◌, length, get_or, None, sym, refl, ap, ◌∙◌, append_assoc, arith, eq-eqb, eqb-true}
use Rattle.game.specs.Tree.{Tree}
use Rattle.solution_laws.specs.Lines.{Line, attacks}
use Rattle.solution_laws.specs.Solution.{chosen_line, other_line, others_from, wins}
use Rattle.solution_laws.specs.Claims.{last_at}
use Rattle.solution_laws.proofs.Clash.{clash}
use Rattle.solution_laws.proofs.Reached.{Winning, AllWinning}

-- the lines with `+`
module _ (n j : ℕ) (t : Tree) where
  pub others_winning : (i : ℕ) (ws : List Bool) (xs : List (List ℕ)) → ((a : ℕ) → get_or ws a false ≡ true → Winning t (get_or xs a [])) → AllWinning n t (others_from (suc n) j i ws xs)
  others_winning i [] xs h = tt
  others_winning i (w ∷ ws) [] h = tt
  others_winning i (false ∷ ws) (x ∷ xs) h = others_winning (suc i) ws xs (λ a e. h (suc a) e)
  others_winning i (true ∷ ws) (x ∷ xs) h = go (eqb i j) (others_winning (suc i) ws xs (λ a e. h (suc a) e))
    where
      go : (v : Bool) → AllWinning n t (others_from (suc n) j (suc i) ws xs)
          → AllWinning n t (cond v (others_from (suc n) j (suc i) ws xs) (other_line (suc n) x ∷ others_from (suc n) j (suc i) ws xs))
      go true k = k
      go false k = (refl, h 0 refl, k)

  pub no_lead : (i : ℕ) (ws : List Bool) (xs : List (List ℕ)) → last_at (suc n) (others_from (suc n) j i ws xs) ≡ None
  no_lead i [] xs = refl
  no_lead i (w ∷ ws) [] = refl
  no_lead i (false ∷ ws) (x ∷ xs) = no_lead (suc i) ws xs
  no_lead i (true ∷ ws) (x ∷ xs) = go (eqb i j) (no_lead (suc i) ws xs)
    where
      and_false : (v : Bool) → (v && false) ≡ false
      and_false true = refl
      and_false false = refl

      go : (v : Bool) → last_at (suc n) (others_from (suc n) j (suc i) ws xs) ≡ None
          → last_at (suc n) (cond v (others_from (suc n) j (suc i) ws xs) (other_line (suc n) x ∷ others_from (suc n) j (suc i) ws xs)) ≡ None
      go true k = k
      go false k = simp (k, and_false (eqb (suc n) (suc n)))

-- a line for a text
abbrev pub Has : ℕ → List ℕ → List Line → Type 0
Has k x ls =
    (above : List Line) × (l : Line) × (below : List Line) × (ls ≡ above ++ (l ∷ below)) × (l.ply ≡ k) × (attacks l.sign ≡ true) × (l.text ≡ x)

has_later : (k : ℕ) (x : List ℕ) (y : Line) (ls : List Line) → Has k x ls → Has k x (y ∷ ls)
has_later k x y ls h = (y ∷ h.0, h.1, h.2, ap (λ (z : List Line). y ∷ z) h.3, h.4, h.5, h.6)

pub has_join : (k : ℕ) (x : List ℕ) (ls ms : List Line) → Has k x ls → Has k x (ls ++ ms)
has_join k x ls ms h =
    (h.0, h.1, h.2 ++ ms, ap (λ (z : List Line). z ++ ms) h.3 ∙ append_assoc h.0 (h.1 ∷ h.2) ms, h.4, h.5, h.6)

has_dual : (k j i : ℕ) (ws : List Bool) (xs : List (List ℕ)) (a : ℕ) → get_or ws a false ≡ true → a < length xs → (i + a ≡ j → ⊥) → Has k (get_or xs a []) (others_from k j i ws xs)
has_dual k j i [] xs zero e l d = clash (cc)
has_dual k j i [] xs (suc a) e l d = clash (cc)
has_dual k j i (w ∷ ws) [] a e l d = absurd (omega arith)
has_dual k j i (false ∷ ws) (x ∷ xs) zero e l d = clash (cc)
has_dual k j i (false ∷ ws) (x ∷ xs) (suc a) e l d = has_dual k j (suc i) ws xs a e (omega arith) (λ z. d (omega arith))
has_dual k j i (true ∷ ws) (x ∷ xs) zero e l d = go (eqb i j) refl
  where
    go : (v : Bool) → eqb i j ≡ v → Has k x (cond v (others_from k j (suc i) ws xs) (other_line k x ∷ others_from k j (suc i) ws xs))
    go true h = let z = eqb-true i j h in let f : ⊥ = d (omega arith) in elim f [ ]
    go false h = ([], other_line k x, others_from k j (suc i) ws xs, refl, refl, refl, refl)
has_dual k j i (true ∷ ws) (x ∷ xs) (suc a) e l d = go (eqb i j) (has_dual k j (suc i) ws xs a e (omega arith) (λ z. d (omega arith)))
  where
    go : (v : Bool) → Has k (get_or xs a []) (others_from k j (suc i) ws xs) → Has k (get_or xs a []) (cond v (others_from k j (suc i) ws xs) (other_line k x ∷ others_from k j (suc i) ws xs))
    go true h = h
    go false h = has_later k (get_or xs a []) (other_line k x) (others_from k j (suc i) ws xs) h

pub has_win : (k j : ℕ) (ws : List Bool) (xs : List (List ℕ)) (a : ℕ) → get_or ws a false ≡ true → a < length xs → Has k (get_or xs a []) (wins k j ws xs)
has_win k j ws xs a e l = go (eqb a j) refl
  where
    go : (v : Bool) → eqb a j ≡ v → Has k (get_or xs a []) (wins k j ws xs)
    go true h = let z = eqb-true a j h in ([], chosen_line k (get_or xs j []), others_from k j 0 ws xs, refl, refl, refl, ap (λ (n : ℕ). get_or xs n []) (sym z))
    go false h = has_later k (get_or xs a []) (chosen_line k (get_or xs j [])) (others_from k j 0 ws xs)
        (has_dual k j 0 ws xs a e l (λ z. let y : a ≡ j = omega arith in clash (let q = eq-eqb a j y in cc)))
