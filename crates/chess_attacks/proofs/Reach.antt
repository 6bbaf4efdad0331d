-- Ways along a line, and that they can be walked back.
use Rattle.std.proofs.Common.{◌≡◌, ℕ, zero, suc, ◌+◌, ◌<◌, ◌≤◌, Bool, true, false, ◌&&◌, eqb, ltb, List, [], ◌∷◌, Some, None, Option, refl, ap, ◌∙◌, ⊎_elim, arith}
use Rattle.std.proofs.lemmas.Bool.{and_parts, and_from, ltb-true, lt-ltb, eqb-true, eq-eqb, or_cases, or_left, or_right, false≢true}
use Rattle.chess_attacks.specs.declared.men.Man.{Man}
use Rattle.chess_attacks.specs.declared.men.Side.{Side}
use Rattle.board.specs.declared.direction.Direction.{Direction}
use Rattle.board.specs.Masks.{member}
use Rattle.chess_attacks.specs.Men.{Squares, on, given, same_side}
use Rattle.chess_attacks.specs.Ranges.{range_of}
use Rattle.board.specs.Squares.{opposite}
use Rattle.chess_attacks.specs.Lists.{beside, line}
use Rattle.chess_attacks.specs.Look.{struck}
use Rattle.chess_attacks.proofs.Back.{back}

-- from s to t in k steps, with empty squares between
pub data Way (b : Squares) (d : Direction) : ℕ → ℕ → ℕ → Type 0 where
  one : {s t : ℕ} → beside d s ≡ Some t → Way b d s t 1
  more : {s u t k : ℕ} → beside d s ≡ Some u → on b u ≡ None → Way b d u t k → Way b d s t (suc k)

module _ (b : Squares) (d : Direction) where
  abbrev rest : ℕ → ℕ → List ℕ
  rest n u = given (on b u) (line b d u n) (λ _. [])

  abbrev from : ℕ → Option ℕ → List ℕ
  from n o = given o [] (λ u. u ∷ rest n u)

  abbrev Within : ℕ → ℕ → ℕ → Type 0
  Within s t n = (k : ℕ) × (k ≤ n) × Way b d s t k

  past_man : (n s t u : ℕ) → beside d s ≡ Some u → ((u : ℕ) → member t (line b d u n) ≡ true → Within u t n)
      → (o : Option Man) → on b u ≡ o → member t (given o (line b d u n) (λ _. [])) ≡ true → Within s t (suc n)
  unfolding member
  past_man n s t u e ih None f h = let r = ih u h in (suc r.0, omega arith, more e f r.2)
  past_man n s t u e ih (Some m) f h = absurd (false≢true h)

  past_step : (n s t : ℕ) → ((u : ℕ) → member t (line b d u n) ≡ true → Within u t n)
      → (o : Option ℕ) → beside d s ≡ o → member t (from n o) ≡ true → Within s t (suc n)
  unfolding member
  past_step n s t ih None e h = absurd (false≢true h)
  past_step n s t ih (Some u) e h =
      ⊎_elim
      (λ x. (1, omega arith, one (e ∙ ap Some (eqb-true u t x))))
      (λ y. past_man n s t u e ih (on b u) refl y)
      (or_cases (eqb u t) (member t (rest n u)) h)

  pub line_way : (n s t : ℕ) → member t (line b d s n) ≡ true → Within s t n
  unfolding line member
  line_way zero s t h = absurd (false≢true h)
  line_way (suc n) s t h = past_step n s t (λ u. line_way n u t) (beside d s) refl h

  pub way_line : (n : ℕ) {s t k : ℕ} → Way b d s t k → k ≤ n → member t (line b d s n) ≡ true
  unfolding line member
  way_line zero (one e) h = absurd (let z : ⊥ = omega arith in z)
  way_line zero (more e f w) h = absurd (let z : ⊥ = omega arith in z)
  way_line (suc n) (one {s} {t} e) h =
      ap (λ (o : Option ℕ). member t (from n o)) e ∙ or_left (eqb t t) (member t (rest n t)) (eq-eqb t t refl)
  way_line (suc n) (more {s} {u} {t} e f w) h =
      ap (λ (o : Option ℕ). member t (from n o)) e
      ∙ or_right (eqb u t) (member t (rest n u)) (ap (λ (o : Option Man). member t (given o (line b d u n) (λ _. []))) f ∙ way_line n w (omega arith))

  pub way_push : {s u t k : ℕ} → Way b d s u k → on b u ≡ None → beside d u ≡ Some t → Way b d s t (suc k)
  way_push (one e) f g = more e f (one g)
  way_push (more e x w) f g = more e x (way_push w f g)

  pub way_within : {s t k : ℕ} → s < 64 → Way b d s t k → t < 64
  way_within h (one {s} {t} e) = (back d s t h e).0
  way_within h (more {s} {u} e f w) = way_within (back d s u h e).0 w

pub way_back : {b : Squares} {d : Direction} {s t k : ℕ} → s < 64 → Way b d s t k → Way b (opposite d) t s k
way_back {b} {d} h (one {s} {t} e) = one (back d s t h e).1
way_back {b} {d} h (more {s} {u} e f w) =
    way_push b (opposite d) (way_back (back d s u h e).0 w) f (back d s u h e).1

pub way-some : {b : Squares} {d : Direction} {s t k : ℕ} → Way b d s t k → 0 < k
way-some (one e) = omega arith
way-some (more e f w) = omega arith

-- what a look sees
module _ (b : Squares) (d : Direction) (by : Side) where
  abbrev test : ℕ → Man → Bool
  test j m = same_side m.side by && ltb j (range_of m (opposite d))

  abbrev seen : ℕ → ℕ → ℕ → Option Man → Bool
  seen j n u o = given o (struck b d by u (j + 1) n) (test j)

  abbrev look : ℕ → ℕ → Option ℕ → Bool
  look j n o = given o false (λ u. seen j n u (on b u))

  pub record Sight (s j : ℕ) : Type 0 where
    pub at : ℕ
    pub man : Man
    pub far : ℕ
    pub there : on b at ≡ Some man
    pub ours : same_side man.side by ≡ true
    pub enough : j + far ≤ range_of man (opposite d)
    pub way : Way b d s at far

  see_man : (n s j u : ℕ) → beside d s ≡ Some u → ((u j : ℕ) → struck b d by u j n ≡ true → Sight u j)
      → (o : Option Man) → on b u ≡ o → seen j n u o ≡ true → Sight s j
  see_man n s j u e ih None f h =
      let r : Sight u (j + 1) = ih u (j + 1) h in
      record { at = r.at; man = r.man; far = suc r.far; there = r.there; ours = r.ours; enough = omega (arith, r.enough); way = more e f r.way }
  see_man n s j u e ih (Some m) f h =
      let p = and_parts (same_side m.side by) (ltb j (range_of m (opposite d))) h in
      record { at = u; man = m; far = 1; there = f; ours = p.0; enough = omega (arith, ltb-true j (range_of m (opposite d)) p.1); way = one e }

  see_step : (n s j : ℕ) → ((u j : ℕ) → struck b d by u j n ≡ true → Sight u j)
      → (o : Option ℕ) → beside d s ≡ o → look j n o ≡ true → Sight s j
  see_step n s j ih None e h = absurd (false≢true h)
  see_step n s j ih (Some u) e h = see_man n s j u e ih (on b u) refl h

  pub struck_sight : (n s j : ℕ) → struck b d by s j n ≡ true → Sight s j
  unfolding struck
  struck_sight zero s j h = absurd (false≢true h)
  struck_sight (suc n) s j h = see_step n s j (λ u i. struck_sight n u i) (beside d s) refl h

  pub sight_struck : (n j : ℕ) {s t k : ℕ} → Way b d s t k → (m : Man) → on b t ≡ Some m → same_side m.side by ≡ true → j + k ≤ range_of m (opposite d) → k ≤ n → struck b d by s j n ≡ true
  unfolding struck
  sight_struck zero j (one e) m f o l h = absurd (let z : ⊥ = omega arith in z)
  sight_struck zero j (more e x w) m f o l h = absurd (let z : ⊥ = omega arith in z)
  sight_struck (suc n) j (one {s} {t} e) m f o l h =
      ap (look j n) e ∙ (ap (seen j n t) f ∙ and_from (same_side m.side by) (ltb j (range_of m (opposite d))) o (lt-ltb j (range_of m (opposite d)) (omega arith)))
  sight_struck (suc n) j (more {s} {u} e x w) m f o l h =
      ap (look j n) e ∙ (ap (seen j n u) x ∙ sight_struck n (j + 1) w m f o (omega arith) (omega arith))
