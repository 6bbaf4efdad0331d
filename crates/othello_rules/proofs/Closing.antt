-- What is left to turn on a ray, part of which has been walked: `taken` is the mask of the run so far.
use Rattle.std.proofs.Common.{◌≡◌, ℕ, ◌+◌, ◌^◌, ◌<◌, ◌≤◌, true, false, cond, List, [], ◌∷◌, sym, refl, ap, ◌∙◌, arith}
use lib.Bits.{bit_and, bit_or, or_zero_r}
use Rattle.std.proofs.lemmas.Nat.{one_shl}
use Rattle.board.specs.Masks.{bit, mask}
use Rattle.board.specs.Squares.{reach, away, ray}
use Rattle.board.specs.declared.direction.Direction.{Direction}
use Rattle.board.specs.declared.direction.Direction.TheVariants.{East, West, North, South, NorthEast, NorthWest, SouthEast, SouthWest}
use Rattle.board.proofs.Bits.{or_assoc, bit-hit, bit_miss}
use Rattle.board.proofs.Walk.{ahead, ahead_start, ahead_more, ahead_end}
use Rattle.othello_rules.specs.Rules.{Squares, run, after, begins, turned}

unfoldable pub closing : Squares → Squares → ℕ → List ℕ → ℕ
closing own other taken l = cond (begins own (after other l)) (bit_or taken (mask (run other l))) 0

module _ (own other : Squares) where
  pub closing_start : (l : List ℕ) → mask (turned own other l) ≡ closing own other 0 l
  unfolding closing turned mask
  closing_start l = elim (begins own (after other l)) as (λ b. mask (cond b (run other l) []) ≡ cond b (bit_or 0 (mask (run other l))) 0)
      [ true ↦ refl | false ↦ refl ]

  pub closing_none : (t : ℕ) → closing own other t [] ≡ 0
  unfolding closing after begins
  closing_none t = refl

  pub closing_more : (t q : ℕ) (l : List ℕ) → other q ≡ true → closing own other t (q ∷ l) ≡ closing own other (bit_or t (2 ^ q)) l
  unfolding closing after run mask
  closing_more t q l e = simp e (ap (λ (x : ℕ). cond (begins own (after other l)) x 0) (sym (or_assoc t (2 ^ q) (mask (run other l)))))

  pub closing_own : (t q : ℕ) (l : List ℕ) → other q ≡ false → own q ≡ true → closing own other t (q ∷ l) ≡ t
  unfolding closing after begins run mask
  closing_own t q l e f = simp (e, f) (or_zero_r t)

  pub closing_empty : (t q : ℕ) (l : List ℕ) → other q ≡ false → own q ≡ false → closing own other t (q ∷ l) ≡ 0
  unfolding closing after begins run mask
  closing_empty t q l e f = simp (e, f)

-- the walk has gone k steps, and has taken their squares
abbrev pub Walked : ℕ → ℕ → Direction → ℕ → ℕ → ℕ → Type 0
Walked own other d s taken k = mask (turned (bit own) (bit other) (ray d s)) ≡ closing (bit own) (bit other) taken (ahead d s k)

-- a walk from the square whose cell is `start`, with `steps` to the edge, stands on `cell`
abbrev pub Walking : ℕ → ℕ → Direction → ℕ → ℕ → ℕ → ℕ → ℕ → Type 0
Walking own other d start steps cell taken k =
    (s : ℕ) → s < 64 → start ≡ 2 ^ s → steps ≡ reach d s → Walked own other d s taken k × (cell ≡ 2 ^ away d s k)

away-none : (d : Direction) (s : ℕ) → s < 64 → s ≡ away d s 0
away-none East s h = omega arith
away-none West s h = omega arith
away-none North s h = omega arith
away-none South s h = omega arith
away-none NorthEast s h = omega arith
away-none NorthWest s h = omega arith
away-none SouthEast s h = omega arith
away-none SouthWest s h = omega arith

pub away-below : (d : Direction) (s k : ℕ) → s < 64 → k < reach d s → away d s (k + 1) < 64
away-below East s k h r = omega arith
away-below West s k h r = omega arith
away-below North s k h r = omega arith
away-below South s k h r = omega arith
away-below NorthEast s k h r = omega arith
away-below NorthWest s k h r = omega arith
away-below SouthEast s k h r = omega arith
away-below SouthWest s k h r = omega arith

-- what a test of a cell tells
hit : (w cell q : ℕ) → q < 64 → cell ≡ 2 ^ q → (bit_and w cell ≡ 0 → ⊥) → bit w q ≡ true
hit w cell q h e n = bit-hit w q h (λ z. n (ap (bit_and w) (e ∙ sym (one_shl q 64 h)) ∙ z))

miss : (w cell q : ℕ) → q < 64 → cell ≡ 2 ^ q → bit_and w cell ≡ 0 → bit w q ≡ false
miss w cell q h e z = bit_miss w q h (ap (bit_and w) (one_shl q 64 h ∙ sym e) ∙ z)

module _ (own other : ℕ) (d : Direction) where
  pub walking_start : (start steps : ℕ) → Walking own other d start steps start 0 0
  walking_start start steps s h e f = (
    closing_start (bit own) (bit other) (ray d s) ∙ ap (closing (bit own) (bit other) 0) (sym (ahead_start d s)),
    e ∙ ap (λ (q : ℕ). 2 ^ q) (away-none d s h),
  )

  -- one step further, to the cell `next`
  module _ (start steps cell taken k next : ℕ) (w : Walking own other d start steps cell taken k) (l : k < steps)
      (on : (s k : ℕ) → s < 64 → k < reach d s → cell ≡ 2 ^ away d s k → next ≡ 2 ^ away d s (k + 1)) where
    module _ (s : ℕ) (h : s < 64) (e : start ≡ 2 ^ s) (f : steps ≡ reach d s) where
      near : k < reach d s
      near = omega arith

      stands : next ≡ 2 ^ away d s (k + 1)
      stands = on s k h near (w s h e f).1

      further : mask (turned (bit own) (bit other) (ray d s)) ≡ closing (bit own) (bit other) taken (away d s (k + 1) ∷ ahead d s (k + 1))
      further = (w s h e f).0 ∙ ap (closing (bit own) (bit other) taken) (ahead_more d s k (away d s (k + 1)) near refl)

      here-hit : (v : ℕ) → (bit_and v next ≡ 0 → ⊥) → bit v (away d s (k + 1)) ≡ true
      here-hit v n = hit v next (away d s (k + 1)) (away-below d s k h near) stands n

      here-miss : (v : ℕ) → bit_and v next ≡ 0 → bit v (away d s (k + 1)) ≡ false
      here-miss v z = miss v next (away d s (k + 1)) (away-below d s k h near) stands z

      pub walked-own : bit_and other next ≡ 0 → (bit_and own next ≡ 0 → ⊥) → taken ≡ mask (turned (bit own) (bit other) (ray d s))
      walked-own z n = sym (further ∙ closing_own (bit own) (bit other) taken (away d s (k + 1)) _ (here-miss other z) (here-hit own n))

      pub walked_empty : bit_and other next ≡ 0 → bit_and own next ≡ 0 → 0 ≡ mask (turned (bit own) (bit other) (ray d s))
      walked_empty z y = sym (further ∙ closing_empty (bit own) (bit other) taken (away d s (k + 1)) _ (here-miss other z) (here-miss own y))

    pub walking_more : (bit_and other next ≡ 0 → ⊥) → Walking own other d start steps next (bit_or taken next) (k + 1)
    walking_more n s h e f = (
      further s h e f
          ∙ closing_more (bit own) (bit other) taken (away d s (k + 1)) _ (here-hit s h e f other n)
          ∙ ap (λ (x : ℕ). closing (bit own) (bit other) (bit_or taken x) (ahead d s (k + 1))) (sym (stands s h e f)),
      stands s h e f,
    )

  pub walked_end : (start steps cell taken k s : ℕ) → Walking own other d start steps cell taken k → steps ≤ k
      → s < 64 → start ≡ 2 ^ s → steps ≡ reach d s → 0 ≡ mask (turned (bit own) (bit other) (ray d s))
  walked_end start steps cell taken k s w l h e f =
      sym ((w s h e f).0 ∙ ap (closing (bit own) (bit other) taken) (ahead_end d s k (omega arith)) ∙ closing_none (bit own) (bit other) taken)
