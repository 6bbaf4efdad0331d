-- A walk along a ray: what is ahead after k steps.
use Rattle.std.proofs.Common.{◌≡◌, ℕ, suc, ◌+◌, ◌-◌, ◌<◌, ◌≤◌, List, [], ◌∷◌, map, refl, arith}
use Rattle.std.specs.List.{range_with_len}
use Rattle.board.specs.Squares.{reach, away, ray}
use Rattle.board.specs.declared.direction.Direction.{Direction}

unfoldable pub ahead : Direction → ℕ → ℕ → List ℕ
ahead d s k = map (away d s) (range_with_len (k + 1) (reach d s - k))

module _ (d : Direction) (s : ℕ) where
  pub ahead_start : ahead d s 0 ≡ ray d s
  unfolding ahead
  ahead_start = let e : reach d s - 0 ≡ reach d s = omega arith in rw e refl

  pub ahead_more : (k q : ℕ) → k < reach d s → q ≡ away d s (k + 1) → ahead d s k ≡ q ∷ ahead d s (k + 1)
  unfolding ahead
  ahead_more k q h is = let e : reach d s - k ≡ suc (reach d s - (k + 1)) = omega arith in rw (e, is) refl

  pub ahead_end : (k : ℕ) → reach d s ≤ k → ahead d s k ≡ []
  unfolding ahead
  ahead_end k h = let e : reach d s - k ≡ 0 = omega arith in rw e refl
