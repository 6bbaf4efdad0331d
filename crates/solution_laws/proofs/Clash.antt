-- Two constructors are never equal.
use Rattle.std.proofs.Common.{◌≡◌, ℕ, arith}

-- where equations say that they are: `clash (cc)`
pub clash : {A : Type 0} → ◌≡◌ {A = ℕ} 0 1 → A
clash e = absurd (omega arith)
