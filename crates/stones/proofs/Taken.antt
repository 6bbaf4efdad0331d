-- What a pile is after a move.
use Rattle.std.proofs.Common.{◌≡◌, ℕ, zero, suc, ◌-◌, ◌<◌, Bool, not, length, get_or, refl, ap, arith}
use Rattle.game.specs.Tree.{next, nowhere}
use Rattle.stones.specs.Piles.{tree}

pub taken : (n i : ℕ) (b : Bool) → i < length (next (tree n b)) → tree (n - 1 - i) (not b) ≡ get_or (next (tree n b)) i nowhere
taken zero i b h = absurd (omega arith)
taken (suc zero) zero b h = refl
taken (suc zero) (suc i) b h = absurd (omega arith)
taken (suc (suc n)) zero b h =
    let e : suc (suc n) - 1 - 0 ≡ suc n = omega arith in
    ap (λ k. tree k (not b)) e
taken (suc (suc n)) (suc zero) b h =
    let e : suc (suc n) - 1 - 1 ≡ n = omega arith in
    ap (λ k. tree k (not b)) e
taken (suc (suc n)) (suc (suc i)) b h = absurd (omega arith)
