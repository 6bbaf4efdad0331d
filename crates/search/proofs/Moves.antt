-- Ranks and the moves that there are.
use Rattle.std.proofs.Common.{ℕ, ◌<◌, length, get_or, arith}
use Rattle.std.specs.List.{AllByRecursion}
use Rattle.std.proofs.ByRecursion.{All-get_or}
use Rattle.game.specs.Tree.{Tree, nowhere, rank, next}

-- after a move the rank is lower, so where there is a move it is above 0
pub falls_at : (t : Tree) → AllByRecursion (λ u. rank u < rank t) (next t) → (i : ℕ) → i < length (next t) → rank (get_or (next t) i nowhere) < rank t
falls_at t h i l = All-get_or (λ u. rank u < rank t) (next t) i nowhere l h

pub ranked_at : (t : Tree) → AllByRecursion (λ u. rank u < rank t) (next t) → 0 < length (next t) → 0 < rank t
ranked_at t h l = omega (arith, falls_at t h 0 l)
