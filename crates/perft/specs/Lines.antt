-- Lines of legal moves from a diagram.
use Rattle.std.specs.Prelude.{ℕ, zero, suc, sum_by}
use Rattle.chess_moves.specs.declared.diagram.Diagram.{Diagram}
use Rattle.chess_moves.specs.After.{played}
use Rattle.chess_moves.specs.Moves.{legal_moves}

-- how many lines of n legal moves there are
unfoldable pub lines : ℕ → Diagram → ℕ
lines zero d = 1
lines (suc n) d = sum_by (λ v. lines n (played d v)) (legal_moves d)
