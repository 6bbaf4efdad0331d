-- The board after a move, and the diagram after a move.
use Rattle.std.specs.Prelude.{ℕ, cond, Some, None, Option, slice_set}
use Rattle.chess_attacks.specs.declared.men.Man.{Man}
use Rattle.chess_attacks.specs.declared.men.Side.{Side}
use Rattle.chess_attacks.specs.Men.{Squares, on, given, other}
use Rattle.chess_attacks.specs.Lists.{beside, numbered}
use Rattle.chess_moves.specs.declared.diagram.Diagram.{Diagram}
use Rattle.chess_moves.specs.declared.step.Move.{Move}
use Rattle.chess_moves.specs.declared.step.Promotion.{Promotion}
use Rattle.chess_moves.specs.Pawns.{forward, becoming, en_passant, passes}

-- the man m has gone from f to t
abbrev pub moved : Squares → Man → ℕ → ℕ → Option Promotion → Squares
moved b m f t k = slice_set (slice_set b f None) t (Some (becoming m k))

-- the pawn that has just passed t, one step behind it, is off the board
abbrev pub less_passed : Squares → Side → ℕ → Squares
less_passed b a t = given (beside (forward (other a)) t) b (λ s. slice_set b s None)

-- The board after m went from f to t; e is the square that a pawn has just passed, and a pawn that takes it en passant removes that pawn.
unfoldable pub after : Squares → Option ℕ → Man → ℕ → ℕ → Option Promotion → Squares
after b e m f t k = cond (en_passant e m f t) (less_passed (moved b m f t k) m.side t) (moved b m f t k)

-- the diagram after a move; from an empty square nothing moves
abbrev pub played : Diagram → Move → Diagram
played d v =
    given (on d.board v.from.number) d
    (λ m. record {
      board = after d.board (numbered d.passing) m v.from.number v.to.number v.promotion;
      mover = other d.mover;
      passing = passes m v.from.number v.to.number;
    })
