-- A position as a program holds it, and the one after a move of a number.
use Rattle.std.specs.Prelude.{◌≡◌, ℕ, Some, None, Option}
use Rattle.std.specs.List.{slice_get}
use Rattle.chess_attacks.specs.Men.{given}
use Rattle.chess_moves.specs.declared.diagram.Diagram.{Diagram}
use Rattle.chess_moves.specs.declared.step.Move.{Move}
use Rattle.chess_moves.specs.After.{played}
use Rattle.chess_moves.specs.Moves.{legal_moves}
use Rattle.chess_moves.specs.Legal.{Legal}
use Rattle.chess_moves.specs.Leaves.{Leaves}
use Rattle.chess_rules.specs.declared.position.Position.{Position}

abbrev pub diagram_of : Option Position → Option Diagram
diagram_of None = None
diagram_of (Some p) = Some p.diagram

-- the diagram after the legal move of a number, counted from 0 in their order; none from their count on
abbrev pub next_of : Diagram → ℕ → Option Diagram
next_of d i = given (slice_get (legal_moves d) i) None (λ v. Some (played d v))

-- the move of the number i is legal, and e is what it leaves
pub record LegalMoveLeaves (d : Diagram) (i : ℕ) (e : Diagram) : Type 0 where
  pub step : Move
  pub of_number : slice_get (legal_moves d) i ≡ Some step
  pub legal : Legal d step
  pub left : Leaves d step e
