-- A legal move keeps the rules of a position.
use Rattle.chess_moves.specs.declared.diagram.Diagram.{Diagram}
use Rattle.chess_moves.specs.declared.step.Move.{Move}
use Rattle.chess_moves.specs.After.{played}
use Rattle.chess_moves.specs.Legal.{Legal}
use Rattle.chess_rules.specs.Lawful.{Lawful}

abbrev pub MovesKeep : Type 0
MovesKeep = (d : Diagram) → Lawful d → (v : Move) → Legal d v → Lawful (played d v)
