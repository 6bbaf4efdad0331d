-- The moves that a problem's position has.
use Rattle.std.specs.Prelude.{List}
use Rattle.chess_moves.specs.declared.step.Move.{Move}
use Rattle.chess.specs.declared.problem.Problem.{Problem}
use Rattle.chess.specs.Trees.{choices}

abbrev pub choices_of : Problem → List Move
choices_of p = choices p.plies p.position.diagram
