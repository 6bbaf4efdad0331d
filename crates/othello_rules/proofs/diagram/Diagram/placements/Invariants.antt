use Rattle.othello_rules.specs.Diagrams.{placeable}
use Rattle.othello_rules.proofs.Filtered.{Kept}
use Rattle.othello_rules.proofs.diagram.Diagram.placements.Given as goal

abbrev pub invariant-loop-square : goal.invariant-loop-square
invariant-loop-square l = Kept (placeable l.self) l.square-iterator.next l.squares.items
