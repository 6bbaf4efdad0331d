use Rattle.chess_moves.specs.Moves.{Adds, moves_from, passing_of}
use Rattle.chess_moves.proofs.generation.first_moves.Given as goal

abbrev pub invariant-loop-from : goal.invariant-loop-from
invariant-loop-from g l =
    let d = l.diagram in
    Adds g.row.N l.initial.list.items (moves_from d.board d.mover (passing_of d) l.from-iterator.next) l.list.items
