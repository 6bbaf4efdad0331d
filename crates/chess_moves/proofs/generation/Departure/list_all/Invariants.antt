use Rattle.board.specs.Masks.{bit}
use Rattle.chess_moves.specs.Moves.{Adds, moves_to, passing_of}
use Rattle.chess_moves.proofs.generation.Departure.list_all.Given as goal

abbrev pub invariant-loop-to : goal.invariant-loop-to
invariant-loop-to g l =
    let d = l.self.diagram.now in
    Adds g.row.N l.initial.list.items (moves_to d.board (passing_of d) l.self.man (bit l.reach) (bit l.steps) l.self.from.number l.to-iterator.next) l.list.items
