use Rattle.std.proofs.Common.{take}
use Rattle.chess_moves.specs.Moves.{Adds, passing_of}
use Rattle.chess_moves.proofs.Parts.{promoted}
use Rattle.chess_moves.proofs.generation.Departure.list_tries.Given as goal

abbrev pub invariant-loop-promotion : goal.invariant-loop-promotion
invariant-loop-promotion g l =
    let d = l.self.diagram.now in
    Adds g.row.N l.initial.list.items (promoted d.board (passing_of d) l.self.man l.self.from.number l.to.number (take l.promotion-index l.promotion-items)) l.list.items
