use Rattle.std.proofs.Common.{rules}
use Rattle.chess_moves.proofs.Numbers.{squared-is}
use Rattle.chess_moves.proofs.pawns.passes.Goals as goal

pub returns-then-is_double : goal.returns-then-is_double
returns-then-is_double c =
    let e = squared-is c.beside.result _ c.beside.ensures in
    search rules
