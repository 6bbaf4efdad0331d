use Rattle.chess_moves.proofs.Leaving.{leaves, left_once, legal_safe}
use Rattle.chess_moves.proofs.laws.moves_leave.Goals as goal

pub returns : goal.returns
returns c = record { left = leaves; once = left_once; safe = legal_safe }
