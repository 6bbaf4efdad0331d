use Rattle.std.proofs.Common.{refl}
use Rattle.board.specs.Masks.{member}
use Rattle.chess_attacks.specs.Lists.{line, lines, leaps, attackers, attacked, checked}
use Rattle.chess_moves.specs.Count.{tally}
use Rattle.chess_rules.specs.Lawful.{pawns_inner, rules_kept, lawful}
use Rattle.chess.proofs.problem.Problem.fresh.Goals as goal

-- computed, whichever side is to move
pub invariant_of-result : goal.invariant_of-result
unfolding lawful rules_kept pawns_inner tally checked attacked attackers lines line leaps member
invariant_of-result c = record { fair = refl }
