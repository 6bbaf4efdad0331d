-- The first position keeps the rules: computed.
use Rattle.std.specs.Prelude.{◌≡◌, true, refl}
use Rattle.board.specs.Masks.{member}
use Rattle.chess_attacks.specs.Lists.{line, lines, leaps, attackers, attacked, checked}
use Rattle.chess_moves.specs.Count.{tally}
use Rattle.chess_rules.specs.Lawful.{pawns_inner, rules_kept, lawful}
use Rattle.chess.specs.Positions.{two_kings}

pub first_lawful : lawful two_kings ≡ true
unfolding lawful rules_kept pawns_inner tally checked attacked attackers lines line leaps member
first_lawful = refl
