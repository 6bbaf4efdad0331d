use Rattle.std.proofs.Common.{refl, arith}
use Rattle.othello.specs.Lawful.{full_keeps}
use Rattle.othello.proofs.Said.{fresh_stands}
use Rattle.othello.proofs.playing.PositionPosition.fresh.Goals as goal

pub invariant_of-result : goal.invariant_of-result
invariant_of-result c = record { apart = full_keeps.apart; board = full_keeps.board; within = omega arith; few = full_keeps.few }

pub returns-clause-meaning : goal.returns-clause-meaning
returns-clause-meaning c = record { aimed = refl; stands = fresh_stands; attacks = refl }
