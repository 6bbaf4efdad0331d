use Rattle.std.proofs.Common.{◌∙◌, arith}
use Rattle.std.proofs.lemmas.List.{take_all}
use Rattle.chess_moves.specs.Moves.{legal_moves}
use Rattle.chess_moves.proofs.Bound.{few-moves}
use Rattle.chess_moves.proofs.Whole.{lists}
use Rattle.chess_moves.proofs.generation.moves.Goals as goal

pub returns-clause-all : goal.returns-clause-all
returns-clause-all c = λ h k. c.new.ensures ∙ c.first_moves.ensures ∙ take_all 415 (legal_moves c.args.diagram.now) (omega (arith, few-moves c.args.diagram.now h k))

pub returns-clause-legal : goal.returns-clause-legal
returns-clause-legal c = lists c.args.diagram.now
