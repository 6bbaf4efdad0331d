use Rattle.std.proofs.Common.{rules}
use Rattle.chess.specs.Grown.{keeps_of}
use Rattle.chess.proofs.problem.Problem.diagram.Goals as goal

pub returns-clause-lawful : goal.returns-clause-lawful
returns-clause-lawful c = search (rules, keeps_of)
