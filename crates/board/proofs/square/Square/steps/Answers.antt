use Rattle.std.proofs.Common.{rules}
use Rattle.board.proofs.EdgeRule.{edge}
use Rattle.board.proofs.square.Square.steps.Goals as goal

pub returns : goal.returns
returns c = search (edge, rules)
