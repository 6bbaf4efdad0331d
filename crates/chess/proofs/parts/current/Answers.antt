use Rattle.std.proofs.Common.{rules}
use Rattle.chess.proofs.Holding.{position_at, mates_at}
use Rattle.chess.proofs.parts.current.Goals as goal

pub returns-clause-position : goal.returns-clause-position
returns-clause-position c = search (rules, position_at)

pub returns-clause-mates : goal.returns-clause-mates
returns-clause-mates c = search (rules, mates_at)
