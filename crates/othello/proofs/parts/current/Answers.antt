use Rattle.std.proofs.Common.{rules}
use Rattle.othello.proofs.Holding.{position_at, forces_at}
use Rattle.othello.proofs.parts.current.Goals as goal

pub returns-clause-position : goal.returns-clause-position
returns-clause-position c = search (rules, position_at)

pub returns-clause-forces : goal.returns-clause-forces
returns-clause-forces c = search (rules, forces_at)
