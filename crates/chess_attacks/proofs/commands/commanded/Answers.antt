use Rattle.std.proofs.Common.{rules}
use Rattle.chess_attacks.proofs.Meaning.{word_means}
use Rattle.chess_attacks.proofs.commands.commanded.Goals as goal

pub returns-then-eq-clause-meaning : goal.returns-then-eq-clause-meaning
returns-then-eq-clause-meaning c = λ t. word_means c.args.board.now c.args.man c.args.from.number c.args.from.ok t c.leaps.result (search rules)

pub returns-else-eq-clause-meaning : goal.returns-else-eq-clause-meaning
returns-else-eq-clause-meaning c = λ t. word_means c.args.board.now c.args.man c.args.from.number c.args.from.ok t c.lines.result (search rules)
