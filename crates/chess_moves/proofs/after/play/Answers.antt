use Rattle.std.proofs.Common.{rules}
use Rattle.chess_moves.proofs.Leaving.{leaves_as}
use Rattle.chess_moves.proofs.after.play.Goals as goal

pub returns-clause-leaves : goal.returns-clause-leaves
returns-clause-leaves c = leaves_as c.args.diagram.now (search rules) c.args.step _ (search rules)
