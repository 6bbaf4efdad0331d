use Rattle.std.proofs.Common.{arith}
use Rattle.board.specs.Masks.{bit}
use Rattle.othello_rules.specs.Diagrams.{discs}
use Rattle.othello.specs.Fewer.{size_few}
use Rattle.othello.proofs.position.Position.reached.Goals as goal

pub overflow_add-result : goal.overflow_add-result
overflow_add-result c = omega (arith, c.disc_count-other.ensures, size_few (bit (discs c.opponent.result c.args.self.now.diagram)))
