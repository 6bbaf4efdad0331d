use Rattle.chess_rules.proofs.Tested.{lawful_means}
use Rattle.perft.proofs.count.Goals as goal

pub leaves-requires : goal.leaves-requires
leaves-requires c = (lawful_means c.args.position.now.diagram).0 c.args.position.now.fair
