use Rattle.othello_rules.proofs.Ruled.{turning}
use Rattle.othello_rules.proofs.flips.turning_holds.Goals as goal

pub returns : goal.returns
returns c = turning
