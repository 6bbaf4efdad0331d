use Rattle.othello_rules.proofs.Ruled.{placing}
use Rattle.othello_rules.proofs.flips.placing_holds.Goals as goal

pub returns : goal.returns
returns c = placing
