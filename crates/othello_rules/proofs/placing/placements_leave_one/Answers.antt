use Rattle.othello_rules.proofs.Legality.{leaves_one}
use Rattle.othello_rules.proofs.placing.placements_leave_one.Goals as goal

pub returns : goal.returns
returns c = leaves_one
