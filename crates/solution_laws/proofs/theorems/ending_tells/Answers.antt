use Rattle.solution_laws.proofs.Endings.{same_ending}
use Rattle.solution_laws.proofs.theorems.ending_tells.Goals as goal

pub returns : goal.returns
returns c = same_ending
