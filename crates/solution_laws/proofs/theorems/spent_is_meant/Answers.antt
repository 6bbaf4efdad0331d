use Rattle.search_laws.proofs.Trials as trials
use Rattle.solution_laws.proofs.Spent.{spent-is-meant}
use Rattle.solution_laws.proofs.theorems.spent_is_meant.Goals as goal

pub returns : goal.returns
returns g c = spent-is-meant g.T.Table.storing (trials.spent-is-meant g.T.Table.storing)
