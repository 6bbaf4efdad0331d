use Rattle.search_laws.proofs.Courses.{trials_agree_lem}
use Rattle.search_laws.proofs.Deciding.{trials_end_lem}
use Rattle.solution_laws.proofs.Agree.{solutions_agree_lem}
use Rattle.solution_laws.proofs.Ends.{solutions_end}
use Rattle.solution_laws.proofs.theorems.solutions_agree.Goals as goal

pub returns : goal.returns
returns g c = record {
  one = solutions_agree_lem g.T.Table.storing (trials_agree_lem g.T.Table.storing);
  some = solutions_end g.T.Table.storing (trials_end_lem g.T.Table.storing);
}
