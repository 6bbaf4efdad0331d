use Rattle.search_laws.proofs.Courses.{runs_end, frames_end}
use Rattle.search_laws.proofs.Deciding.{trials_end_lem}
use Rattle.search_laws.proofs.trials_end.Goals as goal

pub returns : goal.returns
returns g c = record { runs = runs_end g.T.Table.storing; frames = frames_end g.T.Table.storing; trials = trials_end_lem g.T.Table.storing }
