use Rattle.search_laws.proofs.Courses.{one_pair, runs_agree, frames_agree, trials_agree_lem}
use Rattle.search_laws.proofs.trials_agree.Goals as goal

pub returns : goal.returns
returns g c = record { pairs = one_pair; runs = runs_agree g.T.Table.storing; frames = frames_agree g.T.Table.storing; trials = trials_agree_lem g.T.Table.storing }
