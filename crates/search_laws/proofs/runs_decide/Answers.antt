use Rattle.search_laws.proofs.Deciding.{runs_decide_lem}
use Rattle.search_laws.proofs.runs_decide.Goals as goal

pub returns : goal.returns
returns g c = runs_decide_lem g.T.Table.storing
