use Rattle.search_laws.proofs.Reaching.{thresholds_tell_lem, takes_another_lem}
use Rattle.search_laws.proofs.thresholds_tell.Goals as goal

pub returns : goal.returns
returns g c = record { tells = thresholds_tell_lem; another = takes_another_lem g.T.Table.storing }
