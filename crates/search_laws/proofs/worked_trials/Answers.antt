use Rattle.search_laws.proofs.Worked.{laws_kept, chain_trials, newest_trials, five_trials, wide_trials}
use Rattle.search_laws.proofs.worked_trials.Goals as goal

pub returns : goal.returns
returns c = record { lawful = laws_kept; chain = chain_trials; newest = newest_trials; five = five_trials; wide = wide_trials }
