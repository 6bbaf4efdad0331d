use Rattle.search_laws.proofs.Laws.{ranging}
use Rattle.search_laws.proofs.Trials.{trials_are_right_lem}
use Rattle.solution_laws.proofs.Right.{solutions_are_right_lem}
use Rattle.solution_laws.proofs.theorems.solutions_are_right.Goals as goal

pub returns : goal.returns
returns g c =
    solutions_are_right_lem g.met.G.Game.lawful g.T.Table.storing
    (trials_are_right_lem g.G.Game.positions (ranging g.met.G.Game.lawful) g.T.Table.storing g.met.T.Table.keeping)
