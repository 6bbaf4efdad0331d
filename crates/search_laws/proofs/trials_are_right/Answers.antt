use Rattle.search_laws.proofs.Laws.{ranging}
use Rattle.search_laws.proofs.Soundness.{runs_are_right}
use Rattle.search_laws.proofs.Trials.{trials_are_right_lem}
use Rattle.search_laws.proofs.trials_are_right.Goals as goal

pub returns : goal.returns
returns g c =
    let positions = ranging g.met.G.Game.lawful in
    record {
      runs = runs_are_right g.G.Game.positions positions g.T.Table.storing g.met.T.Table.keeping;
      trials = trials_are_right_lem g.G.Game.positions positions g.T.Table.storing g.met.T.Table.keeping;
    }
