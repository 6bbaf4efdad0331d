use Rattle.search_laws.proofs.Laws.{ranging}
use Rattle.search_laws.proofs.Courses.{runs_last, verdicts_last_lem}
use Rattle.search_laws.proofs.verdicts_last.Goals as goal

pub returns : goal.returns
returns g c =
    record {
      runs = runs_last g.T.Table.storing;
      trials = verdicts_last_lem g.G.Game.positions (ranging g.met.G.Game.lawful) g.T.Table.storing g.met.T.Table.keeping;
    }
