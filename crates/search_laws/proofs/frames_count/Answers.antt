use Rattle.search_laws.proofs.Counting.{given_reaches_lem, frames_count_lem, expansions_count_lem}
use Rattle.search_laws.proofs.Active.{frames_are_active_lem}
use Rattle.search_laws.proofs.frames_count.Goals as goal

pub returns : goal.returns
returns g c =
    record {
      active = frames_are_active_lem g.T.Table.storing;
      gives = given_reaches_lem g.T.Table.storing;
      frames = frames_count_lem g.T.Table.storing;
      expansions = expansions_count_lem g.T.Table.storing;
    }
