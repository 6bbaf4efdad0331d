use Rattle.diagrams.proofs.Verdicts.{verdicts_are_mates_lem, verdicts_are_margins_lem}
use Rattle.diagrams.proofs.verdicts_tell.Goals as goal

pub returns : goal.returns
returns g c = record {
  chess = verdicts_are_mates_lem _ g.T.Table;
  othello = verdicts_are_margins_lem _ g.T.Table;
}
