use Rattle.solution_laws.proofs.Fitting.{solutions_fit}
use Rattle.solution_laws.proofs.Reading.{lines_are_read_lem, only_lines_are_read}
use Rattle.solution_laws.proofs.theorems.lines_are_read.Goals as goal

pub returns : goal.returns
returns g c = record { fit = solutions_fit g.met.G.Game.lawful g.T.Table.storing; read = lines_are_read_lem; only = only_lines_are_read }
