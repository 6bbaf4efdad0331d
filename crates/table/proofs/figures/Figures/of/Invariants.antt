use Rattle.std.proofs.Common.{take}
use Rattle.table.specs.Frames.{Tallied}
use Rattle.table.proofs.figures.Figures.of.Given as goal

abbrev pub invariant-loop-i : goal.invariant-loop-i
invariant-loop-i l = Tallied l.side (take l.i l.pairs) l.tally
