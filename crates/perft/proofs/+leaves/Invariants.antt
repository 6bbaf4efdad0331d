use Rattle.std.proofs.Common.{◌≡◌, sum_by, take}
use Rattle.chess_moves.specs.Moves.{legal_moves}
use Rattle.perft.proofs.Counting.{counted}
use Rattle.perft.proofs.+leaves.Given as goal

abbrev pub decreases-leaves : goal.decreases-leaves
decreases-leaves l = l.depth

abbrev pub invariant-loop-step : goal.invariant-loop-step
invariant-loop-step l = record {
  items : l.step-items ≡ legal_moves l.diagram;
  sum : l.sum ≡ sum_by (counted l.depth l.diagram) (take l.step-index l.step-items);
}
