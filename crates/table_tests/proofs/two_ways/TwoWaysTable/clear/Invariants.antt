use Rattle.table_tests.proofs.Arrays.{ClearedBelow}
use Rattle.table_tests.proofs.two_ways.TwoWaysTable.clear.Given as goal

abbrev pub invariant-loop-slot : goal.invariant-loop-slot
invariant-loop-slot l = ClearedBelow l.slot-index l.fn.self.slots l.slot-items
