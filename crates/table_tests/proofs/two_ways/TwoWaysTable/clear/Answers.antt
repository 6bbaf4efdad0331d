use Rattle.std.proofs.Common.{rules, ◌≡◌, ◌≤◌, length, arith}
use Rattle.table_tests.proofs.Arrays.{after_clearing}
use Rattle.table_tests.proofs.two_ways.TwoWaysTable.clear.Goals as goal

pub returns : goal.returns
returns c =
    let slots : length c.args.self.now.slots ≡ 512 = search rules in
    let full : 512 ≤ c.loop-slot.slot-index = search rules in
    after_clearing c.loop-slot.slot-index c.args.self.now.slots c.loop-slot.slot-items (omega arith) c.loop-slot.invariant
