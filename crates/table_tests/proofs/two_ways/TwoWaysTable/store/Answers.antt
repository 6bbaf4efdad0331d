use Rattle.std.proofs.Common.{rules, ◌≡◌, length, slice_set, ap, ◌∙◌}
use Rattle.table_tests.specs.Ways.{in_slots}
use Rattle.table_tests.proofs.Arrays.{after_storing}
use Rattle.table_tests.proofs.two_ways.TwoWaysTable.store.Goals as goal

pub returns : goal.returns
returns c =
    let full : length c.args.self.now.slots ≡ 512 = search rules in
    ap (λ s. in_slots (slice_set c.args.self.now.slots c.slot_of-i.result s)) c.with.ensures
    ∙ after_storing c.args.self.now.slots c.slot_of-i.result c.index-self-i.result c.args.code.now c.args.pair full c.slot_of-i.ensures.at
