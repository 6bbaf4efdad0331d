-- The loan of a slot of the newest policy.
use Rattle.std.specs.Prelude.{ℕ, List, slice_set}
use Rattle.std.specs.Borrow.{Array, Fml, Lends, MutBor}
use Rattle.table.specs.declared.newest.Slot.{Slot}
use Rattle.table.specs.contracts.newest.Slot.{the_row as slot_row}

-- The place of number i is lent: what the borrower leaves there at the end stands in that place, and all other slots are as they were.
abbrev pub LendsPlace : MutBor (List Slot) → ℕ → MutBor Slot → Fml
LendsPlace slots i place = Lends (Array slot_row 0) slot_row slots place (slice_set slots.now i)
