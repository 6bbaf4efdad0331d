use Rattle.std.proofs.Common.{◌≡◌, ℕ, ◌<◌, get_or, None}
use Rattle.table.specs.Slots.{empty}
use Rattle.table.proofs.newest.NewestTable.clear.Given as goal

abbrev pub invariant-loop-slot : goal.invariant-loop-slot
invariant-loop-slot l = (k : ℕ) → k < l.slot-index → (get_or l.slot-items k empty).pair ≡ None
