-- The policy of two ways a slot: what slots show of a code, and where a store and a clear leave them.
use Rattle.std.specs.Prelude.{ℕ, cond, List, Some, None, Option, is_some, ◌==◌, slice_index_or}
use Rattle.std.specs.Option.{option_or}
use Rattle.std.specs.Str.{bytes_eq}
use Rattle.table.specs.declared.pair.Pair.{Pair}
use Rattle.table.specs.Pairs.{Code, Shown}
use Rattle.table.specs.Slots.{slot_of}
use Rattle.table_tests.specs.declared.two_ways.Entry.{Entry}
use Rattle.table_tests.specs.declared.two_ways.Slot.{Slot}
use Rattle.table_tests.specs.declared.two_ways.Way.{Way}
use Rattle.table_tests.specs.declared.two_ways.Way.TheVariants.{First, Second}

abbrev pub other : Way → Way
other First = Second
other Second = First

-- what stands in a way
abbrev pub in_way : Slot → Way → Option Entry
in_way s First = s.first
in_way s Second = s.second

-- the pair that stands there for a code
abbrev pub pair_in : Option Entry → Shown
pair_in None c = None
pair_in (Some e) c = cond (bytes_eq e.code c) (Some e.pair) None

-- the two ways, by when they were stored in
abbrev pub newer : Slot → Option Entry
newer s = in_way s s.last

abbrev pub older : Slot → Option Entry
older s = in_way s (other s.last)

-- what a slot shows of a code: the pair of the newer way, else that of the older
abbrev pub shown_by : Slot → Shown
shown_by s c = option_or (pair_in (newer s) c) (pair_in (older s) c)

-- a slot with an entry in a way, which is then the one stored in last
abbrev pub put : Slot → Way → Entry → Slot
put s First e = record { first = Some e; second = s.second; last = First }
put s Second e = record { first = s.first; second = Some e; last = Second }

-- the way that a store of a code overwrites: the newer if it has the code, else the older
abbrev pub overwritten : Slot → Code → Way
overwritten s c = cond (is_some (pair_in (newer s) c)) s.last (other s.last)

-- where a store and a clear leave a slot
abbrev pub after_store : Slot → Code → Pair → Slot
after_store s c p = put s (overwritten s c) (record { code = c; pair = p })

abbrev pub after_clear : Slot → Slot
after_clear s = record { first = None; second = None; last = s.last }

-- where a table stands: its slots, by their numbers
abbrev pub Slots : Type 0
Slots = ℕ → Slot

abbrev pub empty : Slot
empty = record { first = None; second = None; last = First }

abbrev pub empty_slots : Slots
empty_slots i = empty

abbrev pub in_slots : List Slot → Slots
in_slots xs i = slice_index_or xs i empty

abbrev pub shows : Slots → Shown
shows s c = shown_by (s (slot_of c)) c

abbrev pub stored : Slots → Code → Pair → Slots
stored s c p i = cond (slot_of c == i) (after_store (s i) c p) (s i)

abbrev pub cleared : Slots → Slots
cleared s i = after_clear (s i)
