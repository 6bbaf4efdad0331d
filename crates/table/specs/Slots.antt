-- The slots of the newest policy: the mix of a code, and what slots show.
use Rattle.std.specs.Prelude.{ℕ, ◌*◌, ◌/◌, ◌%◌, ◌^◌, cond, List, [], Some, None, fold, Option, ◌==◌, bit_and, bit_or, bit_xor, slice_index_or}
use Rattle.std.specs.Str.{bytes_eq}
use Rattle.table.specs.declared.pair.Pair.{Pair}
use Rattle.table.specs.declared.newest.Slot.{Slot}
use Rattle.table.specs.Pairs.{Code, Shown}

-- one word more is mixed in: times the odd number nearest to 2 ^ 64 over the golden ratio, and turned left by 29 bits
unfoldable pub turned : ℕ → ℕ
turned n = bit_or ((n * 2 ^ 29) % 2 ^ 64) (n / 2 ^ 35)

unfoldable pub mixed : ℕ → ℕ → ℕ
mixed n w = turned ((bit_xor n w * 0x9e37_79b9_7f4a_7c15) % 2 ^ 64)

-- the slot of a code, which may be any list of words
unfoldable pub slot_of : List ℕ → ℕ
slot_of c = bit_and (fold mixed 0 c) 511

-- what a slot shows of a code
abbrev pub kept_in : Slot → Code → Option Pair
kept_in s c = cond (bytes_eq s.code c) s.pair None

abbrev pub empty : Slot
empty = record { code = []; pair = None }

-- what slots show of a code, which may be any list of words
abbrev pub in_slots : List Slot → Shown
in_slots xs c = kept_in (slice_index_or xs (slot_of c) empty) c

-- what is shown after a store: the pair under its own code, none under another code of the same slot
abbrev pub newest : Shown → Code → Pair → Shown
newest h c p d = cond (bytes_eq c d) (Some p) (cond (slot_of c == slot_of d) None (h d))
