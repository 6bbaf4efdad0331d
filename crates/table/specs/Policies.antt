-- Where tables of the two policies can stand, and how they go on.
use Rattle.table.specs.Pairs.{Shown, nothing}
use Rattle.table.specs.Storings.{Storing}
use Rattle.table.specs.Slots.{newest}

-- the table that keeps nothing stands in one way
abbrev pub none_storing : Storing
none_storing = record { Standing = Unit {0}; shows = λ _. nothing; stored = λ s _ _. s; cleared = λ s. s }

-- where a table of the newest policy stands is the pairs that it shows, and no more
abbrev pub newest_storing : Storing
newest_storing = record { Standing = Shown; shows = λ h. h; stored = newest; cleared = λ _. nothing }
