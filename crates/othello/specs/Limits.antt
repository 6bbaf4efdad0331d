-- The limits of an ending.
use Rattle.std.specs.Prelude.{ℕ, ◌+◌, ◌*◌}

-- an aim is a margin of 0 to 64 discs
abbrev pub aim_limit : ℕ
aim_limit = 64

-- so many squares are empty at most, and a position has no more moves
abbrev pub empties_limit : ℕ
empties_limit = 14

-- a placement and a pass for each empty square, and a pass that is due
abbrev pub rank_limit : ℕ
rank_limit = 2 * empties_limit + 1
