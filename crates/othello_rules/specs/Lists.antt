-- The squares that a list of placements holds.
use Rattle.std.specs.Prelude.{ℕ, List, map, take}
use Rattle.board.specs.declared.square.Square.{Square}
use Rattle.othello_rules.specs.declared.placements.Placements.{Placements}

abbrev pub number_of : Square → ℕ
number_of s = s.number

-- the squares by number
abbrev pub listed : Placements → List ℕ
listed p = map number_of (take p.count p.squares)
