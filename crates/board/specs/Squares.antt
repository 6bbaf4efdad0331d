-- Squares by number: file + 8 * row, files a..h and rows 1..8 counted from 0. Directions and rays.
use Rattle.std.specs.Prelude.{ℕ, ◌+◌, ◌-◌, ◌*◌, ◌/◌, ◌%◌, min, List, [], ◌∷◌, map}
use Rattle.std.specs.List.{range_with_len}
use Rattle.board.specs.declared.direction.Direction.{Direction}
use Rattle.board.specs.declared.direction.Direction.TheVariants.{East, West, North, South, NorthEast, NorthWest, SouthEast, SouthWest}

abbrev pub file : ℕ → ℕ
file s = s % 8

abbrev pub row : ℕ → ℕ
row s = s / 8

abbrev pub square_at : ℕ → ℕ → ℕ
square_at f r = f + 8 * r

-- the name of a square: the letter of its file, then the digit of its row
abbrev pub name_of : ℕ → List ℕ
name_of s = (97 + file s) ∷ (49 + row s) ∷ []

-- the steps to the edge of the board
abbrev pub reach : Direction → ℕ → ℕ
reach East s = 7 - file s
reach West s = file s
reach North s = 7 - row s
reach South s = row s
reach NorthEast s = min (7 - file s) (7 - row s)
reach NorthWest s = min (file s) (7 - row s)
reach SouthEast s = min (7 - file s) (row s)
reach SouthWest s = min (file s) (row s)

-- the square at a distance; on the board where the distance is at most `reach`
abbrev pub away : Direction → ℕ → ℕ → ℕ
away East s k = square_at (file s + k) (row s)
away West s k = square_at (file s - k) (row s)
away North s k = square_at (file s) (row s + k)
away South s k = square_at (file s) (row s - k)
away NorthEast s k = square_at (file s + k) (row s + k)
away NorthWest s k = square_at (file s - k) (row s + k)
away SouthEast s k = square_at (file s + k) (row s - k)
away SouthWest s k = square_at (file s - k) (row s - k)

-- the squares in a direction, the nearest first
abbrev pub ray : Direction → ℕ → List ℕ
ray d s = map (away d s) (range_with_len 1 (reach d s))

-- all eight directions
abbrev pub directions : List Direction
directions = East ∷ West ∷ North ∷ South ∷ NorthEast ∷ NorthWest ∷ SouthEast ∷ SouthWest ∷ []

abbrev pub opposite : Direction → Direction
opposite East = West
opposite West = East
opposite North = South
opposite South = North
opposite NorthEast = SouthWest
opposite NorthWest = SouthEast
opposite SouthEast = NorthWest
opposite SouthWest = NorthEast
