-- Which squares a man commands, by direction and distance; what an attack is, and check.
use Rattle.std.specs.Prelude.{◌≡◌, ℕ, ◌-◌, ◌*◌, ◌<◌, ◌≤◌, min, max, Some, None}
use Rattle.board.specs.Squares.{file, row, reach, away}
use Rattle.board.specs.declared.direction.Direction.{Direction}
use Rattle.chess_attacks.specs.declared.men.Man.{Man}
use Rattle.chess_attacks.specs.declared.men.Kind.TheVariants.{King, Knight}
use Rattle.chess_attacks.specs.declared.men.Side.{Side}
use Rattle.chess_attacks.specs.Men.{Squares, on, other}
use Rattle.chess_attacks.specs.Ranges.{range_of}

-- The square t is reached from f in the direction d within n squares: it is on the board, and no man stands between.
pub record Reached (b : Squares) (d : Direction) (f n t : ℕ) : Type 0 where
  pub distance : ℕ
  pub some : 0 < distance
  pub in_range : distance ≤ n
  pub OnBoard : distance ≤ reach d f
  pub target : t ≡ away d f distance
  pub clear : (k : ℕ) → 0 < k → k < distance → on b (away d f k) ≡ None

-- The man m on f commands t along a line: t is reached in some direction within the man's range.
pub record Along (b : Squares) (m : Man) (f t : ℕ) : Type 0 where
  pub direction : Direction
  pub reached : Reached b direction f (range_of m direction) t

abbrev pub gap : ℕ → ℕ → ℕ
gap x y = max x y - min x y

-- a knight's leap: two squares along a row or file, and one along the other
abbrev pub Leap : ℕ → ℕ → Type 0
Leap f t = gap (file f) (file t) * gap (row f) (row t) ≡ 2

pub data Commands (b : Squares) (m : Man) (f t : ℕ) : Type 0 where
  by_line : Along b m f t → Commands b m f t
  by_leap : m.kind ≡ Knight → t < 64 → Leap f t → Commands b m f t

-- a man of the side commands the square s
pub record Attacked (b : Squares) (s : ℕ) (by : Side) : Type 0 where
  pub from : ℕ
  pub inside : from < 64
  pub man : Man
  pub there : on b from ≡ Some man
  pub of_side : man.side ≡ by
  pub commands : Commands b man from s

-- a king of the side is attacked by the other side
pub record Checked (b : Squares) (a : Side) : Type 0 where
  pub at : ℕ
  pub inside : at < 64
  pub there : on b at ≡ Some (record { side = a; kind = King })
  pub attacked : Attacked b at (other a)
