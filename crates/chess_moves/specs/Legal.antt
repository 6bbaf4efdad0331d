-- When a move is legal, in the words of the Laws of Chess, and the order of moves.
use Rattle.std.specs.Prelude.{◌≡◌, ℕ, ◌<◌, ◌≤◌, ◌⊎◌, List, [], ◌∷◌, Some, None, Option, ◌≢◌}
use Rattle.std.specs.List.{ContainsAt as Has, AllByRecursion}
use Rattle.board.specs.Squares.{row, reach, away}
use Rattle.chess_attacks.specs.declared.men.Man.{Man}
use Rattle.chess_attacks.specs.declared.men.Kind.TheVariants.{Pawn}
use Rattle.chess_attacks.specs.declared.men.Side.{Side}
use Rattle.chess_attacks.specs.Men.{Squares, on, other}
use Rattle.chess_attacks.specs.Lists.{numbered}
use Rattle.chess_attacks.specs.Commands.{Commands, Checked}
use Rattle.chess_moves.specs.declared.diagram.Diagram.{Diagram}
use Rattle.chess_moves.specs.declared.step.Move.{Move}
use Rattle.chess_moves.specs.declared.step.Promotion.{Promotion}
use Rattle.chess_moves.specs.declared.step.Promotion.TheVariants.{Queen, Rook, Bishop, Knight}
use Rattle.chess_moves.specs.Pawns.{forward, start_row, last_row}
use Rattle.chess_moves.specs.After.{after}

-- a man of the side stands on s
pub record Holds (b : Squares) (a : Side) (s : ℕ) : Type 0 where
  pub man : Man
  pub there : on b s ≡ Some man
  pub of_side : man.side ≡ a

-- t is n squares straight ahead of f
pub record Ahead (a : Side) (f t n : ℕ) : Type 0 where
  pub OnBoard : n ≤ reach (forward a) f
  pub target : t ≡ away (forward a) f n

-- How the man m goes from f to t; e is the square that a pawn has just passed.
pub data Goes (b : Squares) (e : Option ℕ) (m : Man) (f t : ℕ) : Type 0 where
  -- a man that is no pawn goes to a square that it commands, unless a man of its own side stands there
  officer : (m.kind ≢ Pawn) → Commands b m f t → (Holds b m.side t → ⊥) → Goes b e m f t
  -- a pawn steps to the empty square straight ahead,
  step : m.kind ≡ Pawn → Ahead m.side f t 1 → on b t ≡ None → Goes b e m f t
  -- or from its first row to the second one ahead, where both are empty,
  two_step : m.kind ≡ Pawn → row f ≡ start_row m.side → on b (away (forward m.side) f 1) ≡ None → Ahead m.side f t 2 → on b t ≡ None → Goes b e m f t
  -- it takes a man of the other side on a square that it commands, which is one square aslant ahead,
  capture : m.kind ≡ Pawn → Commands b m f t → Holds b (other m.side) t → Goes b e m f t
  -- and so it takes en passant, on the square that a pawn has just passed
  en_passant : m.kind ≡ Pawn → Commands b m f t → e ≡ Some t → Goes b e m f t

-- m is a pawn, and t is on its last row
abbrev pub AtEnd : Man → ℕ → Type 0
AtEnd m t = (m.kind ≡ Pawn) × (row t ≡ last_row m.side)

-- a pawn becomes another man on its last row, and no man does elsewhere
abbrev pub Becomes : Man → ℕ → Option Promotion → Type 0
Becomes m t None = AtEnd m t → ⊥
Becomes m t (Some k) = AtEnd m t

-- a man of the side to move goes so, and its king is not attacked afterwards
pub record Legal (d : Diagram) (v : Move) : Type 0 where
  pub man : Man
  pub there : on d.board v.from.number ≡ Some man
  pub ours : man.side ≡ d.mover
  pub way : Goes d.board (numbered d.passing) man v.from.number v.to.number
  pub turns : Becomes man v.to.number v.promotion
  pub safe : Checked (after d.board (numbered d.passing) man v.from.number v.to.number v.promotion) d.mover → ⊥

-- The order of moves: by from-square, then to-square, then queen, rook, bishop and knight.
abbrev pub turn_number : Option Promotion → ℕ
turn_number None = 0
turn_number (Some Queen) = 1
turn_number (Some Rook) = 2
turn_number (Some Bishop) = 3
turn_number (Some Knight) = 4

abbrev pub Before : Move → Move → Type 0
Before v w =
    (v.from.number < w.from.number)
    ⊎ ((v.from.number ≡ w.from.number)
    × ((v.to.number < w.to.number)
    ⊎ ((v.to.number ≡ w.to.number) × (turn_number v.promotion < turn_number w.promotion))))

-- each move comes before all that follow it
abbrev pub Ordered : List Move → Type 0
Ordered [] = Unit {0}
Ordered (v ∷ vs) = AllByRecursion (Before v) vs × Ordered vs

-- the moves of a list are the legal ones, no other, and they stand in order
pub record Lists (d : Diagram) (vs : List Move) : Type 0 where
  pub sound : (v : Move) → Has vs v → Legal d v
  pub complete : (v : Move) → Legal d v → Has vs v
  pub order : Ordered vs
