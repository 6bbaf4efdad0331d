-- The rules that every chess position keeps, and the same rules as a test.
use Rattle.std.specs.Prelude.{◌≡◌, ℕ, zero, suc, ◌<◌, ◌≤◌, Bool, true, false, cond, not, ◌&&◌, length, Some, None, Option, ◌==◌, nat_le, nat_lt}
use Rattle.board.specs.Squares.{file, row, square_at}
use Rattle.chess_attacks.specs.declared.men.Man.{Man}
use Rattle.chess_attacks.specs.declared.men.Kind.TheVariants.{Pawn}
use Rattle.chess_attacks.specs.declared.men.Side.{Side}
use Rattle.chess_attacks.specs.declared.men.Side.TheVariants.{White, Black}
use Rattle.chess_attacks.specs.Men.{Squares, on, given, other, is_pawn, man_of}
use Rattle.chess_attacks.specs.Commands.{Checked}
use Rattle.chess_attacks.specs.Lists.{checked}
use Rattle.chess_moves.specs.declared.diagram.Diagram.{Diagram}
use Rattle.chess_moves.specs.Moves.{empty, passing_of}
use Rattle.chess_moves.specs.Count.{men, kings}

-- By the side to move, the rows, counted from 0, of an en passant square, of where the pawn that passed it came from and of where it stands.
abbrev pub passed_row : Side → ℕ
passed_row White = 5
passed_row Black = 2

abbrev pub home_row : Side → ℕ
home_row White = 6
home_row Black = 1

abbrev pub stand_row : Side → ℕ
stand_row White = 4
stand_row Black = 3

abbrev pub came_from : Side → ℕ → ℕ
came_from a s = square_at (file s) (home_row a)

abbrev pub went_to : Side → ℕ → ℕ
went_to a s = square_at (file s) (stand_row a)

abbrev pub pawn_of : Side → Option Man
pawn_of a = Some (record { side = a; kind = Pawn })

-- A pawn of the side that is not to move has just passed s: s and the square that the pawn came from are empty.
pub record Passed (b : Squares) (a : Side) (s : ℕ) : Type 0 where
  pub on_row : row s ≡ passed_row a
  pub clear : on b s ≡ None
  pub left : on b (came_from a s) ≡ None
  pub pawn : on b (went_to a s) ≡ pawn_of (other a)

abbrev pub EnPassant : Squares → Side → Option ℕ → Type 0
EnPassant b a None = Unit {0}
EnPassant b a (Some s) = Passed b a s

-- One king and at most sixteen men a side, no pawn on the first and the last row, and the side that has just moved not in check.
pub record Lawful (d : Diagram) : Type 0 where
  pub whole : length d.board ≡ 64
  pub one_king : (a : Side) → kings d.board a ≡ 1
  pub few_men : (a : Side) → men d.board a ≤ 16
  pub inner_pawns : (s : ℕ) (m : Man) → s < 64 → on d.board s ≡ Some m → m.kind ≡ Pawn → (0 < row s) × (row s < 7)
  pub quiet : Checked d.board (other d.mover) → ⊥
  pub passing : EnPassant d.board d.mover (passing_of d)

-- the same as a test
abbrev pub side_fine : Squares → Side → Bool
side_fine b a = kings b a == 1 && nat_le (men b a) 16

abbrev pub holds_pawn : Option Man → Bool
holds_pawn o = given o false (λ m. is_pawn m.kind)

abbrev pub inner : Squares → ℕ → Bool
inner b s = cond (holds_pawn (on b s)) (nat_lt 0 (row s) && nat_lt (row s) 7) true

-- on the squares below n
unfoldable pub pawns_inner : Squares → ℕ → Bool
pawns_inner b zero = true
pawns_inner b (suc n) = inner b n && pawns_inner b n

abbrev pub passing_fine : Squares → Side → Option ℕ → Bool
passing_fine b a None = true
passing_fine b a (Some s) = row s == passed_row a && (empty (on b s) && (empty (on b (came_from a s)) && man_of (other a) Pawn (on b (went_to a s))))

unfoldable pub rules_kept : Squares → Side → Option ℕ → Bool
rules_kept b a e =
    side_fine b White && (side_fine b Black && (pawns_inner b 64 && (not (checked b (other a)) && passing_fine b a e)))

unfoldable pub lawful : Diagram → Bool
lawful d = length d.board == 64 && rules_kept d.board d.mover (passing_of d)
