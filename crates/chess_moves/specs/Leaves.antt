-- What a legal move leaves, square by square, in the words of the Laws of Chess.
use Rattle.std.specs.Prelude.{◌≡◌, ℕ, ◌+◌, ◌*◌, ◌≢◌, ◌⊎◌, ◌↔◌, length, Some, None, Option}
use Rattle.board.specs.Squares.{file, row}
use Rattle.chess_attacks.specs.declared.men.Man.{Man}
use Rattle.chess_attacks.specs.declared.men.Kind.{Kind}
use Rattle.chess_attacks.specs.declared.men.Kind.TheVariants.{Queen, Rook, Bishop, Knight, Pawn}
use Rattle.chess_attacks.specs.Men.{on, other}
use Rattle.chess_attacks.specs.Commands.{Checked}
use Rattle.chess_attacks.specs.Lists.{numbered}
use Rattle.chess_moves.specs.declared.diagram.Diagram.{Diagram}
use Rattle.chess_moves.specs.declared.step.Move.{Move}
use Rattle.chess_moves.specs.declared.step.Promotion.{Promotion}
use Rattle.chess_moves.specs.declared.step.Promotion.TheVariants.{Queen as ToQueen, Rook as ToRook, Bishop as ToBishop, Knight as ToKnight}
use Rattle.chess_moves.specs.After.{played}
use Rattle.chess_moves.specs.Legal.{Goes, Becomes, Legal}

-- a man of the kind k that goes comes as a man of the kind l
pub data ComesAs (k : Kind) : Option Promotion → Kind → Type 0 where
  stays : ComesAs k None k
  queen : ComesAs k (Some ToQueen) Queen
  rook : ComesAs k (Some ToRook) Rook
  bishop : ComesAs k (Some ToBishop) Bishop
  knight : ComesAs k (Some ToKnight) Knight

-- the man that came to the to-square: the one that went, or what it became
pub record Arrives (m : Man) (v : Move) (d : Diagram) : Type 0 where
  pub man : Man
  pub there : on d.board v.to.number ≡ Some man
  pub of_side : man.side ≡ m.side
  pub comes_as : ComesAs m.kind v.promotion man.kind

-- the man that goes is a pawn
pub record PawnGoes (d : Diagram) (v : Move) : Type 0 where
  pub man : Man
  pub there : on d.board v.from.number ≡ Some man
  pub pawn : man.kind ≡ Pawn

-- a pawn goes two rows at once, and s is the square between
pub record StepsOver (d : Diagram) (v : Move) (s : ℕ) : Type 0 where
  pub goes : PawnGoes d v
  pub far : (row v.to.number ≡ row v.from.number + 2) ⊎ (row v.from.number ≡ row v.to.number + 2)
  pub on_file : file s ≡ file v.from.number
  pub on_row : row s * 2 ≡ row v.from.number + row v.to.number

-- A pawn goes to another file and to the square that a pawn has just passed: it takes that one, which stands on s,
-- in the file that it comes to and the row that it leaves.
pub record TakesPassing (d : Diagram) (v : Move) (s : ℕ) : Type 0 where
  pub goes : PawnGoes d v
  pub aslant : file v.from.number ≢ file v.to.number
  pub passed : numbered d.passing ≡ Some v.to.number
  pub on_file : file s ≡ file v.to.number
  pub on_row : row s ≡ row v.from.number

pub record Leaves (d : Diagram) (v : Move) (e : Diagram) : Type 0 where
  pub whole : length e.board ≡ 64
  -- the from-square is empty, and on the to-square stands the man or what it became
  pub from : on e.board v.from.number ≡ None
  pub to : (m : Man) → on d.board v.from.number ≡ Some m → Arrives m v e
  -- the square of a pawn taken en passant is empty, and every other square is as it was
  pub taken : (s : ℕ) → TakesPassing d v s → on e.board s ≡ None
  pub rest : (s : ℕ) → s ≢ v.from.number → s ≢ v.to.number → (TakesPassing d v s → ⊥) → on e.board s ≡ on d.board s
  -- the en passant square is the square that the move stepped over, and none unless it did
  pub passing : (s : ℕ) → (numbered e.passing ≡ Some s) ↔ StepsOver d v s
  pub mover : e.mover ≡ other d.mover

-- A man of the side to move goes so, and what a pawn becomes fits; its king may be attacked afterwards.
pub record MayGo (d : Diagram) (v : Move) : Type 0 where
  pub man : Man
  pub there : on d.board v.from.number ≡ Some man
  pub ours : man.side ≡ d.mover
  pub way : Goes d.board (numbered d.passing) man v.from.number v.to.number
  pub turns : Becomes man v.to.number v.promotion

-- what is played leaves this, and nothing else is left
abbrev pub MovesLeave : Type 0
MovesLeave = (d : Diagram) → length d.board ≡ 64 → (v : Move) → MayGo d v → Leaves d v (played d v)

abbrev pub LeftOnce : Type 0
LeftOnce = (d : Diagram) → length d.board ≡ 64 → (v : Move) → MayGo d v → (e : Diagram) → Leaves d v e → e ≡ played d v

-- a move is legal exactly when a man may go so and what that leaves has no check of the side that moved
abbrev pub LegalIsSafe : Type 0
LegalIsSafe =
    (d : Diagram) → length d.board ≡ 64 → (v : Move)
    → Legal d v ↔ (MayGo d v × ((e : Diagram) → Leaves d v e → Checked e.board d.mover → ⊥))
