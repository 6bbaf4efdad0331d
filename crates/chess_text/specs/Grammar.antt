-- The form of a diagram's text as a grammar, with no board in sight.
use Rattle.std.specs.Prelude.{◌≡◌, ℕ, suc, ◌+◌, ◌<◌, ◌≤◌, Bool, true, false, List, [], ◌∷◌, ◌++◌, replicate, IfSome, Option}
use Rattle.board.specs.declared.square.Square.{Square}
use Rattle.chess_attacks.specs.Letters.{letter}
use Rattle.chess_text.specs.Letters.{blank, slash}
use Rattle.chess_text.specs.Diagrams.{fields, IsPassable, Texts}
use Rattle.chess_attacks.specs.declared.men.Kind.{Kind}
use Rattle.chess_attacks.specs.declared.men.Side.{Side}

-- Row after-digit n t: t fills n squares of a row, with a man's letter for one square
-- and a digit 1 to 8 for a run of empty ones, which does not stand after a digit
pub data Row : Bool → ℕ → List ℕ → Type 0 where
  full : {d : Bool} → Row d 0 []
  man : {d : Bool} {n : ℕ} {t : List ℕ} (s : Side) (k : Kind) → Row false n t → Row d (suc n) (letter s k ∷ t)
  run : {n : ℕ} {t : List ℕ} (k : ℕ) → 0 < k → k ≤ 8 → Row true n t → Row false (k + n) ((48 + k) ∷ t)

-- Rows n t: t is a row of eight squares and n more below it, with a slash between
pub data Rows : ℕ → List ℕ → Type 0 where
  last : {t : List ℕ} → Row false 8 t → Rows 0 t
  next : {n : ℕ} {t u : List ℕ} → Row false 8 t → Rows n u → Rows (suc n) (t ++ slash ∷ u)

-- eight rows, the other fields after single blanks, and then only blanks
pub record Fen (t : List ℕ) : Type 0 where
  pub board_text : List ℕ
  pub rows : Rows 7 board_text
  pub mover : Side
  pub passing : Option Square
  pub row : IfSome passing IsPassable
  pub blanks : ℕ
  pub text : t ≡ board_text ++ (fields mover passing ++ replicate blanks blank)

-- the texts of diagrams are the texts of the grammar
abbrev pub SameTexts : Type 0
SameTexts = (t : List ℕ) → (Texts t → Fen t) × (Fen t → Texts t)
