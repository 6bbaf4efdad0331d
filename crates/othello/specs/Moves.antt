-- The moves of an ending in the words of the rules, and their texts.
use Rattle.std.specs.Prelude.{ℕ, List, [], ◌∷◌, map, codes}
use Rattle.othello_rules.specs.Legal.{Legal, CanPlace, MustPass, IsOver, Leaves, Passes, Lists}
use Rattle.othello_rules.specs.declared.diagram.Diagram.{Diagram}
use Rattle.othello.specs.Endings.{square_text}

-- to place a disc on a square, or to pass
pub data Move : Type 0 where
  place : ℕ → Move
  pass : Move

abbrev pub text_of : Move → List ℕ
text_of (place s) = square_text s
text_of pass = codes "pass "

-- the mover may make the move
abbrev pub May : Diagram → Move → Type 0
May d (place s) = Legal d.mover d s
May d pass = MustPass d

-- e is what the move makes of d
abbrev pub Becomes : Diagram → Move → Diagram → Type 0
Becomes d (place s) e = Leaves d s e
Becomes d pass e = Passes d e

-- the moves of a diagram in order: the legal placements by square, else the pass alone, and none once the game is over
pub data HasMoves (d : Diagram) : List Move → Type 0 where
  places : (l : List ℕ) → CanPlace d.mover d → Lists d l → HasMoves d (map place l)
  passes : MustPass d → HasMoves d (pass ∷ [])
  over : IsOver d → HasMoves d []
