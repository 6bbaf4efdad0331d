-- Which text stands for which diagram.
use Rattle.std.specs.Prelude.{◌≡◌, ℕ, ◌^◌, ◌<◌, cond, List, [], ◌∷◌, ◌++◌, map, replicate, bit_and}
use Rattle.std.specs.List.{range_with_len}
use Rattle.board.specs.Masks.{bit}
use Rattle.othello_rules.specs.Letters.{'X', 'O', dot, blank}
use Rattle.othello_rules.specs.declared.side.Side.{Side}
use Rattle.othello_rules.specs.declared.side.Side.TheVariants.{X, O}
use Rattle.othello_rules.specs.declared.diagram.Diagram.{Diagram}

abbrev pub letter : Side → ℕ
letter X = 'X'
letter O = 'O'

-- what a text has for a square
abbrev pub mark : ℕ → ℕ → ℕ → ℕ
mark x o s = cond (bit x s) 'X' (cond (bit o s) 'O' dot)

-- the squares in their order, a blank and the mover's letter
unfoldable pub squares : ℕ → ℕ → List ℕ
squares x o = map (mark x o) (range_with_len 0 64)

abbrev pub written : Diagram → List ℕ
written d = squares d.x d.o ++ blank ∷ letter d.mover ∷ []

-- no square has two discs, and no disc is off the board
pub record Sound (d : Diagram) : Type 0 where
  pub apart : bit_and d.x d.o ≡ 0
  pub x_fits : d.x < 2 ^ 64
  pub o_fits : d.o < 2 ^ 64

-- t stands for d: its text, and then only blanks
pub record Stands (t : List ℕ) (d : Diagram) : Type 0 where
  pub sound : Sound d
  pub blanks : ℕ
  pub text : t ≡ written d ++ replicate blanks blank

-- the texts of the form
abbrev pub Texts : List ℕ → Type 0
Texts t = (d : Diagram) × Stands t d
