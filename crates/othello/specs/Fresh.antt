-- The position of a fresh game, by its text.
use Rattle.std.specs.Prelude.{◌≡◌, ℕ, List, ◌++◌, replicate, codes}
use Rattle.game.specs.Tree.{Tree, Reading, position}
use Rattle.othello_rules.specs.Letters.{'X'}
use Rattle.othello_rules.specs.Texts.{Stands}
use Rattle.othello_rules.specs.declared.side.Side.TheVariants.{X}
use Rattle.othello.specs.Endings.{tree}
use Rattle.othello.specs.Positions.{full}

-- 64 times X, a blank and X
abbrev pub fresh_text : List ℕ
fresh_text = replicate 64 'X' ++ codes " X"

-- The text stands for the diagram of 64 X with X to move; `start` is that diagram with X to attack and the aim 0, and `reading` sets it up
-- from the text with the aim 0.
pub record FreshIsItsText (start : Tree) (reading : List ℕ → ℕ → Reading) : Type 0 where
  pub stands : Stands fresh_text full
  pub tree : start ≡ tree X 0 full
  pub is_set : reading fresh_text 0 ≡ position start
