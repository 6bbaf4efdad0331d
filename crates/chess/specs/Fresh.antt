-- The position of a fresh game by its text.
use Rattle.std.specs.Prelude.{◌≡◌, ℕ, List, codes}
use Rattle.game.specs.Tree.{Tree, Reading, position}
use Rattle.chess_attacks.specs.declared.men.Side.TheVariants.{White}
use Rattle.chess_text.specs.Diagrams.{Stands}
use Rattle.chess_rules.specs.Lawful.{Lawful}
use Rattle.chess.specs.Positions.{two_kings}
use Rattle.chess.specs.Trees.{tree}

abbrev pub fresh_text : List ℕ
fresh_text = codes "4k3/8/8/8/8/8/8/4K3 w - -"

-- The text stands for the diagram of two kings, which keeps the rules; `start` is that diagram with one ply left, and `reading` sets it up
-- from the text with the aim 1.
pub record FreshIsItsText (start : Tree) (reading : List ℕ → ℕ → Reading) : Type 0 where
  pub stands : Stands fresh_text two_kings
  pub keeps : Lawful two_kings
  pub tree : start ≡ tree White 1 two_kings
  pub is_set : reading fresh_text 1 ≡ position start
