-- Positions of an ending as trees.
use Rattle.std.specs.Prelude.{◌≡◌, ℕ, ◌-◌, ◌^◌, ◌≤◌}
use Rattle.game.specs.Tree.{Tree}
use Rattle.othello_rules.specs.Diagrams.{empties}
use Rattle.othello_rules.specs.Texts.{Sound}
use Rattle.othello_rules.specs.declared.diagram.Diagram.{Diagram}
use Rattle.othello_rules.specs.declared.side.Side.{Side}
use Rattle.othello_rules.specs.declared.side.Side.TheVariants.{X}
use Rattle.othello.specs.Limits.{aim_limit, empties_limit}
use Rattle.othello.specs.Endings.{tree}
use Rattle.othello.specs.declared.position.Position.{Position}

-- the parts of a position
abbrev pub diagram_of : Position → Diagram
diagram_of p = p.diagram

abbrev pub attacker_of : Position → Side
attacker_of p = p.attacker

abbrev pub aim_of : Position → ℕ
aim_of p = p.aim

abbrev pub tree_of : Position → Tree
tree_of p = tree p.attacker p.aim p.diagram

-- a fresh game: every square has an X, X is to move and attacks, and the aim is 0
abbrev pub full : Diagram
full = record { x = 2 ^ 64 - 1; o = 0; mover = X }

abbrev pub start : Tree
start = tree X 0 full

-- the trees that are positions of the game: of diagrams with at most 14 empty squares, no square with two discs
pub record IsEnding (t : Tree) : Type 0 where
  pub attacker : Side
  pub aim : ℕ
  pub diagram : Diagram
  pub within : aim ≤ aim_limit
  pub sound : Sound diagram
  pub few : empties diagram ≤ empties_limit
  pub is : t ≡ tree attacker aim diagram
