-- Which trees are chess positions, and the position of a fresh game.
use Rattle.std.specs.Prelude.{◌≡◌, ℕ, ◌≤◌, replicate, Some, None, Option, slice_set}
use Rattle.game.specs.Tree.{Tree}
use Rattle.chess_attacks.specs.declared.men.Man.{Man}
use Rattle.chess_attacks.specs.declared.men.Kind.TheVariants.{King}
use Rattle.chess_attacks.specs.declared.men.Side.{Side}
use Rattle.chess_attacks.specs.declared.men.Side.TheVariants.{White, Black}
use Rattle.chess_moves.specs.declared.diagram.Diagram.{Diagram}
use Rattle.chess_rules.specs.Lawful.{Lawful}
use Rattle.chess.specs.Limits.{plies_limit}
use Rattle.chess.specs.declared.problem.Problem.{Problem}
use Rattle.chess.specs.declared.level.Level.{Level}
use Rattle.chess.specs.Trees.{tree}
use Rattle.chess.specs.Turn.{AttackersTurn}

-- a diagram that keeps the rules, with at most 13 plies left, which are odd exactly when the attacker is to move
pub record IsTree (t : Tree) : Type 0 where
  pub attacker : Side
  pub plies : ℕ
  pub diagram : Diagram
  pub few : plies ≤ plies_limit
  pub lawful : Lawful diagram
  pub turn : AttackersTurn plies diagram.mover attacker
  pub is : t ≡ tree attacker plies diagram

abbrev pub tree_of : Problem → Tree
tree_of p = tree p.attacker p.plies p.position.diagram

abbrev pub level_tree : Level → Tree
level_tree l = tree_of l.problem

abbrev pub a_king : Side → Option Man
a_king a = Some (record { side = a; kind = King })

-- 4k3/8/8/8/8/8/8/4K3 w - -, with one ply left
abbrev pub two_kings : Diagram
two_kings = record { board = slice_set (slice_set (replicate 64 None) 4 (a_king White)) 60 (a_king Black); mover = White; passing = None }

abbrev pub fresh_tree : Tree
fresh_tree = tree White 1 two_kings
