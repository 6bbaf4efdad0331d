-- What setting makes of a text and an aim: as a rule that computes, and in words.
use Rattle.std.specs.Prelude.{◌≡◌, ℕ, ◌+◌, ◌-◌, ◌*◌, ◌≤◌, ◌↔◌, cond, ◌&&◌, List, Ok, Err, Result, nat_le}
use Rattle.form.specs.Forms.{Departs, reading}
use Rattle.game.specs.Tree.{Tree, Reading, position, refused}
use Rattle.chess_moves.specs.declared.diagram.Diagram.{Diagram}
use Rattle.chess_rules.specs.Lawful.{Lawful, lawful}
use Rattle.chess_text.specs.Diagrams.{Stands, Texts}
use Rattle.chess_text.specs.Reading.{form}
use Rattle.chess.specs.Limits.{aim_limit}
use Rattle.chess.specs.declared.problem.Problem.{Problem}
use Rattle.chess.specs.Trees.{tree}
use Rattle.chess.specs.Problems.{diagram_of, attacker_of, plies_of}

-- the side to move is to mate in `aim` moves of its own; a text that departs from its form is number 8, a diagram that breaks the rules number 9
abbrev pub judged : ℕ → Result Diagram ℕ → Reading
judged aim (Err n) = refused 8 n
judged aim (Ok d) = cond (lawful d) (position (tree d.mover (2 * aim - 1) d)) (refused 9 0)

-- an aim that is not 1 to 7 is number 7
abbrev pub reading_of : List ℕ → ℕ → Reading
reading_of t aim = cond (nat_le 1 aim && nat_le aim aim_limit) (judged aim (reading form t)) (refused 7 0)

-- ---- in words

-- an aim is to mate in 1 to 7 moves
pub record Aims (aim : ℕ) : Type 0 where
  pub some : 1 ≤ aim
  pub few : aim ≤ aim_limit

-- the problem of a text: the text stands for its diagram, the side to move attacks, and plies are left for `aim` of its moves
pub record Sets (t : List ℕ) (aim : ℕ) (p : Problem) : Type 0 where
  pub aims : Aims aim
  pub stands : Stands t (diagram_of p)
  pub keeps : Lawful (diagram_of p)
  pub attacker : attacker_of p ≡ (diagram_of p).mover
  pub plies : plies_of p + 1 ≡ 2 * aim

-- why a text is not set up, by number, and the place: the first cause that there is
pub data Refuses (t : List ℕ) (aim : ℕ) : ℕ → ℕ → Type 0 where
  no_aim : (Aims aim → ⊥) → Refuses t aim 7 0
  no_text : Aims aim → (n : ℕ) → Departs Texts t n → Refuses t aim 8 n
  no_position : Aims aim → (d : Diagram) → Stands t d → (Lawful d → ⊥) → Refuses t aim 9 0

-- the tree of the problem of a text
pub record SetsTree (t : List ℕ) (aim : ℕ) (u : Tree) : Type 0 where
  pub aims : Aims aim
  pub diagram : Diagram
  pub stands : Stands t diagram
  pub keeps : Lawful diagram
  pub plies : ℕ
  pub left : plies + 1 ≡ 2 * aim
  pub is : u ≡ tree diagram.mover plies diagram

-- what a text is set up as, or why it is refused
abbrev pub Means : List ℕ → ℕ → Reading → Type 0
Means t aim (position u) = SetsTree t aim u
Means t aim (refused n k) = Refuses t aim n k

-- a reading rule says of every text and aim what they mean, and nothing else
abbrev pub ReadingMeans : (List ℕ → ℕ → Reading) → Type 0
ReadingMeans reading = (t : List ℕ) (aim : ℕ) (r : Reading) → (reading t aim ≡ r) ↔ Means t aim r
