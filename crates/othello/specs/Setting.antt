-- Setting up an ending: which texts and aims are taken, as what position, and why others are declined.
use Rattle.std.specs.Prelude.{◌≡◌, ℕ, ◌<◌, ◌≤◌, cond, List, Ok, Err, Result, ◌↔◌, nat_lt}
use Rattle.form.specs.Forms.{Departs, reading as said}
use Rattle.game.specs.Tree.{Reading, position, refused}
use Rattle.othello_rules.specs.Diagrams.{empties}
use Rattle.othello_rules.specs.Texts.{Stands, Texts}
use Rattle.othello_rules.specs.Reading.{form}
use Rattle.othello_rules.specs.declared.diagram.Diagram.{Diagram}
use Rattle.othello.specs.Limits.{aim_limit, empties_limit}
use Rattle.othello.specs.Endings.{tree}
use Rattle.othello.specs.Positions.{diagram_of, attacker_of, aim_of}
use Rattle.othello.specs.declared.position.Position.{Position}

-- an aim above 64 is number 7, a text that departs from its form number 8, more than 14 empty squares number 10; the mover attacks
abbrev pub reading_of : Result Diagram ℕ → ℕ → Reading
reading_of (Ok d) aim = cond (nat_lt empties_limit (empties d)) (refused 10 0) (position (tree d.mover aim d))
reading_of (Err n) aim = refused 8 n

abbrev pub reading : List ℕ → ℕ → Reading
reading t aim = cond (nat_lt aim_limit aim) (refused 7 0) (reading_of (said form t) aim)

-- p is what the text t says under the aim
pub record Taken (t : List ℕ) (aim : ℕ) (p : Position) : Type 0 where
  pub aimed : aim_of p ≡ aim
  pub stands : Stands t (diagram_of p)
  pub attacks : attacker_of p ≡ (diagram_of p).mover

-- the text t is declined under the aim, for the cause of a number and at a place
pub data Declined (t : List ℕ) (aim : ℕ) : ℕ → ℕ → Type 0 where
  no_aim : aim_limit < aim → Declined t aim 7 0
  departs : (n : ℕ) → aim ≤ aim_limit → Departs Texts t n → Declined t aim 8 n
  too_empty : (d : Diagram) → aim ≤ aim_limit → Stands t d → empties_limit < empties d → Declined t aim 10 0

-- what setting the text gives under the aim: the position of the diagram that the text stands for, its mover the attacker, or a refusal
pub data Sets (t : List ℕ) (aim : ℕ) : Reading → Type 0 where
  taken : (d : Diagram) → aim ≤ aim_limit → Stands t d → empties d ≤ empties_limit → Sets t aim (position (tree d.mover aim d))
  declined : {n k : ℕ} → Declined t aim n k → Sets t aim (refused n k)

-- a reading rule gives of every text and aim exactly this
abbrev pub ReadingSets : (List ℕ → ℕ → Reading) → Type 0
ReadingSets rule = (t : List ℕ) (aim : ℕ) (r : Reading) → (rule t aim ≡ r) ↔ Sets t aim r
