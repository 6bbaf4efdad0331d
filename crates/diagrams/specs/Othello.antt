-- Othello diagrams: an ending with one empty square, its key and its trials under both policies; and aims, empty squares and texts that are
-- taken and declined.
use Rattle.std.specs.Prelude.{◌≡◌, ℕ, ◌-◌, ◌^◌, ◌≤◌, true, List, [], ◌∷◌, ◌++◌, map, replicate, codes}
use Rattle.game.specs.Tree.{Tree, next, words, minimax}
use Rattle.game.specs.declared.game.Game as game
use Rattle.table.specs.declared.Table as table
use Rattle.othello_rules.specs.declared.diagram.Diagram.{Diagram}
use Rattle.othello_rules.specs.declared.side.Side.{Side}
use Rattle.othello_rules.specs.declared.side.Side.TheVariants.{X, O}
use Rattle.othello.specs.Endings.{tree}
use Rattle.tester.specs.Calls.{Stand}
use Rattle.diagrams.specs.Outcomes.{Sets, Declines, Tries, Writes}

-- row 1 is `.OXXXXXX`, all else X
abbrev pub one_empty : Side → Diagram
one_empty m = record { x = 2 ^ 64 - 4; o = 2; mover = m }

-- so many empty squares, from a1 on, and X on all others; X is to move
abbrev pub first_empty : ℕ → Diagram
first_empty n = record { x = 2 ^ 64 - 2 ^ n; o = 0; mover = X }

abbrev pub first_empty_text : ℕ → List ℕ
first_empty_text n = replicate n 46 ++ (replicate (64 - n) 88 ++ codes " X")

-- X to move, aim 64
abbrev pub to_place_text : List ℕ
to_place_text = codes ".OXXXXXXXXXXXXXXXXXXXXXXXXXXXXXXXXXXXXXXXXXXXXXXXXXXXXXXXXXXXXXX X"

abbrev pub to_place : Tree
to_place = tree X 64 (one_empty X)

-- O to move, aim 0
abbrev pub to_pass_text : List ℕ
to_pass_text = codes ".OXXXXXXXXXXXXXXXXXXXXXXXXXXXXXXXXXXXXXXXXXXXXXXXXXXXXXXXXXXXXXX O"

abbrev pub to_pass : Tree
to_pass = tree O 0 (one_empty O)

pub record OthelloDiagrams {G T : Type 0} (g : game.Ghosts G) (h : table.Ghosts T) : Type 0 where
  -- a1 is the only key
  pub to_place_set : Sets g h to_place_text 64 to_place
  pub only_move : words to_place ≡ codes "a1   " ∷ []
  pub only_key : map minimax (next to_place) ≡ true ∷ []
  pub to_place_solved : Writes g h to_place 0 (codes "01!a1   ") 1 1 0 0
  pub to_pass_set : Sets g h to_pass_text 0 to_pass
  -- an aim of 64 is taken, as above, and 65 is declined
  pub aim_of_65 : Declines g h to_place_text 65 7 0
  -- 14 empty squares are taken, and 15 declined
  pub fourteen_empty : Sets g h (first_empty_text 14) 0 (tree X 0 (first_empty 14))
  pub fifteen_empty : Declines g h (first_empty_text 15) 0 10 0
  -- an empty text is declined, under each aim that is taken
  pub empty_text : (aim : ℕ) → aim ≤ 64 → Declines g h [] aim 8 0

-- at the ending with O to move, whatever the path before and wherever the table stands
abbrev pub AtPass : {T : Type 0} {h : table.Ghosts T} → Stand h → Type 0
AtPass s = s.current ≡ to_pass

-- With a table that keeps nothing: its trials within budgets of 4, 3 and 2.
pub record TrialsWithNone {G T : Type 0} (g : game.Ghosts G) (h : table.Ghosts T) : Type 0 where
  pub four : (s : Stand h) → AtPass s → Tries g h s 4 (codes "not-won") 2 0 (λ s'. Unit {0})
  pub three : (s : Stand h) → AtPass s → Tries g h s 3 (codes "not-won") 1 2 (λ s'. Unit {0})
  pub two : (s : Stand h) → AtPass s → Tries g h s 2 (codes "spent") 1 1 (λ s'. Unit {0})

-- With the newest policy: from a table that was cleared, the trial within a budget of 4, made twice; the second leaves the table where it
-- stood.
pub record TrialsWithNewest {G T : Type 0} (g : game.Ghosts G) (h : table.Ghosts T) : Type 0 where
  pub twice : (s : Stand h) (before : h.storing.Standing) → AtPass s → s.standing ≡ h.storing.cleared before →
      Tries g h s 4 (codes "not-won") 2 0 (λ s'. Tries g h s' 4 (codes "not-won") 0 0 (λ s''. s'' ≡ s'))
