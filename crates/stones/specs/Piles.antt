-- A pile of stones as a game: each move takes one or two, and whoever takes the last wins.
use Rattle.std.specs.Prelude.{◌≡◌, ℕ, zero, suc, ◌-◌, ◌≤◌, Bool, true, false, cond, not, ◌&&◌, List, [], ◌∷◌, codes, ◌==◌, nat_le}
use Rattle.game.specs.Tree.{Tree, Reading, node, none, move, position, refused}
use Rattle.game.specs.declared.state.State.{State}
use Rattle.game.specs.declared.state.State.TheVariants.{Won, NotWon, Attacker, Defender}
use Rattle.stones.specs.declared.pile.Pile.{Pile}

-- the side to move, the attacker where b is true; with no stone left the other side has won
abbrev pub state_of : ℕ → Bool → State
state_of zero b = cond b NotWon Won
state_of (suc n) b = cond b Attacker Defender

abbrev pub flag : Bool → ℕ
flag true = 1
flag false = 0

abbrev pub code_of : ℕ → Bool → List ℕ
code_of n b = n ∷ flag b ∷ 0 ∷ 0 ∷ 0 ∷ []

abbrev pub take_one : List ℕ
take_one = codes "take1"

abbrev pub take_two : List ℕ
take_two = codes "take2"

abbrev pub bare : Bool → Tree
bare b = node (state_of 0 b) 0 (code_of 0 b) none

-- the tree of a pile: two moves, one where a single stone is left, none where no stone is
abbrev pub tree : ℕ → Bool → Tree
tree zero b = bare b
tree (suc zero) b = node (state_of 1 b) 1 (code_of 1 b) (move take_one (bare (not b)) none)
tree (suc (suc n)) b = node (state_of (suc (suc n)) b) (suc (suc n)) (code_of (suc (suc n)) b) (move take_one (tree (suc n) (not b)) (move take_two (tree n (not b)) none))

abbrev pub tree_of : Pile → Tree
tree_of p = tree p.left p.attackers

-- the trees of piles
pub record IsPile (t : Tree) : Type 0 where
  pub left : ℕ
  pub attackers : Bool
  pub few : left ≤ 4
  pub is : t ≡ tree left attackers

-- a text that is not one digit from 0 to 4 is number 8, an aim that is not 0 is number 7; the side to move attacks
abbrev pub pile_of : List ℕ → Reading
pile_of [] = refused 8 0
pile_of (d ∷ []) = cond (nat_le 48 d && nat_le d 52) (position (tree (d - 48) true)) (refused 8 0)
pile_of (d ∷ e ∷ x) = cond (nat_le 48 d && nat_le d 52) (refused 8 1) (refused 8 0)

abbrev pub reading : List ℕ → ℕ → Reading
reading x aim = cond (aim == 0) (pile_of x) (refused 7 0)
