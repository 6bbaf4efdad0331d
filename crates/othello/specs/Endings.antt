-- An Othello ending as a game: its moves, state, rank, code and tree. The attacker and the aim stay the same throughout.
use Rattle.std.specs.Prelude.{◌≡◌, ℕ, zero, suc, ◌+◌, ◌*◌, Bool, cond, List, [], ◌∷◌, ◌++◌, map, codes, nat_le}
use Rattle.game.specs.Tree.{Tree, node, Moves, none, move, nowhere}
use Rattle.game.specs.declared.state.State.{State}
use Rattle.game.specs.declared.state.State.TheVariants.{Won, NotWon, Attacker, Defender}
use Rattle.board.specs.Masks.{bit, size}
use Rattle.board.specs.Squares.{name_of}
use Rattle.othello_rules.specs.Diagrams.{opponent, discs, empties, placements, placed, passed, turn}
use Rattle.othello_rules.specs.declared.diagram.Diagram.{Diagram}
use Rattle.othello_rules.specs.declared.side.Side.{Side}
use Rattle.othello_rules.specs.declared.side.Side.TheVariants.{X, O}
use Rattle.othello_rules.specs.declared.turn.Turn.{Turn}
use Rattle.othello_rules.specs.declared.turn.Turn.TheVariants.{Place, Pass, Ended}

-- a branch: the text of a move, and the diagram that it leads to
pub record Branch : Type 0 where
  pub text : List ℕ
  pub to : Diagram

-- a placement has its square's name and three blanks
abbrev pub square_text : ℕ → List ℕ
square_text s = name_of s ++ codes "   "

abbrev pub placing : Diagram → ℕ → Branch
placing d s = record { text = square_text s; to = placed d s }

abbrev pub passing : Diagram → Branch
passing d = record { text = codes "pass "; to = passed d }

-- the placements by square, or the pass
abbrev pub by_turn : Diagram → Turn → List Branch
by_turn d Place = map (placing d) (placements d)
by_turn d Pass = passing d ∷ []
by_turn d Ended = []

unfoldable pub moves_of : Diagram → List Branch
moves_of d = by_turn d (turn d)

-- how many discs a side has
abbrev pub count_of : Side → Diagram → ℕ
count_of m d = size (bit (discs m d))

-- the attacker's discs are at least as many more than the other side's as the aim says
abbrev pub reached : Side → ℕ → Diagram → Bool
reached attacker aim d = nat_le (count_of (opponent attacker) d + aim) (count_of attacker d)

-- who is to move
abbrev pub to_move : Side → Side → State
to_move X X = Attacker
to_move X O = Defender
to_move O X = Defender
to_move O O = Attacker

abbrev pub state_by : Side → ℕ → Diagram → Turn → State
state_by attacker aim d Place = to_move attacker d.mover
state_by attacker aim d Pass = to_move attacker d.mover
state_by attacker aim d Ended = cond (reached attacker aim d) Won NotWon

unfoldable pub state_of : Side → ℕ → Diagram → State
state_of attacker aim d = state_by attacker aim d (turn d)

-- each empty square takes a pass and a placement at most, and one pass more may be due
abbrev pub due : Turn → ℕ
due Place = 0
due Pass = 1
due Ended = 0

unfoldable pub rank_of : Diagram → ℕ
rank_of d = 2 * empties d + due (turn d)

-- the discs of X and of O, the mover, the attacker and the aim
abbrev pub side_number : Side → ℕ
side_number X = 0
side_number O = 1

abbrev pub code_of : Side → ℕ → Diagram → List ℕ
code_of attacker aim d = d.x ∷ d.o ∷ side_number d.mover ∷ side_number attacker ∷ aim ∷ []

-- equal codes mean equal discs, movers, attackers and aims
abbrev pub CodesPin : Type 0
CodesPin = (a b : Side) (m n : ℕ) (d e : Diagram) → code_of a m d ≡ code_of b n e → (a ≡ b) × (m ≡ n) × (d ≡ e)

abbrev pub branches : (Diagram → Tree) → List Branch → Moves
branches f [] = none
branches f (m ∷ ms) = move m.text (f m.to) (branches f ms)

-- a position over the positions that its moves lead to
abbrev pub root : Side → ℕ → Diagram → (Diagram → Tree) → Tree
root attacker aim d f = node (state_of attacker aim d) (rank_of d) (code_of attacker aim d) (branches f (moves_of d))

-- the tree down to a depth, and the whole tree
unfoldable pub grown : Side → ℕ → ℕ → Diagram → Tree
grown attacker aim zero d = nowhere
grown attacker aim (suc n) d = root attacker aim d (grown attacker aim n)

unfoldable pub tree : Side → ℕ → Diagram → Tree
tree attacker aim d = grown attacker aim (suc (rank_of d)) d

-- the tree of a position is its root over the trees of the positions that its moves lead to
abbrev pub Grows : Type 0
Grows = (attacker : Side) (aim : ℕ) (d : Diagram) → tree attacker aim d ≡ root attacker aim d (tree attacker aim)
