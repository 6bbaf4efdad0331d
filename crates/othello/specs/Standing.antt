-- A position of an ending in the words of the rules: its state, its rank, its moves and what they lead to.
use Rattle.std.specs.Prelude.{◌≡◌, ℕ, ◌+◌, ◌*◌, ◌≤◌, true, false, List, map, length, ◌↔◌, Some, slice_index_or}
use Rattle.std.specs.List.{slice_get}
use Rattle.game.specs.Tree.{Tree, state, rank, next, words, ended, nowhere}
use Rattle.game.specs.declared.state.State.{State}
use Rattle.game.specs.declared.state.State.TheVariants.{Won, Attacker}
use Rattle.othello_rules.specs.Diagrams.{opponent, empties}
use Rattle.othello_rules.specs.Legal.{MustPass, IsOver}
use Rattle.othello_rules.specs.declared.diagram.Diagram.{Diagram}
use Rattle.othello_rules.specs.declared.side.Side.{Side}
use Rattle.othello.specs.Endings.{count_of, tree}
use Rattle.othello.specs.Moves.{Move, text_of, Becomes, HasMoves}

-- the side's discs are at least as many more than the other side's as the aim says
abbrev pub Reaches : Side → ℕ → Diagram → Type 0
Reaches m aim d = count_of (opponent m) d + aim ≤ count_of m d

-- The position has ended exactly when neither side can place. It is won exactly when also the margin is at least the aim.
-- Until it has ended, the state says who is to move.
pub record HasState (attacker : Side) (aim : ℕ) (d : Diagram) (s : State) : Type 0 where
  pub over : (ended s ≡ true) ↔ IsOver d
  pub won : (s ≡ Won) ↔ (IsOver d × Reaches attacker aim d)
  pub turn : ended s ≡ false → (s ≡ Attacker) ↔ (d.mover ≡ attacker)

-- twice the empty squares, and one more where the mover has to pass
pub record HasRank (d : Diagram) (n : ℕ) : Type 0 where
  pub passing : MustPass d → n ≡ 2 * empties d + 1
  pub others : (MustPass d → ⊥) → n ≡ 2 * empties d

-- t is the position of d: so are its state and its rank, its moves' texts are those of d's moves, and each of these leads to a position
-- of what the move makes of d
pub data IsPosition (attacker : Side) (aim : ℕ) : Diagram → Tree → Type 0 where
  stands : {d : Diagram} {t : Tree} → HasState attacker aim d (state t) → HasRank d (rank t)
      → (vs : List Move) → HasMoves d vs → words t ≡ map text_of vs → length (next t) ≡ length vs
      → ((i : ℕ) (v : Move) → Some v ≡ slice_get vs i → (e : Diagram) → Becomes d v e → IsPosition attacker aim e (slice_index_or (next t) i nowhere))
      → IsPosition attacker aim d t

abbrev pub TreesArePositions : Type 0
TreesArePositions = (attacker : Side) (aim : ℕ) (d : Diagram) → IsPosition attacker aim d (tree attacker aim d)
