-- A position of the game, in the words of the Laws of Chess: its state, its moves, and what they lead to.
use Rattle.std.specs.Prelude.{◌≡◌, ℕ, zero, suc, true, false, List, [], map, length, ◌⊎◌, ◌↔◌, Some, slice_index_or}
use Rattle.std.specs.List.{slice_get}
use Rattle.game.specs.Tree.{Tree, state, rank, next, words, ended, nowhere}
use Rattle.game.specs.declared.state.State.{State}
use Rattle.game.specs.declared.state.State.TheVariants.{Won, Attacker}
use Rattle.chess_attacks.specs.declared.men.Side.{Side}
use Rattle.chess_moves.specs.declared.diagram.Diagram.{Diagram}
use Rattle.chess_moves.specs.declared.step.Move.{Move}
use Rattle.chess_moves.specs.Leaves.{Leaves}
use Rattle.chess_rules.specs.Lawful.{Lawful}
use Rattle.chess_moves.specs.Legal.{Lists}
use Rattle.chess.specs.Trees.{tree, text_of}
use Rattle.chess.specs.Mates.{IsStuck, IsMated}

-- The state of a diagram with n plies left. It is won exactly when the side to move is not the attacker, is in check and has no
-- legal move; it has ended exactly when the side to move has no legal move or no ply is left; else it says who is to move.
pub record HasState (a : Side) (n : ℕ) (d : Diagram) (s : State) : Type 0 where
  pub won : (s ≡ Won) ↔ IsMated a d
  pub over : (ended s ≡ true) ↔ (IsStuck d ⊎ (n ≡ 0))
  pub turn : ended s ≡ false → (s ≡ Attacker) ↔ (d.mover ≡ a)

-- The moves are exactly the legal ones in their order: the texts are theirs, and each leads to what `later` says of what it leaves.
pub record HasMoves (d : Diagram) (later : Diagram → Tree → Type 0) (t : Tree) : Type 0 where
  pub list : List Move
  pub legal : Lists d list
  pub texts : words t ≡ map text_of list
  pub size : length (next t) ≡ length list
  pub leads : (i : ℕ) (v : Move) → Some v ≡ slice_get list i → (e : Diagram) → Leaves d v e → later e (slice_index_or (next t) i nowhere)

-- A position with n plies left. It has its state and its plies; one that has ended has no move, and `later` says what the moves of any other
-- lead to.
pub record IsPositionWith (a : Side) (n : ℕ) (d : Diagram) (later : Diagram → Tree → Type 0) (t : Tree) : Type 0 where
  pub stands : HasState a n d (state t)
  pub plies : rank t ≡ n
  pub none : ended (state t) ≡ true → (next t ≡ []) × (words t ≡ [])
  pub moves : ended (state t) ≡ false → HasMoves d later t

-- each move leads to a position with one ply fewer; with no ply left there is none
abbrev pub IsPosition : Side → ℕ → Diagram → Tree → Type 0
IsPosition a zero d t = IsPositionWith a 0 d (λ _ _. ⊥) t
IsPosition a (suc n) d t = IsPositionWith a (suc n) d (IsPosition a n) t

abbrev pub TreesArePositions : Type 0
TreesArePositions = (a : Side) (n : ℕ) (d : Diagram) → Lawful d → IsPosition a n d (tree a n d)
