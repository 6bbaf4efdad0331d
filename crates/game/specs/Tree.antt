-- A position by all that can be seen of it: its state, its rank, its code, and for each move, in order,
-- the move's text and the position that it leads to. Ranks fall, so this is a finite tree.
use Rattle.std.specs.Prelude.{ℕ, Bool, true, false, ◌&&◌, ◌||◌, List, [], ◌∷◌}
use Rattle.game.specs.declared.state.State.{State}
use Rattle.game.specs.declared.state.State.TheVariants.{Won, NotWon, Attacker, Defender}

mutual
  pub data Tree : Type 0 where
    node : State → ℕ → List ℕ → Moves → Tree

  pub data Moves : Type 0 where
    none : Moves
    move : List ℕ → Tree → Moves → Moves

abbrev pub state : Tree → State
state (node s r c m) = s

abbrev pub rank : Tree → ℕ
rank (node s r c m) = r

abbrev pub code : Tree → List ℕ
code (node s r c m) = c

abbrev pub moves : Tree → Moves
moves (node s r c m) = m

-- the positions that the moves lead to and the moves' texts, by move number
abbrev pub successors : Moves → List Tree
successors none = []
successors (move x t m) = t ∷ successors m

abbrev pub texts : Moves → List (List ℕ)
texts none = []
texts (move x t m) = x ∷ texts m

abbrev pub next : Tree → List Tree
next t = successors (moves t)

abbrev pub words : Tree → List (List ℕ)
words t = texts (moves t)

-- what stands where there is no successor
abbrev pub nowhere : Tree
nowhere = node NotWon 0 [] none

abbrev pub ended : State → Bool
ended Won = true
ended NotWon = true
ended Attacker = false
ended Defender = false

-- The value of a position by minimax: an ended one has the value of its state; with the attacker to move
-- it is won exactly when some successor is, with the defender to move exactly when every successor is.
unfoldable mutual
  pub minimax : Tree → Bool
  minimax (node Won r c m) = true
  minimax (node NotWon r c m) = false
  minimax (node Attacker r c m) = some_won m
  minimax (node Defender r c m) = all_won m

  pub some_won : Moves → Bool
  some_won none = false
  some_won (move x t m) = minimax t || some_won m

  pub all_won : Moves → Bool
  all_won none = true
  all_won (move x t m) = minimax t && all_won m

-- what a reading rule makes of a text: a position, or the number of the cause for which it is declined and a place in the text
pub data Reading : Type 0 where
  position : Tree → Reading
  refused : ℕ → ℕ → Reading
