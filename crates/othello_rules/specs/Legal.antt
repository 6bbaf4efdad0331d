-- A placement in the words of the rules: where it is legal, what it leaves on each square, and which ones are listed. So the turn, too.
use Rattle.std.specs.Prelude.{◌≡◌, ℕ, ◌^◌, ◌<◌, true, false, List, length, ◌≢◌, ◌↔◌, Decides, slice_index}
use Rattle.board.specs.Masks.{bit, member}
use Rattle.othello_rules.specs.Rules.{Squares}
use Rattle.othello_rules.specs.Turning.{Flips}
use Rattle.othello_rules.specs.Diagrams.{opponent, discs}
use Rattle.othello_rules.specs.declared.diagram.Diagram.{Diagram}
use Rattle.othello_rules.specs.declared.side.Side.{Side}
use Rattle.othello_rules.specs.declared.turn.Turn.{Turn}
use Rattle.othello_rules.specs.declared.turn.Turn.TheVariants.{Place, Pass, Ended}

-- the squares of a side's discs
abbrev pub has : Side → Diagram → Squares
has m d = bit (discs m d)

-- no side has a disc on s
abbrev pub IsEmpty : Diagram → ℕ → Type 0
IsEmpty d s = (m : Side) → has m d s ≡ false

-- the disc on s is the side's
abbrev pub Holds : Side → Diagram → ℕ → Type 0
Holds m d s = (has m d s ≡ true) × (has (opponent m) d s ≡ false)

-- a disc of the side on s turns the one on q: in some direction q lies between s and a disc of the side, with hostile discs alone between these
abbrev pub Turns : Side → Diagram → ℕ → ℕ → Type 0
Turns m d s q = Flips (has m d) (has (opponent m) d) s q

-- the side may place a disc on s: the square is empty, and the disc turns another
pub record Legal (m : Side) (d : Diagram) (s : ℕ) : Type 0 where
  pub on_board : s < 64
  pub free : IsEmpty d s
  pub turns : (q : ℕ) × Turns m d s q

abbrev pub CanPlace : Side → Diagram → Type 0
CanPlace m d = (s : ℕ) × Legal m d s

-- the mover has to pass: it can place nowhere, and the other side can
abbrev pub MustPass : Diagram → Type 0
MustPass d = (CanPlace d.mover d → ⊥) × CanPlace (opponent d.mover) d

-- the game is over: neither side can place
abbrev pub IsOver : Diagram → Type 0
IsOver d = (m : Side) → CanPlace m d → ⊥

-- e is what d becomes by a disc of its mover on s
pub record Leaves (d : Diagram) (s : ℕ) (e : Diagram) : Type 0 where
  -- the mover has the square, and each one that the disc turns
  pub placed : Holds d.mover e s
  pub turned : (q : ℕ) → Turns d.mover d s q → Holds d.mover e q
  -- every other square is as it was, and no disc is off the board
  pub rest : (q : ℕ) → q < 64 → q ≢ s → (Turns d.mover d s q → ⊥) → (m : Side) → has m e q ≡ has m d q
  pub on_board : (m : Side) → discs m e < 2 ^ 64
  -- the other side is to move
  pub mover : e.mover ≡ opponent d.mover

-- e is what d becomes by a pass: the discs stay, and the other side is to move
pub record Passes (d e : Diagram) : Type 0 where
  pub stay : (m : Side) → discs m e ≡ discs m d
  pub mover : e.mover ≡ opponent d.mover

-- the squares of a list are those where the mover may place a disc, no other, and they rise
pub record Lists (d : Diagram) (l : List ℕ) : Type 0 where
  pub legal : (s : ℕ) → Decides (member s l) (Legal d.mover d s)
  pub rising : (i j : ℕ) → i < j → j < length l → slice_index l i < slice_index l j

-- the mover places where it can, and else it passes or the game has ended
pub record HasTurn (d : Diagram) (t : Turn) : Type 0 where
  pub place : (t ≡ Place) ↔ CanPlace d.mover d
  pub pass : (t ≡ Pass) ↔ MustPass d
  pub ended : (t ≡ Ended) ↔ IsOver d

-- of a placement on the board, no other diagram is left
abbrev pub LeavesOne : Type 0
LeavesOne = (d : Diagram) (s : ℕ) → s < 64 → (e f : Diagram) → Leaves d s e → Leaves d s f → e ≡ f
