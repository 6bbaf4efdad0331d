-- Diagrams: the discs of the two sides and the side to move, and what a placement and a pass make of one.
use Rattle.std.specs.Prelude.{ℕ, Bool, cond, not, ◌&&◌, ◌||◌, List, [], Some, None, filter, Option, ◌==◌}
use Rattle.std.specs.List.{range_with_len}
use Rattle.board.specs.Masks.{bit, member, word, size}
use Rattle.othello_rules.specs.Rules.{Squares, flipped, legal, any}
use Rattle.othello_rules.specs.declared.diagram.Diagram.{Diagram}
use Rattle.othello_rules.specs.declared.side.Side.{Side}
use Rattle.othello_rules.specs.declared.side.Side.TheVariants.{X, O}
use Rattle.othello_rules.specs.declared.turn.Turn.{Turn}
use Rattle.othello_rules.specs.declared.turn.Turn.TheVariants.{Place, Pass, Ended}

abbrev pub opponent : Side → Side
opponent X = O
opponent O = X

-- of what X has and what O has, the side's own
abbrev pub of_side : {T : Type 0} → Side → T → T → T
of_side X x o = x
of_side O x o = o

-- the word of a side's discs
abbrev pub discs : Side → Diagram → ℕ
discs m d = of_side m d.x d.o

-- the side that has a disc on s
abbrev pub disc_at : Diagram → ℕ → Option Side
disc_at d s = cond (bit d.x s) (Some X) (cond (bit d.o s) (Some O) None)

-- the squares of the mover's discs, of the hostile ones, and those with no disc
abbrev pub own : Diagram → Squares
own d = bit (discs d.mover d)

abbrev pub other : Diagram → Squares
other d = bit (discs (opponent d.mover) d)

abbrev pub empty : Diagram → Squares
empty d s = not (bit d.x s || bit d.o s)

unfoldable pub empties : Diagram → ℕ
empties d = size (empty d)

-- the squares that hold an own disc once one was placed on s, and those that then hold a hostile one
abbrev pub own_after : Squares → Squares → ℕ → Squares
own_after own other s q = own q || (s == q || member q (flipped own other s))

abbrev pub other_after : Squares → Squares → ℕ → Squares
other_after own other s q = other q && not (member q (flipped own other s))

-- after a move of the side m: its discs, the hostile discs, and the other side to move
abbrev pub moved : Side → ℕ → ℕ → Diagram
moved m mine theirs = record { x = of_side m mine theirs; o = of_side m theirs mine; mover = opponent m }

-- the discs that a disc of the mover on s turns: none where s is not empty
abbrev pub turns : Diagram → ℕ → List ℕ
turns d s = cond (own d s || other d s) [] (flipped (own d) (other d) s)

-- whether the mover may place a disc on s, and the diagram after it
abbrev pub placeable : Diagram → ℕ → Bool
placeable d s = legal (own d) (other d) s

abbrev pub placed : Diagram → ℕ → Diagram
placed d s = moved d.mover (word 64 (own_after (own d) (other d) s)) (word 64 (other_after (own d) (other d) s))

-- the squares where the mover may place a disc, in rising order
unfoldable pub placements : Diagram → List ℕ
placements d = filter (placeable d) (range_with_len 0 64)

-- the same discs, with the other side to move
abbrev pub passed : Diagram → Diagram
passed d = record { x = d.x; o = d.o; mover = opponent d.mover }

-- a side with no placement passes, where the other side has one; else the game has ended
abbrev pub turn : Diagram → Turn
turn d = cond (any (placements d)) Place (cond (any (placements (passed d))) Pass Ended)
