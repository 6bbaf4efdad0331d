-- How many men and how many kings a side has, and how many moves that allows.
use Rattle.std.specs.Prelude.{ℕ, zero, suc, ◌+◌, ◌≤◌, Bool, cond, length, Option}
use Rattle.chess_attacks.specs.declared.men.Man.{Man}
use Rattle.chess_attacks.specs.declared.men.Side.{Side}
use Rattle.chess_attacks.specs.Men.{Squares, on, of, king_of}
use Rattle.chess_moves.specs.declared.diagram.Diagram.{Diagram}
use Rattle.chess_moves.specs.Moves.{legal_moves}

-- how many of the first n squares pass a test of what stands there
unfoldable pub tally : (Option Man → Bool) → Squares → ℕ → ℕ
tally p b zero = 0
tally p b (suc n) = tally p b n + cond (p (on b n)) 1 0

abbrev pub men : Squares → Side → ℕ
men b a = tally (of a) b 64

abbrev pub kings : Squares → Side → ℕ
kings b a = tally (king_of a) b 64

-- a side of at most sixteen men, of which one at least is a king, has at most 413 moves
abbrev pub FewMoves : Type 0
FewMoves = (d : Diagram) → men d.board d.mover ≤ 16 → 1 ≤ kings d.board d.mover → length (legal_moves d) ≤ 413
