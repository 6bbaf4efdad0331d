-- Squares and their numbers.
use Rattle.std.proofs.Common.{◌≡◌, ℕ, ◌<◌, Some, None, Option, sym, refl, ap, ◌∙◌, arith}
use Rattle.board.specs.declared.square.Square.{Square}
use Rattle.board.proofs.Same.{same_square}
use Rattle.chess_attacks.specs.Lists.{numbered}
use Rattle.chess_moves.specs.declared.step.Promotion.{Promotion}
use Rattle.chess_moves.specs.Pawns.{square, squared}
use Rattle.chess_moves.specs.Moves.{a_move}

pub square-number : (n : ℕ) → n < 64 → (square n).number ≡ n
square-number n h = omega arith

pub square-is : (s : Square) → square s.number ≡ s
square-is s = same_square (square s.number) s (square-number s.number s.ok)

pub squared-is : (o : Option Square) (u : Option ℕ) → numbered o ≡ u → o ≡ squared u
squared-is None None e = refl
squared-is None (Some s) e = cc
squared-is (Some s) None e = cc
squared-is (Some s) (Some n) e = let same : s.number ≡ n = cc in ap Some (sym (square-is s) ∙ ap square same)

pub numbered_is : (u : Option ℕ) → ((n : ℕ) → u ≡ Some n → n < 64) → numbered (squared u) ≡ u
numbered_is None h = refl
numbered_is (Some n) h = ap Some (square-number n (h n refl))

pub move-is : (f t : Square) (k : Option Promotion) → record { from = f; to = t; promotion = k } ≡ a_move f.number t.number k
move-is f t k = λ i. record { from = sym (square-is f) i; to = sym (square-is t) i; promotion = k }
