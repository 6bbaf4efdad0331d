-- The square of a number.
use Rattle.std.proofs.Common.{◌≡◌, ℕ, ◌-◌, ◌<◌, ◌≤◌, Bool, true, false, T, ltb, ◌⊎◌, inl, inr, Some, None, Option, sym, refl, ap, ◌∙◌, arith, ltb→lt, MatchOption}
use Rattle.std.proofs.lemmas.Bool.Decides.{nat_tests}
use Rattle.board.specs.Squares.{square_at, file, row}
use Rattle.board.specs.declared.square.Square.{Square}
use Rattle.board.proofs.Same.{same_square}
use Rattle.chess_text.specs.Reading.{square, square_if, reader, step}
use Rattle.chess_attacks.specs.Men.{Squares as Board}
use Rattle.chess_attacks.specs.declared.men.Side.{Side}
use Rattle.chess_text.specs.declared.reader.Awaits.TheVariants.{PassingRow, Blanks}

pub square-is : (s : Square) → square s.number ≡ Some s
square-is s = at (ltb s.number 64) (ltb→lt s.number 64) (let h = s.ok in grind (arith, nat_tests))
  where
    at : (b : Bool) (h : T b → s.number < 64) → b ≡ true → square_if s.number b h ≡ Some s
    at true h e = ap Some (same_square (record { number = s.number; ok = h tt }) s refl)
    at false h e = let z : ◌≡◌ {A = ℕ} 0 1 = cc in absurd (omega arith)

-- a square of a number
pub square-of : (s : Square) (n : ℕ) → s.number ≡ n → Some s ≡ square n
square-of s n e = sym (square-is s) ∙ ap square e

-- the square at a file and a row
pub record At (f r : ℕ) : Type 0 where
  pub here : Square
  pub read : square (square_at f r) ≡ Some here
  pub file_is : file here.number ≡ f
  pub row_is : row here.number ≡ r

pub at : (f r : ℕ) → f < 8 → r < 8 → At f r
at f r h k =
    let s : Square = record { number = square_at f r; ok = omega arith } in
    record { here = s; read = square-is s; file_is = omega arith; row_is = omega arith }

-- what a call answers that gives the square, or none outside the board
pub found : (f r : ℕ) (o : Option Square) → f < 8 → r < 8
    → MatchOption o (f < 8 → 8 ≤ r) (λ s. (f < 8) × (r < 8) × (s.number ≡ square_at f r)) → o ≡ square (square_at f r)
found f r None h k c = absurd (let z = c h in let y : ⊥ = omega arith in y)
found f r (Some s) h k c = square-of s (square_at f r) c.2

-- a digit 3 or 6 after a file names the en passant square
pub passed : (b : Board) (m : Side) (p : Option Square) (f c : ℕ) (o : Option Square) → f < 8 → (c ≡ 51) ⊎ (c ≡ 54)
    → MatchOption o (f < 8 → 8 ≤ c - 49) (λ s. (f < 8) × (c - 49 < 8) × (s.number ≡ square_at f (c - 49)))
    → step (PassingRow f) b m p c ≡ Some (reader Blanks b m o)
passed b m p f c o h (inl e) k = rw (e, found f 2 o h (omega arith) (rw e at k)) refl
passed b m p f c o h (inr e) k = rw (e, found f 5 o h (omega arith) (rw e at k)) refl
