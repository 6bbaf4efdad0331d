-- Worked texts.
use Rattle.std.specs.Prelude.{◌≡◌, ℕ, List, [], replicate, Some, None, Ok, Err, codes, Result, slice_set}
use Rattle.form.specs.Forms.{reading}
use Rattle.chess_text.specs.Letters.{man}
use Rattle.chess_text.specs.Diagrams.{written}
use Rattle.chess_text.specs.Reading.{square, form}
use Rattle.chess_attacks.specs.declared.men.Kind.TheVariants.{King, Pawn}
use Rattle.chess_attacks.specs.declared.men.Side.TheVariants.{White, Black}
use Rattle.chess_moves.specs.declared.diagram.Diagram.{Diagram}

abbrev pub ReadAs : List ℕ → Result Diagram ℕ → Type 0
ReadAs t r = reading form t ≡ r

abbrev pub two_kings : Diagram
two_kings = record {
  board = slice_set (slice_set (replicate 64 None) 4 (Some (man White King))) 60 (Some (man Black King));
  mover = White;
  passing = None;
}

-- a king a side, and the pawns of an en passant capture
abbrev pub two_pawns : Diagram
two_pawns = record {
  board = slice_set (slice_set (slice_set (slice_set (replicate 64 None) 4 (Some (man White King))) 60 (Some (man Black King))) 28 (Some (man White Pawn))) 27 (Some (man Black Pawn));
  mover = Black;
  passing = square 20;
}

pub record Samples : Type 0 where
  pub none : ReadAs [] (Err 0)
  pub nine : ReadAs (codes "9/8/8/8/8/8/8/8 w - -") (Err 0)
  pub two_digits : ReadAs (codes "44/8/8/8/8/8/8/8 w - -") (Err 1)
  pub long_row : ReadAs (codes "7k1/8/8/8/8/8/8/8 w - -") (Err 2)
  pub cut : ReadAs (codes "4k3/8") (Err 5)
  pub nine_rows : ReadAs (codes "8/8/8/8/8/8/8/8/8 w - -") (Err 15)
  pub rights : ReadAs (codes "4k3/8/8/8/8/8/8/4K3 w KQ -") (Err 22)
  pub two_blanks : ReadAs (codes "4k3/8/8/8/8/8/8/4K3 w  - -") (Err 22)
  pub row_four : ReadAs (codes "4k3/8/8/8/8/8/8/4K3 w - e4") (Err 25)
  pub more : ReadAs (codes "4k3/8/8/8/8/8/8/4K3 w - - 0 1") (Err 26)
  pub kings : ReadAs (codes "4k3/8/8/8/8/8/8/4K3 w - -  ") (Ok two_kings)
  pub kings_text : written two_kings ≡ codes "4k3/8/8/8/8/8/8/4K3 w - -"
  pub pawns : ReadAs (codes "4k3/8/8/8/3pP3/8/8/4K3 b - e3") (Ok two_pawns)
