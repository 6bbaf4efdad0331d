use Rattle.std.proofs.Common.{refl}
use Rattle.form.specs.Forms.{reading_from}
use Rattle.chess_text.specs.Letters.{man_of, side_of, run_of, file_of}
use Rattle.chess_text.specs.Diagrams.{cells, row_text, below}
use Rattle.chess_text.specs.Reading.{empty}
use Rattle.chess_text.proofs.samples_stand.Goals as goal

pub returns : goal.returns
unfolding reading_from man_of side_of run_of file_of cells row_text below empty
returns c = record {
  none = refl;
  nine = refl;
  two_digits = refl;
  long_row = refl;
  cut = refl;
  nine_rows = refl;
  rights = refl;
  two_blanks = refl;
  row_four = refl;
  more = refl;
  kings = refl;
  kings_text = refl;
  pawns = refl;
}
