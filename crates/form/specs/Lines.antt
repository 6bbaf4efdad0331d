-- A line and the text written into it.
use Rattle.std.specs.Prelude.{◌≡◌, ℕ, List, length}
use Rattle.form.specs.Forms.{padded}
use Rattle.form.specs.declared.line.Line.{Line}

pub record Holds (line : Line) (t : List ℕ) : Type 0 where
  pub bytes : line.bytes ≡ padded 87 t
  pub len : line.len ≡ length t
