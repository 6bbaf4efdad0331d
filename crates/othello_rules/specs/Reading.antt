-- A diagram's text, read byte by byte.
use Rattle.std.specs.Prelude.{ℕ, ◌+◌, ◌^◌, ◌<◌, cond, Some, None, Option, ◌==◌, bit_or, nat_lt}
use Rattle.form.specs.Forms.{Form}
use Rattle.othello_rules.specs.Letters.{'X', 'O', dot, blank}
use Rattle.othello_rules.specs.declared.side.Side.{Side}
use Rattle.othello_rules.specs.declared.side.Side.TheVariants.{X, O}
use Rattle.othello_rules.specs.declared.diagram.Diagram.{Diagram}
use Rattle.othello_rules.specs.declared.reader.Reader.{Reader}
use Rattle.othello_rules.specs.declared.reader.Awaits.{Awaits}
use Rattle.othello_rules.specs.declared.reader.Awaits.TheVariants.{Square, Gap, Mover, Blanks}

abbrev pub reader : Awaits → ℕ → ℕ → Reader
reader w x o = record { awaits = w; x = x; o = o }

-- what comes after a square
abbrev pub past : ℕ → Awaits
past s = cond (nat_lt s 63) (Square (s + 1)) Gap

-- where a byte leads
abbrev pub step : Awaits → ℕ → ℕ → ℕ → Option Reader
step (Square s) x o b =
    cond (b == 'X') (Some (reader (past s) (bit_or x (2 ^ s)) o))
    (cond (b == 'O') (Some (reader (past s) x (bit_or o (2 ^ s))))
    (cond (b == dot) (Some (reader (past s) x o)) None))
step Gap x o b = cond (b == blank) (Some (reader Mover x o)) None
step Mover x o b =
    cond (b == 'X') (Some (reader (Blanks X) x o))
    (cond (b == 'O') (Some (reader (Blanks O) x o)) None)
step (Blanks m) x o b = cond (b == blank) (Some (reader (Blanks m) x o)) None

-- what a text that ends here says
abbrev pub diagram : Side → ℕ → ℕ → Diagram
diagram m x o = record { x = x; o = o; mover = m }

abbrev pub said : Awaits → ℕ → ℕ → Option Diagram
said (Square s) x o = None
said Gap x o = None
said Mover x o = None
said (Blanks m) x o = Some (diagram m x o)

abbrev pub form : Form Reader Diagram
form = record {
  first = reader (Square 0) 0 0;
  next = λ r b. step r.awaits r.x r.o b;
  content = λ r. said r.awaits r.x r.o;
}

-- squares are counted to 63
abbrev pub OnBoard : Awaits → Type 0
OnBoard (Square s) = s < 64
OnBoard Gap = Unit {0}
OnBoard Mover = Unit {0}
OnBoard (Blanks m) = Unit {0}

abbrev pub IsFit : Reader → Type 0
IsFit r = OnBoard r.awaits
