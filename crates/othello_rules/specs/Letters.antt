-- The bytes of a diagram's text.
use Rattle.std.specs.Prelude.{ℕ}

abbrev pub 'X' : ℕ
'X' = 88

abbrev pub 'O' : ℕ
'O' = 79

abbrev pub dot : ℕ
dot = 46

abbrev pub blank : ℕ
blank = 32
