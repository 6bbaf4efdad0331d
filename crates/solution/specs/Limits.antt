-- The greatest length of a solution's buffer, in bytes.
use Rattle.std.specs.Prelude.{ℕ}

abbrev pub buffer_limit : ℕ
buffer_limit = 32768
