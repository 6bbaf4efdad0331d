-- What a game may need at most: the moves that can be played one after the other, and the pair records that a trial or a solution is lent at least.
-- And how many causes of a decline have a name: their numbers are 1 to this.
use Rattle.std.specs.Prelude.{ℕ}

abbrev pub depth_limit : ℕ
depth_limit = 32

abbrev pub records_needed : ℕ
records_needed = 6144

abbrev pub named_causes : ℕ
named_causes = 10
