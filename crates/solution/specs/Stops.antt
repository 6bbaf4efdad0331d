-- How a solution ends, by the word of that ending.
use Rattle.std.specs.Prelude.{ℕ, List, Ok, Err, Result, codes}
use Rattle.solution.specs.declared.stop.Stop.{Stop}
use Rattle.solution.specs.declared.stop.Stop.TheVariants.{Spent, Cut}

abbrev pub stop_word : Stop → List ℕ
stop_word Spent = codes "spent"
stop_word Cut = codes "cut"

abbrev pub end_word : Result (Unit {0}) Stop → List ℕ
end_word (Ok u) = codes "done"
end_word (Err stop) = stop_word stop
