-- The value of each ending: the word in which it is printed.
use Rattle.std.specs.Prelude.{◌≡◌, ℕ, List, codes}
use Rattle.solution_laws.specs.declared.ending.Ending.{Ending}
use Rattle.solution_laws.specs.declared.ending.Ending.TheVariants.{Done, Spent, Cut}

abbrev pub word : Ending → List ℕ
word Done = codes "done"
word Spent = codes "spent"
word Cut = codes "cut"

-- endings of the same word are the same
abbrev pub EndingTells : Type 0
EndingTells = (e f : Ending) → word e ≡ word f → e ≡ f
