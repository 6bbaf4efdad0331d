-- The value of each verdict: the word in which it is printed.
use Rattle.std.specs.Prelude.{◌≡◌, ℕ, Bool, true, false, List, codes}
use Rattle.search_laws.specs.declared.answer.Verdict.{Verdict}
use Rattle.search_laws.specs.declared.answer.Verdict.TheVariants.{Won, NotWon, Spent}

abbrev pub word : Verdict → List ℕ
word Won = codes "won"
word NotWon = codes "not-won"
word Spent = codes "spent"

-- the word of a value
abbrev pub value_word : Bool → List ℕ
value_word true = codes "won"
value_word false = codes "not-won"

-- verdicts of the same word are the same
abbrev pub VerdictTells : Type 0
VerdictTells = (v w : Verdict) → word v ≡ word w → v ≡ w
