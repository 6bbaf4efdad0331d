-- How the program says the outcome of a run.
use Rattle.std.specs.Prelude.{◌≡◌, Some, None, Option}
use Rattle.search.specs.declared.frame.Given.{Given}
use Rattle.table.specs.declared.pair.Pair.{Pair}
use Rattle.search_laws.specs.Run.{Outcome, stopped, gave}
use Rattle.search_laws.specs.Trial.{decided}

-- stopped, or with a decided pair, of which the value is said, and the expansions left
abbrev pub Tells : {A : Type 0} → Option Given → A → Outcome A → Type 0
Tells None standing o = o ≡ stopped standing
Tells (Some g) standing o = (p : Pair) × (decided p ≡ Some g.won) × (o ≡ gave standing g.left p)
