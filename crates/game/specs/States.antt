-- The words of the states.
use Rattle.std.specs.Prelude.{ℕ, List, codes}
use Rattle.game.specs.declared.state.State.{State}
use Rattle.game.specs.declared.state.State.TheVariants.{Won, NotWon, Attacker, Defender}

abbrev pub word : State → List ℕ
word Won = codes "won"
word NotWon = codes "not-won"
word Attacker = codes "attacker"
word Defender = codes "defender"
