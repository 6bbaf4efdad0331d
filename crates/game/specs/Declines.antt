-- The causes for which a call is declined, by number: what is promised of a cause is its number. Calls check them in the order of the numbers.
use Rattle.std.specs.Prelude.{◌≡◌, ℕ}
use Rattle.game.specs.declared.decline.Decline.{Decline}
use Rattle.game.specs.declared.decline.Decline.TheVariants.{Budget, Records, Buffer, NotAttacker, MoveNumber, TakeBack, Aim, Form, Unlawful, Empties, Own}

abbrev pub number : Decline → ℕ
number Budget = 1
number Records = 2
number Buffer = 3
number NotAttacker = 4
number MoveNumber = 5
number TakeBack = 6
number Aim = 7
number Form = 8
number Unlawful = 9
number Empties = 10
number (Own c) = c.number

-- causes of the same number are the same
abbrev pub NumberTells : Type 0
NumberTells = (d e : Decline) → number d ≡ number e → d ≡ e
