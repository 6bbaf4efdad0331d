-- The number of a cause tells the cause.
use Rattle.std.proofs.Common.{◌≡◌, ◌<◌, ℕ, zero, suc, ◌-◌, sym, refl, ap, ◌∙◌, arith}
use native.Mathlib.Bridge.{le_prop}
use mathlib.Core.HLevel.{is_prop→PathP}
use Rattle.game.specs.declared.decline.Decline.{Decline}
use Rattle.game.specs.declared.decline.Decline.TheVariants.{Budget, Records, Buffer, NotAttacker, MoveNumber, TakeBack, Aim, Form, Unlawful, Empties, Own}
use Rattle.game.specs.declared.own_cause.OwnCause.{OwnCause}
use Rattle.game.specs.Declines.{number}

-- a game's own cause, of the numbers from 11 on
abbrev own : ℕ → OwnCause
own n = record { number = suc (suc (suc (suc (suc (suc (suc (suc (suc (suc (suc n)))))))))); above = omega arith }

-- the cause of a number, from 1 on
abbrev numbered : ℕ → Decline
numbered zero = Budget
numbered (suc zero) = Budget
numbered (suc (suc zero)) = Records
numbered (suc (suc (suc zero))) = Buffer
numbered (suc (suc (suc (suc zero)))) = NotAttacker
numbered (suc (suc (suc (suc (suc zero))))) = MoveNumber
numbered (suc (suc (suc (suc (suc (suc zero)))))) = TakeBack
numbered (suc (suc (suc (suc (suc (suc (suc zero))))))) = Aim
numbered (suc (suc (suc (suc (suc (suc (suc (suc zero)))))))) = Form
numbered (suc (suc (suc (suc (suc (suc (suc (suc (suc zero))))))))) = Unlawful
numbered (suc (suc (suc (suc (suc (suc (suc (suc (suc (suc zero)))))))))) = Empties
numbered (suc (suc (suc (suc (suc (suc (suc (suc (suc (suc (suc n))))))))))) = Own (own n)

same_own : (c d : OwnCause) → c.number ≡ d.number → c ≡ d
same_own c d e = λ i. record {
  number = e i;
  above = is_prop→PathP (λ j. 10 < e j) (λ j. le_prop {n = 11} {m = e j}) c.above d.above i;
}

back_own : (c : OwnCause) → numbered c.number ≡ Own c
back_own c =
    let above = c.above in
    let e : c.number ≡ (own (c.number - 11)).number = omega (arith, above) in
    ap numbered e ∙ ap Own (same_own (own (c.number - 11)) c (sym e))

back : (d : Decline) → numbered (number d) ≡ d
back Budget = refl
back Records = refl
back Buffer = refl
back NotAttacker = refl
back MoveNumber = refl
back TakeBack = refl
back Aim = refl
back Form = refl
back Unlawful = refl
back Empties = refl
back (Own c) = back_own c

pub number_tells : (d e : Decline) → number d ≡ number e → d ≡ e
number_tells d e n = sym (back d) ∙ (ap numbered n ∙ back e)
