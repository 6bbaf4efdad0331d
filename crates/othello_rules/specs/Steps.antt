-- The states of the reader: those on the board stay there, and each is live.
use Rattle.std.specs.Prelude.{◌≡◌, ℕ, zero, suc, ◌+◌, ◌-◌, ◌<◌, Bool, true, false, cond, ltb, [], ◌∷◌, Some, Option, ◌==◌, nat_lt, refl}
use Rattle.std.proofs.Common.{sym, ap, ◌∙◌, subst, arith}
use Rattle.std.proofs.lemmas.Bool.Decides.{nat_tests}
use Rattle.form.specs.Forms.{led, Live, Lively}
use Rattle.form.proofs.Departing.{never}
use Rattle.othello_rules.specs.Letters.{'X', 'O', dot, blank}
use Rattle.othello_rules.specs.Reading.{reader, past, step, diagram, form, OnBoard, IsFit}
use Rattle.othello_rules.specs.declared.side.Side.TheVariants.{X}
use Rattle.othello_rules.specs.declared.reader.Reader.{Reader}
use Rattle.othello_rules.specs.declared.reader.Awaits.{Awaits}
use Rattle.othello_rules.specs.declared.reader.Awaits.TheVariants.{Square, Gap, Mover, Blanks}

-- where a test leads to a state, and else further
by_test : (P : Reader → Type 0) (c : Bool) (v : Reader) (o : Option Reader) (u : Reader)
    → cond c (Some v) o ≡ Some u → P v → (o ≡ Some u → P u) → P u
by_test P true v o u e p f = subst P (let k : v ≡ u = cc in k) p
by_test P false v o u e p f = f e

past_fits : (s : ℕ) → s < 64 → OnBoard (past s)
past_fits s h = elim (nat_lt s 63) as (λ b. b ≡ nat_lt s 63 → OnBoard (cond b (Square (s + 1)) Gap))
    [ true ↦ λ e. grind (arith, nat_tests) | false ↦ λ e. tt ] refl

step_fits : (w : Awaits) (x o b : ℕ) (u : Reader) → OnBoard w → step w x o b ≡ Some u → IsFit u
step_fits (Square s) x o b u h e =
    by_test IsFit (b == 'X') _ _ u e (past_fits s h)
    (λ k. by_test IsFit (b == 'O') _ _ u k (past_fits s h)
    (λ l. by_test IsFit (b == dot) _ _ u l (past_fits s h) (never u)))
step_fits Gap x o b u h e = by_test IsFit (b == blank) _ _ u e tt (never u)
step_fits Mover x o b u h e =
    by_test IsFit (b == 'X') _ _ u e tt (λ k. by_test IsFit (b == 'O') _ _ u k tt (never u))
step_fits (Blanks m) x o b u h e = by_test IsFit (b == blank) _ _ u e tt (never u)

live_square : (n s x o : ℕ) → s + n ≡ 63 → Live form (reader (Square s) x o)
unfolding led
live_square zero s x o h =
    let e : s ≡ 63 = omega arith in
    subst (λ (k : ℕ). Live form (reader (Square k) x o)) (sym e) (dot ∷ blank ∷ 'X' ∷ [], (reader (Blanks X) x o, (diagram X x o, (refl, refl))))
live_square (suc n) s x o h =
    let r = live_square n (s + 1) x o (omega arith) in
    let e : ltb s 63 ≡ true = grind (arith, nat_tests) in
    (dot ∷ r.0, (r.1.0, (r.1.1.0, (ap (λ (b : Bool). led form (reader (cond b (Square (s + 1)) Gap) x o) r.0) e ∙ r.1.1.1.0, r.1.1.1.1))))

live : (w : Awaits) (x o : ℕ) → OnBoard w → Live form (reader w x o)
unfolding led
live (Square s) x o h = live_square (63 - s) s x o (omega arith)
live Gap x o h = (blank ∷ 'X' ∷ [], (reader (Blanks X) x o, (diagram X x o, (refl, refl))))
live Mover x o h = ('X' ∷ [], (reader (Blanks X) x o, (diagram X x o, (refl, refl))))
live (Blanks m) x o h = ([], (reader (Blanks m) x o, (diagram m x o, (refl, refl))))

pub lively : Lively form IsFit
lively = record {
  first_fits = omega arith;
  next_fits = λ s b u h e. step_fits s.awaits s.x s.o b u h e;
  lives = λ s h. live s.awaits s.x s.o h;
}
