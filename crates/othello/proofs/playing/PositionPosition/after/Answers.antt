use Rattle.std.proofs.Common.{ℕ, ◌<◌, ◌≤◌, List, length, get_or, ap, ◌∙◌, arith}
use Rattle.othello_rules.specs.Lists.{listed}
use Rattle.othello_rules.specs.Diagrams.{placements}
use Rattle.othello_rules.specs.declared.turn.Turn.TheVariants.{Pass, Ended}
use Rattle.othello.specs.Listed.{count_turn}
use Rattle.othello.proofs.Led.{past, led, led_pass}
use Rattle.othello.proofs.Told.{past_told, place_told, pass_told, other_told, over_told}
use Rattle.othello.proofs.playing.PositionPosition.after.Goals as goal

pub returns-in_ok-square-in-Place : goal.returns-in_ok-square-in-Place
returns-in_ok-square-in-Place c =
    let p = c.args.self.now in
    let i = c.args.i in
    let g = c.in_ok-square-in-Place.ensures in
    let e = c.in-Place.ensures.exact in
    let l = c.placements.ensures.exact in
    let s = c.in_ok-square-in-Place.square.number in
    let h : i < length (placements p.diagram) = omega (arith, g.0, ap length l) in
    record {
      exact = led p i e (listed c.placements.result) l s g.0 g.1 c.place.result c.place.ensures;
      meaning = place_told p i e s h (g.1 ∙ ap (λ (xs : List ℕ). get_or xs i 0) l) c.place.result c.place.ensures;
    }

pub returns-in_err-square-in-Place : goal.returns-in_err-square-in-Place
returns-in_err-square-in-Place c =
    let p = c.args.self.now in
    let i = c.args.i in
    let e = c.in-Place.ensures.exact in
    let l = c.placements.ensures.exact in
    let h : length (placements p.diagram) ≤ i = omega (arith, c.in_err-square-in-Place.ensures, ap length l) in
    rw c.from_residual.ensures (record {
      exact = past p i e (listed c.placements.result) l c.in_err-square-in-Place.ensures;
      meaning = past_told p i e h;
    })

pub returns-then-i-eq0 : goal.returns-then-i-eq0
returns-then-i-eq0 c =
    let p = c.args.self.now in
    let q = c.pass.ensures in
    let e = c.in-Pass.ensures.exact in
    record {
      exact = led_pass p c.args.i c.pass.result e c.if-i-eq0.true (q.diagram, q.attacker, q.aim);
      meaning = pass_told p c.args.i e c.pass.result c.if-i-eq0.true (q.diagram, q.attacker, q.aim);
    }

pub returns-else-i-eq0 : goal.returns-else-i-eq0
returns-else-i-eq0 c =
    let p = c.args.self.now in
    let e = c.in-Pass.ensures.exact in
    record {
      exact = omega (arith, count_turn p.attacker p.aim p.diagram Pass e);
      meaning = other_told p c.args.i e (omega arith);
    }

pub returns-in-Ended : goal.returns-in-Ended
returns-in-Ended c =
    let p = c.args.self.now in
    let e = c.in-Ended.ensures.exact in
    record {
      exact = omega (arith, count_turn p.attacker p.aim p.diagram Ended e);
      meaning = over_told p c.args.i e;
    }
