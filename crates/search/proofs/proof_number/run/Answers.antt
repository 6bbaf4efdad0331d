use Rattle.std.proofs.Common.{◌≡◌, ℕ, suc, ◌-◌, List, Some, None, Option, refl, ap, ◌∙◌, subst, arith}
use Rattle.game.specs.Tree.{Tree}
use Rattle.stack.specs.Contents.{contents}
use Rattle.search.specs.declared.frame.Step.TheVariants.{Enter, Work, Back}
use Rattle.table.specs.Storings.{Storing}
use Rattle.search_laws.specs.Run.{Outcome, gave, Enters, tops}
use Rattle.search_laws.proofs.Courses.{runs_agree}
use Rattle.search_laws.proofs.Deciding.{runs_decide_lem}
use Rattle.search.specs.declared.frame.Given.{Given}
use Rattle.search.specs.Finishes.{Tells}
use Rattle.search.proofs.Moves.{ranked_at}
use Rattle.search.proofs.Steps.{under_back, under_long, handed, went, started, stopping, giving, enter_asks, work_asks, hand_asks}
use Rattle.search.proofs.proof_number.run.Goals as goal

one_less : (n : ℕ) → (n ≡ 0 → ⊥) → n ≡ suc (n - 1)
one_less n h = omega arith

pub loop-step-init : goal.loop-step-init
loop-step-init g c =
    let t : Tree = g.G.Game.current c.args.game.now in
    let at = g.met.G.Game.within c.args.game.now in
    let s = started g.T.Table.storing g.G.Game.width g.G.Game.depth _ t _ c.args.records.now (g.T.Table.standing c.args.table.now) c.args.left
    c.new-stack.ensures.empty (g.met.G.Game.lawful.shallow t at) g.met.G.Game.lawful.low g.met.G.Game.lawful.small in
    (s.0, s.1, c.new-stack.ensures.room, omega arith)

-- what is told of one outcome is told of any other
only_told : (S : Storing) (h : S.Standing) (n : ℕ) (t : Tree) (r : Option Given) (h' : S.Standing) (o : Outcome S.Standing) →
    Enters S h n t tops o → Tells r h' o → (o' : Outcome S.Standing) → Enters S h n t tops o' → Tells r h' o'
only_told S h n t r h' o e k o' e' = subst (Tells r h') (runs_agree S h n t tops o o' e e') k

pub take_all_back-requires : goal.take_all_back-requires
take_all_back-requires g c =
    let s = stopping g.T.Table.storing _ c.loop-step.step c.in-Enter.thresholds _ _ _ _ _ _ _ _ _ c.in-Enter.is c.if-rest-eq0.true
    c.loop-step.invariant.0 c.loop-step.invariant.1 in
    under_long _ _ (contents c.loop-step.stack) _ _ _ _ s.0

pub returns-then-rest-eq0 : goal.returns-then-rest-eq0
returns-then-rest-eq0 g c =
    let S : Storing = g.T.Table.storing in
    let s = stopping S _ c.loop-step.step c.in-Enter.thresholds _ _ _ _ _ _ _ _ _ c.in-Enter.is c.if-rest-eq0.true
    c.loop-step.invariant.0 c.loop-step.invariant.1 in
    let back = c.take_all_back.ensures.path ∙ under_back _ _ (contents c.loop-step.stack) _ _ _ _ s.0 in
    record {
      at = ap (λ (x : Tree × List Tree). x.0) back;
      path = ap (λ (x : Tree × List Tree). x.1) back;
      comes = (_, s.1, refl);
      only = only_told S _ _ _ None _ _ s.1 refl;
      within = tt;
    }

pub enter-requires : goal.enter-requires
enter-requires g c =
    let t : Tree = g.G.Game.current c.loop-step.game in
    let at = g.met.G.Game.within c.loop-step.game in
    enter_asks _ c.loop-step.step _ t _ c.loop-step.records _ _ c.loop-step.invariant.0 (omega arith) c.in-Enter.thresholds _ c.in-Enter.is
    (g.met.G.Game.lawful.narrow t at) (ranked_at t (g.met.G.Game.lawful.falls t at)) c.first_free.ensures

pub work-step-requires : goal.work-step-requires
work-step-requires g c =
    let a = work_asks _ c.loop-step.step _ _ _ c.loop-step.records _ _ c.loop-step.invariant.0 (omega arith) c.in-Work.frame c.in-Work.is in
    record { room = c.loop-step.invariant.2; fits = a.0; inside = a.1 }

pub hand_back-requires : goal.hand_back-requires
hand_back-requires g c =
    let a = hand_asks _ c.loop-step.step _ _ _ c.loop-step.records _ _ c.loop-step.invariant.0 (omega arith) c.in-Back.pair c.in-Some.frame _
    c.in-Back.is c.in-Some.ensures.popped in
    record { played = a.1; inside = a.0 }

pub decided_value-requires : goal.decided_value-requires
decided_value-requires g c =
    let S : Storing = g.T.Table.storing in
    let s = giving S _ c.loop-step.step c.in-Back.pair _ _ _ _ _ _ _ _ _ c.in-Back.is c.in-None.ensures.popped.0
    c.loop-step.invariant.0 c.loop-step.invariant.1 in
    runs_decide_lem S _ _ _ _ _ c.in-Back.pair s.1

pub returns-in-None : goal.returns-in-None
returns-in-None g c =
    let S : Storing = g.T.Table.storing in
    let s = giving S _ c.loop-step.step c.in-Back.pair _ _ _ _ _ _ _ _ _ c.in-Back.is c.in-None.ensures.popped.0
    c.loop-step.invariant.0 c.loop-step.invariant.1 in
    let told : Tells (Some (record { left = c.loop-step.rest; won = c.decided_value.result })) (g.T.Table.standing c.loop-step.table)
    (gave (g.T.Table.standing c.loop-step.table) c.loop-step.rest c.in-Back.pair) = (c.in-Back.pair, c.decided_value.ensures, refl) in
    record {
      at = s.0.0;
      path = s.0.1;
      comes = (_, s.1, told);
      only = only_told S _ _ _ (Some (record { left = c.loop-step.rest; won = c.decided_value.result })) _ _ s.1 told;
      within = c.loop-step.invariant.3;
    }

pub loop-step-smaller-else-rest-eq0 : goal.loop-step-smaller-else-rest-eq0
loop-step-smaller-else-rest-eq0 g c =
    (went g.T.Table.storing _ c.loop-step.step (Enter c.in-Enter.thresholds) _ _ _ _ _ _ _ _ _ _ _ _ _ _ _ _ _ _
    c.in-Enter.is refl (one_less c.loop-step.rest c.if-rest-eq0.false) c.loop-step.invariant.0 c.loop-step.invariant.1
    (c.enter.ensures (contents c.loop-step.stack) (c.loop-step.rest - 1) c.first_free.ensures)).2

pub loop-step-preserved-else-rest-eq0 : goal.loop-step-preserved-else-rest-eq0
loop-step-preserved-else-rest-eq0 g c =
    let k = went g.T.Table.storing _ c.loop-step.step (Enter c.in-Enter.thresholds) _ _ _ _ _ _ _ _ _ _ _ _ _ _ _ _ _ _
    c.in-Enter.is refl (one_less c.loop-step.rest c.if-rest-eq0.false) c.loop-step.invariant.0 c.loop-step.invariant.1
    (c.enter.ensures (contents c.loop-step.stack) (c.loop-step.rest - 1) c.first_free.ensures) in
    (k.0, k.1, c.loop-step.invariant.2, omega arith)

pub loop-step-smaller-in-Work : goal.loop-step-smaller-in-Work
loop-step-smaller-in-Work g c =
    (went g.T.Table.storing _ c.loop-step.step (Work c.in-Work.frame) _ _ _ _ _ _ _ _ _ _ _ _ _ _ _ _ _ _
    c.in-Work.is refl refl c.loop-step.invariant.0 c.loop-step.invariant.1 (c.work-step.ensures.goes _)).2

pub loop-step-preserved-in-Work : goal.loop-step-preserved-in-Work
loop-step-preserved-in-Work g c =
    let k = went g.T.Table.storing _ c.loop-step.step (Work c.in-Work.frame) _ _ _ _ _ _ _ _ _ _ _ _ _ _ _ _ _ _
    c.in-Work.is refl refl c.loop-step.invariant.0 c.loop-step.invariant.1 (c.work-step.ensures.goes _) in
    (k.0, k.1, c.work-step.ensures.room, c.loop-step.invariant.3)

pub loop-step-smaller : goal.loop-step-smaller
loop-step-smaller g c =
    (went g.T.Table.storing _ c.loop-step.step (Back c.in-Back.pair) _ _ _ _ _ _ _ _ _ _ _ _ _ _ _ _ _ _
    c.in-Back.is c.in-Some.ensures.popped refl c.loop-step.invariant.0 c.loop-step.invariant.1
    (handed g.T.Table.storing _ c.in-Back.pair c.in-Some.frame _ _ _ c.loop-step.records (g.T.Table.standing c.loop-step.table) _ c.loop-step.rest
    _ _ c.hand_back.ensures.takes_back c.hand_back.ensures.rewrites)).2

pub loop-step-preserved : goal.loop-step-preserved
loop-step-preserved g c =
    let k = went g.T.Table.storing _ c.loop-step.step (Back c.in-Back.pair) _ _ _ _ _ _ _ _ _ _ _ _ _ _ _ _ _ _
    c.in-Back.is c.in-Some.ensures.popped refl c.loop-step.invariant.0 c.loop-step.invariant.1
    (handed g.T.Table.storing _ c.in-Back.pair c.in-Some.frame _ _ _ c.loop-step.records (g.T.Table.standing c.loop-step.table) _ c.loop-step.rest
    _ _ c.hand_back.ensures.takes_back c.hand_back.ensures.rewrites) in
    (k.0, k.1, c.pop.ensures.room ∙ c.loop-step.invariant.2, c.loop-step.invariant.3)
