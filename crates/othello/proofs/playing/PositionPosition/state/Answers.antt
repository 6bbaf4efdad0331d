use Rattle.std.proofs.Common.{Bool, cond, inl, inr, sym, ap, ◌∙◌}
use Rattle.game.specs.declared.state.State.TheVariants.{Won, NotWon}
use Rattle.othello_rules.specs.declared.turn.Turn.TheVariants.{Place, Pass, Ended}
use Rattle.othello.specs.Listed.{state_turn}
use Rattle.othello.proofs.Told.{state_told}
use Rattle.othello.proofs.playing.PositionPosition.state.Goals as goal

pub returns-in-Place : goal.returns-in-Place
returns-in-Place c =
    let p = c.args.self.now in
    elim c.in-Place.is [
      | inl e ↦ (let k = c.to_move.ensures ∙ sym (state_turn p.attacker p.aim p.diagram Place (sym e ∙ c.turn.ensures.exact)) in
          record { exact = k; meaning = state_told p c.to_move.result k })
      | inr e ↦ (let k = c.to_move.ensures ∙ sym (state_turn p.attacker p.aim p.diagram Pass (sym e ∙ c.turn.ensures.exact)) in
          record { exact = k; meaning = state_told p c.to_move.result k })
    ]

pub returns-then-reached : goal.returns-then-reached
returns-then-reached c =
    let p = c.args.self.now in
    let k = ap (λ (b : Bool). cond b Won NotWon) c.if-reached.ensures ∙ sym (state_turn p.attacker p.aim p.diagram Ended c.in-Ended.ensures.exact) in
    record { exact = k; meaning = state_told p Won k }

pub returns-else-reached : goal.returns-else-reached
returns-else-reached c =
    let p = c.args.self.now in
    let k = ap (λ (b : Bool). cond b Won NotWon) c.if-reached.ensures ∙ sym (state_turn p.attacker p.aim p.diagram Ended c.in-Ended.ensures.exact) in
    record { exact = k; meaning = state_told p NotWon k }
