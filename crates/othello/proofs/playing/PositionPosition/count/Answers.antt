use Rattle.std.proofs.Common.{length, sym, ap, ◌∙◌}
use Rattle.othello_rules.specs.declared.turn.Turn.TheVariants.{Pass, Ended}
use Rattle.othello.specs.Listed.{count_place, count_turn}
use Rattle.othello.proofs.Told.{count_told}
use Rattle.othello.proofs.playing.PositionPosition.count.Goals as goal

pub returns-in-Place : goal.returns-in-Place
returns-in-Place c =
    let p = c.args.self.now in
    let k = c.count.ensures ∙ ap length c.placements.ensures.exact ∙ sym (count_place p.attacker p.aim p.diagram c.in-Place.ensures.exact) in
    record { exact = k; meaning = count_told p c.count.result k }

pub returns-in-Pass : goal.returns-in-Pass
returns-in-Pass c =
    let p = c.args.self.now in
    let k = sym (count_turn p.attacker p.aim p.diagram Pass c.in-Pass.ensures.exact) in
    record { exact = k; meaning = count_told p 1 k }

pub returns-in-Ended : goal.returns-in-Ended
returns-in-Ended c =
    let p = c.args.self.now in
    let k = sym (count_turn p.attacker p.aim p.diagram Ended c.in-Ended.ensures.exact) in
    record { exact = k; meaning = count_told p 0 k }
