use Rattle.std.proofs.Common.{ℕ, List, [], ◌∷◌, Some, sym, ap, ◌∙◌, ap₂, arith}
use Rattle.std.specs.List.{slice_get}
use Rattle.std.proofs.lemmas.Option.{slice_get_past}
use Rattle.othello_rules.specs.Lists.{listed}
use Rattle.othello_rules.specs.declared.turn.Turn.TheVariants.{Pass, Ended}
use Rattle.othello.specs.Endings.{passing}
use Rattle.othello.specs.Listed.{text-there, text-past, words_turn}
use Rattle.othello.proofs.Told.{text_told}
use Rattle.othello.proofs.playing.PositionPosition.text.Goals as goal

pub returns-in_ok-square-in-Place : goal.returns-in_ok-square-in-Place
returns-in_ok-square-in-Place c =
    let p = c.args.self.now in
    let g = c.in_ok-square-in-Place.ensures in
    let k =
    ap Some c.square_text.ensures
    ∙ text-there p.attacker p.aim p.diagram c.in-Place.ensures.exact (listed c.placements.result) c.placements.ensures.exact c.args.i
    c.in_ok-square-in-Place.square.number g.0 g.1 in
    record { exact = k; meaning = text_told p c.args.i (Some c.square_text.result) k }

pub returns-in_err-square-in-Place : goal.returns-in_err-square-in-Place
returns-in_err-square-in-Place c =
    let p = c.args.self.now in
    let k =
    c.from_residual.ensures
    ∙ text-past p.attacker p.aim p.diagram c.in-Place.ensures.exact (listed c.placements.result) c.placements.ensures.exact c.args.i c.in_err-square-in-Place.ensures in
    record { exact = k; meaning = text_told p c.args.i c.from_residual.result k }

pub returns-then-i-eq0 : goal.returns-then-i-eq0
returns-then-i-eq0 c =
    let p = c.args.self.now in
    let k =
    sym (ap₂ (λ (l : List (List ℕ)) (i : ℕ). slice_get l i) (words_turn p.attacker p.aim p.diagram Pass c.in-Pass.ensures.exact) c.if-i-eq0.true) in
    record { exact = k; meaning = text_told p c.args.i _ k }

pub returns-else-i-eq0 : goal.returns-else-i-eq0
returns-else-i-eq0 c =
    let p = c.args.self.now in
    let k =
    sym (ap (λ (l : List (List ℕ)). slice_get l c.args.i) (words_turn p.attacker p.aim p.diagram Pass c.in-Pass.ensures.exact)
    ∙ slice_get_past ((passing p.diagram).text ∷ []) c.args.i (omega arith)) in
    record { exact = k; meaning = text_told p c.args.i _ k }

pub returns-in-Ended : goal.returns-in-Ended
returns-in-Ended c =
    let p = c.args.self.now in
    let k =
    sym (ap (λ (l : List (List ℕ)). slice_get l c.args.i) (words_turn p.attacker p.aim p.diagram Ended c.in-Ended.ensures.exact)) in
    record { exact = k; meaning = text_told p c.args.i _ k }
