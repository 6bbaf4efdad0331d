use Rattle.std.proofs.Common.{ℕ, ◌+◌, ◌*◌, sym, ap, ◌∙◌, ap₂}
use Rattle.othello.specs.Endings.{due, rank_of}
use Rattle.othello.specs.Listed.{rank_is}
use Rattle.othello.proofs.Told.{rank_told}
use Rattle.othello.proofs.playing.PositionPosition.rank.Goals as goal

pub returns : goal.returns
unfolding rank_of
returns c =
    let p = c.args.self.now in
    let k = ap₂ (λ (n x : ℕ). 2 * n + x) c.empties.ensures (c.due.ensures ∙ ap due c.turn.ensures.exact)
    ∙ sym (rank_is p.attacker p.aim p.diagram) in
    record { exact = k; meaning = rank_told p (2 * c.empties.result + c.due.result) k }
