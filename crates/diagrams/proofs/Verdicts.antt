-- A trial's verdict is minimax's, and that is whether the attacker mates, or forces its margin.
use Rattle.std.proofs.Common.{sym, ap, ◌∙◌}
use Rattle.std.proofs.lemmas.Bool.{false≢true}
use Rattle.game.specs.Tree.{minimax}
use Rattle.game.specs.declared.game.Game as game
use Rattle.table.specs.declared.Table as table
use Rattle.chess.proofs.Mating.{minimax_mates}
use Rattle.othello.proofs.Forced.{minimax_forces}
use Rattle.diagrams.specs.Verdicts.{VerdictsAreMates, VerdictsAreMargins}

pub verdicts_are_mates_lem : {G T : Type 0} (g : game.Ghosts G) (h : table.Ghosts T) → VerdictsAreMates g h
verdicts_are_mates_lem g h s a n d b answer at law right =
    let mates = minimax_mates a n d law in
    (λ e. mates.0 (sym (ap minimax at) ∙ right.won e), λ e m. false≢true (sym (right.not_won e) ∙ (ap minimax at ∙ mates.1 m)))

pub verdicts_are_margins_lem : {G T : Type 0} (g : game.Ghosts G) (h : table.Ghosts T) → VerdictsAreMargins g h
verdicts_are_margins_lem g h s a aim d b answer at right =
    let forces = (minimax_forces a aim d).1 in
    (λ e. forces.0 (sym (ap minimax at) ∙ right.won e), λ e m. false≢true (sym (right.not_won e) ∙ (ap minimax at ∙ forces.1 m)))
