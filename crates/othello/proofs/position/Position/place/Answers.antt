use Rattle.std.proofs.Common.{sym, ◌∙◌, subst}
use Rattle.othello_rules.specs.Diagrams.{placeable}
use Rattle.othello.specs.Kept.{Keeps, placed_keeps, some_placed}
use Rattle.othello.proofs.position.Position.place.Goals as goal

pub invariant_of-result : goal.invariant_of-result
invariant_of-result c =
    let p = c.args.self.now in
    let s = c.args.square in
    let m = some_placed p.diagram c.in_ok-diagram.diagram s.number (placeable p.diagram s.number) (sym c.in_ok-diagram.was ∙ c.place.ensures.exact) in
    let k = subst Keeps (sym m.1) (placed_keeps p.diagram s.number s.ok m.0 (record { apart = p.apart; board = p.board; few = p.few })) in
    record { apart = k.apart; board = k.board; within = p.within; few = k.few }
