use Rattle.othello_rules.specs.Diagrams.{opponent}
use Rattle.othello_rules.proofs.Turned.{places_turn, passes_turn, ended_turn, barred, passed_test}
use Rattle.othello_rules.proofs.diagram.Diagram.turn.Goals as goal

pub returns-then-can_place-clause-meaning : goal.returns-then-can_place-clause-meaning
returns-then-can_place-clause-meaning c = places_turn c.args.self.now (c.can_place.ensures.meaning.0 c.if-can_place.true)

pub returns-then-can_place-2-clause-meaning : goal.returns-then-can_place-2-clause-meaning
returns-then-can_place-2-clause-meaning c =
    let d = c.args.self.now in
    let q = passed_test d c.passed.result _ c.passed.ensures.exact c.can_place-else-can_place.ensures.meaning in
    passes_turn d (barred d _ d.mover c.if-can_place.false c.can_place.ensures.meaning) (q.0 c.if-can_place-2.true)

pub returns-else-can_place-2-clause-meaning : goal.returns-else-can_place-2-clause-meaning
returns-else-can_place-2-clause-meaning c =
    let d = c.args.self.now in
    let q = passed_test d c.passed.result _ c.passed.ensures.exact c.can_place-else-can_place.ensures.meaning in
    ended_turn d (barred d _ d.mover c.if-can_place.false c.can_place.ensures.meaning) (barred d _ (opponent d.mover) c.if-can_place-2.false q)
