use Rattle.std.proofs.Common.{ℕ, List, length, ap, subst, arith}
use Rattle.chess_moves.specs.Moves.{listed, legal_moves}
use Rattle.chess.specs.Finding.{Finds}
use Rattle.chess.specs.Grown.{words_count, words_all, no_choices}
use Rattle.chess.proofs.Same.{kept_tells}
use Rattle.chess.proofs.playing.LevelPosition.find.Goals as goal

pub returns-then-self-eq0 : goal.returns-then-self-eq0
returns-then-self-eq0 c =
    let p = c.args.self.now.problem in
    let e = ap length (no_choices p.plies p.position.diagram c.if-self-eq0.true) in
    λ i h. absurd (let z : ⊥ = omega (arith, words_count p.attacker p.plies p.position.diagram) in z)

pub returns-in-Some : goal.returns-in-Some
returns-in-Some c =
    let l = c.args.self.now in
    let p = l.problem in
    subst (λ (xs : List (List ℕ)). Finds xs c.args.text.now c.find.result)
    (words_all p.attacker p (listed c.in-Some.list) c.if-self-eq0.false (kept_tells l.list c.in-Some.list (legal_moves p.position.diagram) l.right c.in-Some.is))
    c.find.ensures

pub returns-in-None : goal.returns-in-None
returns-in-None c =
    let p = c.args.self.now.problem in
    subst (λ (xs : List (List ℕ)). Finds xs c.args.text.now c.find-in-None.result)
    (words_all p.attacker p (listed c.moves.result) c.if-self-eq0.false c.moves.ensures.exact) c.find-in-None.ensures
