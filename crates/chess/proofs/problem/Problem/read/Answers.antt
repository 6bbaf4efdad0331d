use Rattle.std.proofs.Common.{◌≡◌, false, Ok, None, IsErrAnd, inl, inr, rules, arith}
use Rattle.form.specs.Forms.{reading}
use Rattle.game.specs.Tree.{refused}
use Rattle.game.specs.Declines.{number}
use Rattle.chess_text.specs.Diagrams.{Stands}
use Rattle.chess_text.specs.Reading.{form}
use Rattle.chess.specs.Setting.{reading_of, Refuses, Aims, no_aim, no_text, no_position}
use Rattle.chess.proofs.Set.{diagram_set, declined_so, not-lawful}
use Rattle.chess.proofs.problem.Problem.read.Goals as goal

pub returns-then-aim-lt1-clause-meaning : goal.returns-then-aim-lt1-clause-meaning
returns-then-aim-lt1-clause-meaning c =
    let e : (number c.into.result.cause ≡ 7) × (c.into.result.place ≡ 0) = c.into.ensures in
    rw (e.0, e.1) (no_aim (λ a. let h = a.some in let k = a.few in elim c.then-aim-lt1.either [ inl z ↦ omega arith | inr z ↦ omega arith ]))

pub returns-in_err-diagram-clause-meaning : goal.returns-in_err-diagram-clause-meaning
returns-in_err-diagram-clause-meaning c =
    let a : Aims c.args.aim = record { some = omega arith; few = omega arith } in
    search (rules, no_text)

-- the cause that is handed on
broken : (c : goal.After-from_residual-in_err-position) → IsErrAnd c.from_residual-in_err-position.result (λ e. (number e.cause ≡ 9) × (e.place ≡ 0))
broken c = search rules

pub returns-in_err-position-clause-exact : goal.returns-in_err-position-clause-exact
returns-in_err-position-clause-exact c =
    let d = c.in_ok-diagram.diagram in
    let a : Aims c.args.aim = record { some = omega arith; few = omega arith } in
    let q : Ok d ≡ reading form c.args.text.now = search rules in
    let n : c.new.result ≡ None = grind arith in
    let l = rw n at c.new.ensures in
    declined_so c.from_residual-in_err-position.result 9 _ (λ m k. reading_of c.args.text.now c.args.aim ≡ refused m k) (broken c)
    (diagram_set c.args.text.now c.args.aim a d false q (not-lawful d l))

pub returns-in_err-position-clause-meaning : goal.returns-in_err-position-clause-meaning
returns-in_err-position-clause-meaning c =
    let d = c.in_ok-diagram.diagram in
    let a : Aims c.args.aim = record { some = omega arith; few = omega arith } in
    let s : Stands c.args.text.now d = search rules in
    let n : c.new.result ≡ None = grind arith in
    let l = rw n at c.new.ensures in
    declined_so c.from_residual-in_err-position.result 9 _ (Refuses c.args.text.now c.args.aim) (broken c) (no_position a d s l)
