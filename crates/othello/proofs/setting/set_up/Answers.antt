use Rattle.std.proofs.Common.{◌≡◌, rules, arith}
use Rattle.game.specs.Declines.{number}
use Rattle.othello_rules.specs.Texts.{Stands}
use Rattle.othello.specs.Setting.{no_aim, departs, too_empty}
use Rattle.othello.proofs.setting.set_up.Goals as goal

pub returns-then-aim-gt-LARGEST_AIM-clause-meaning : goal.returns-then-aim-gt-LARGEST_AIM-clause-meaning
returns-then-aim-gt-LARGEST_AIM-clause-meaning c =
    let e : (number c.into.result.cause ≡ 7) × (c.into.result.place ≡ 0) = c.into.ensures in
    rw (e.0, e.1) (no_aim (omega arith))

pub returns-in_err-diagram-clause-meaning : goal.returns-in_err-diagram-clause-meaning
returns-in_err-diagram-clause-meaning c = search (rules, departs)

pub returns-then-empties-gt-MOST_EMPTIES-clause-meaning : goal.returns-then-empties-gt-MOST_EMPTIES-clause-meaning
returns-then-empties-gt-MOST_EMPTIES-clause-meaning c =
    let d = c.in_ok-diagram.diagram in
    let h : Stands c.args.text.now d = search rules in
    let r = c.into-then-empties-gt-MOST_EMPTIES.result in
    let e : (number r.cause ≡ 10) × (r.place ≡ 0) = c.into-then-empties-gt-MOST_EMPTIES.ensures in
    rw (e.0, e.1) (too_empty d (omega arith) h (omega (arith, c.empties.ensures)))
