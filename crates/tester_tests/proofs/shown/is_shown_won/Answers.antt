use Rattle.std.proofs.Common.{◌≡◌, refl, ap, rules}
use Rattle.search_laws.specs.declared.answer.Verdict.TheVariants.{Won}
use Rattle.search_laws.specs.Words.{word}
use Rattle.tester_tests.proofs.shown.is_shown_won.Goals as goal

pub returns-in-Ok : goal.returns-in-Ok
returns-in-Ok g c shown =
    let won : c.in-Ok.answer.verdict ≡ Won = search rules in
    (c.in-Ok.ensures.right.of_trial _ c.in-Ok.answer refl refl).won (ap word won)
