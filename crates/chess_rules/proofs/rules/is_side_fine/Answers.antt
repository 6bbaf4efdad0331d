use Rattle.std.proofs.Common.{◌≡◌, arith, rules, tests}
use Rattle.std.proofs.lemmas.Bool.Decides.{nat_tests}
use Rattle.std.proofs.lemmas.Iterator.{YieldsList-from_slice}
use Rattle.chess_attacks.specs.declared.men.Kind.TheVariants.{King}
use Rattle.chess_attacks.specs.Men.{of, man_of}
use Rattle.chess_moves.specs.Count.{men, kings}
use Rattle.chess_rules.proofs.Tallies.{tally_counted}
use Rattle.chess_rules.proofs.rules.is_side_fine.Goals as goal

pub returns-then-kings-eq1-clause-fine : goal.returns-then-kings-eq1-clause-fine
returns-then-kings-eq1-clause-fine c =
    let b = c.args.board.now in
    let a = c.args.side in
    let king_count : c.count-kings.result ≡ kings b a
    = tally_counted (man_of a King) b _ _ c.count-kings.ensures.ran (YieldsList-from_slice _ (cc)) c.filter.ensures.closure (λ x r q k. search (rules, tests)) c.told-board in
    let man_count : c.count-men.result ≡ men b a
    = tally_counted (of a) b _ _ c.count-men.ensures.ran (YieldsList-from_slice _ (cc)) c.filter-2.ensures.closure (λ x r q k. search (rules, tests)) c.told-board in
    grind (arith, nat_tests)

pub returns-else-kings-eq1-clause-fine : goal.returns-else-kings-eq1-clause-fine
returns-else-kings-eq1-clause-fine c =
    let king_count : c.count-kings.result ≡ kings c.args.board.now c.args.side
    = tally_counted (man_of c.args.side King) c.args.board.now _ _ c.count-kings.ensures.ran (YieldsList-from_slice _ (cc)) c.filter.ensures.closure (λ x r q k. search (rules, tests)) c.told-board in
    grind (arith, nat_tests)
