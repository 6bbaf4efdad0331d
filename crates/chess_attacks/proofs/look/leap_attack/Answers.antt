use Rattle.std.proofs.Common.{rules, tests, Bool, ◌∙◌}
use Rattle.std.proofs.lemmas.Iterator.{YieldsList-from_slice}
use Rattle.std.proofs.lemmas.Iterator.Search.{any_from_yields_List}
use Rattle.board.specs.declared.direction.Direction.{Direction}
use Rattle.chess_attacks.specs.Look.{leapt}
use Rattle.chess_attacks.specs.Lists.{knight_ways}
use Rattle.chess_attacks.proofs.Ways.{leaps_listed}
use Rattle.chess_attacks.proofs.look.leap_attack.Goals as goal

pub returns : goal.returns
returns c =
    let test : Direction × Direction → Bool = λ w. leapt c.args.board.now c.args.by c.args.square.number w.0 w.1 in
    any_from_yields_List test c.any.new.self _ _ c.any.ensures.ran (YieldsList-from_slice knight_ways c.iter.ensures.rest) (λ x b q k. search (rules, tests))
    ∙ leaps_listed (leapt c.args.board.now c.args.by c.args.square.number)
