use Rattle.std.proofs.Common.{rules, tests, Bool, ◌∙◌}
use Rattle.std.proofs.lemmas.Iterator.{YieldsList-from_slice}
use Rattle.std.proofs.lemmas.Iterator.Search.{any_from_yields_List}
use Rattle.board.specs.Squares.{directions}
use Rattle.board.specs.declared.direction.Direction.{Direction}
use Rattle.chess_attacks.specs.Look.{struck}
use Rattle.chess_attacks.proofs.Ways.{ways_listed}
use Rattle.chess_attacks.proofs.look.line_attack.Goals as goal

pub returns : goal.returns
returns c =
    let test : Direction → Bool = λ d. struck c.args.board.now d c.args.by c.args.square.number 0 7 in
    any_from_yields_List test c.any.new.self _ _ c.any.ensures.ran (YieldsList-from_slice directions c.iter.ensures.rest) (λ x b q k. search (rules, tests))
    ∙ ways_listed test
