use Rattle.std.proofs.Common.{rules, tests, ◌∙◌}
use Rattle.std.proofs.lemmas.Iterator.Search.{all_from_yields_List}
use Rattle.board.proofs.Listed.{all_listed}
use Rattle.chess_rules.specs.Lawful.{inner}
use Rattle.chess_rules.proofs.Tested.{inner_listed}
use Rattle.chess_rules.proofs.rules.are_pawns_inner.Goals as goal

pub returns : goal.returns
returns c =
    all_from_yields_List (inner c.args.board.now) c.all-2.new.self _ _ c.all-2.ensures.ran (all_listed c.all.ensures) (λ x b q k. search (rules, tests))
    ∙ inner_listed c.args.board.now 64
