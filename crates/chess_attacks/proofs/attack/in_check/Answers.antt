use Rattle.std.proofs.Common.{rules, tests, ◌≡◌, ◌∙◌}
use Rattle.std.proofs.lemmas.Bool.Decides.{Decides-at}
use Rattle.std.proofs.lemmas.Iterator.Search.{any_from_yields_List}
use Rattle.board.proofs.Listed.{all_listed}
use Rattle.chess_attacks.specs.Lists.{king_hit, checked}
use Rattle.chess_attacks.proofs.Members.{any_listed}
use Rattle.chess_attacks.proofs.Meaning.{checked_means}
use Rattle.chess_attacks.proofs.attack.in_check.Goals as goal

pub returns : goal.returns
unfolding checked
returns c =
    let hit = king_hit c.args.board.now c.args.side in
    let e : c.any.result ≡ checked c.args.board.now c.args.side
    = any_from_yields_List hit c.any.new.self _ _ c.any.ensures.ran (all_listed c.all.ensures) (λ x b q k. search (rules, tests))
    ∙ any_listed hit 64 in
    record { exact = e; meaning = Decides-at c.any.result _ e (checked_means c.args.board.now c.args.side) }
