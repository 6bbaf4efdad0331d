use Rattle.std.proofs.Common.{◌≡◌, rules, tests, sym, ◌∙◌}
use Rattle.std.specs.List.{range_with_len}
use Rattle.std.proofs.lemmas.Bool.Decides.{Decides-at}
use Rattle.std.proofs.lemmas.Iterator.Search.{any_from_yields_List}
use Rattle.board.proofs.Listed.{all_listed}
use Rattle.othello_rules.specs.Rules.{any}
use Rattle.othello_rules.specs.Diagrams.{placeable, placements}
use Rattle.othello_rules.proofs.Filtered.{any-filter}
use Rattle.othello_rules.proofs.Turned.{any_means}
use Rattle.othello_rules.proofs.diagram.Diagram.can_place.Goals as goal

pub returns : goal.returns
unfolding placements
returns c =
    let d = c.args.self.now in
    let e : c.any.result ≡ any (placements d) =
    any_from_yields_List (placeable d) c.any.new.self _ _ c.any.ensures.ran (all_listed c.all.ensures) (λ x b q k. search (rules, tests))
    ∙ sym (any-filter (placeable d) (range_with_len 0 64)) in
    record { exact = e; meaning = Decides-at c.any.result (any (placements d)) e (any_means d) }
