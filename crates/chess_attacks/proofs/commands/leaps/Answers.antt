use Rattle.std.proofs.Common.{rules, tests, ◌≡◌, ℕ, map, ◌∙◌}
use lib.Bits.{bit_or, or_zero_l}
use Rattle.std.specs.List.{fold}
use Rattle.std.proofs.lemmas.Iterator.{YieldsList-from_slice, YieldsList-from_map}
use Rattle.std.proofs.lemmas.Iterator.Consumers.{fold_from_yields_List, YieldsList-at}
use Rattle.board.specs.Masks.{mask}
use Rattle.board.specs.declared.direction.Direction.{Direction}
use Rattle.board.proofs.Bits.{mask_append, or_assoc}
use Rattle.chess_attacks.specs.Lists.{leap, leaps, single, knight_ways}
use Rattle.chess_attacks.proofs.commands.leaps.Goals as goal

pub returns : goal.returns
unfolding leaps
returns c =
    let word : Direction × Direction → ℕ = λ w. mask (single (leap w.0 w.1 c.args.from.number)) in
    let e : c.fold.result ≡ fold bit_or 0 (map word knight_ways)
    = fold_from_yields_List _ bit_or 0 c.fold.result c.fold.ensures.ran
    (YieldsList-from_map _ word (YieldsList-at c.map.ensures.source (YieldsList-from_slice knight_ways c.iter.ensures.rest)) c.map.ensures.closure (λ x r q k. search (rules, tests)))
    (λ a x b q k. search (rules, tests)) in
    e ∙ simp (mask_append, or_assoc, or_zero_l)
