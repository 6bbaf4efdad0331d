use Rattle.std.proofs.Common.{◌≡◌, take}
use Rattle.std.specs.List.{flat_map}
use Rattle.board.specs.Masks.{bit, mask}
use Rattle.board.specs.Squares.{ray}
use Rattle.othello_rules.specs.Rules.{turned}
use Rattle.othello_rules.proofs.roles.Roles.flips.Given as goal

abbrev pub invariant-loop-direction : goal.invariant-loop-direction
invariant-loop-direction l =
    l.turned ≡ mask (flat_map (λ d. turned (bit l.self.own) (bit l.self.other) (ray d l.square.number)) (take l.direction-index l.direction-items))
