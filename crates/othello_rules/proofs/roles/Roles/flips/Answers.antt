use Rattle.std.proofs.Common.{◌≡◌, ℕ, List, ap, ◌∙◌, refl, take, arith}
use Rattle.std.specs.List.{flat_map}
use Rattle.board.specs.Masks.{bit, mask}
use Rattle.board.specs.Squares.{ray}
use Rattle.board.specs.declared.direction.Direction.{Direction}
use Rattle.othello_rules.specs.Rules.{turned, flipped}
use Rattle.othello_rules.proofs.Directions.{eight, one_more, all_eight}
use Rattle.othello_rules.proofs.roles.Roles.flips.Goals as goal

pub loop-direction-init : goal.loop-direction-init
unfolding mask
loop-direction-init c = refl

pub loop-direction-preserved : goal.loop-direction-preserved
loop-direction-preserved c =
    one_more (λ d. turned (bit c.args.self.own) (bit c.args.self.other) (ray d c.args.square.number)) _ c.loop-direction.direction-index _ _ _
    c.loop-direction-test.true c.loop-direction.invariant c.flips_in-turned.ensures

pub returns : goal.returns
unfolding flipped
returns c =
    let f : Direction → List ℕ = λ d. turned (bit c.args.self.own) (bit c.args.self.other) (ray d c.args.square.number) in
    let e : c.loop-direction.direction-index ≡ 8 = omega arith in
    c.loop-direction.invariant ∙ ap (λ (n : ℕ). mask (flat_map f (take n eight))) e ∙ all_eight f
