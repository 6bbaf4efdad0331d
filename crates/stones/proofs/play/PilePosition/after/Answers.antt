use Rattle.std.proofs.Common.{◌<◌, length, arith}
use Rattle.game.specs.Tree.{next}
use Rattle.stones.specs.Piles.{tree_of}
use Rattle.stones.proofs.Taken.{taken}
use Rattle.stones.proofs.play.PilePosition.after.Goals as goal

pub returns : goal.returns
returns c =
    let p = c.args.self.now in
    let h : c.args.i < length (next (tree_of p)) = omega (arith, c.if-i-count.false, c.count.ensures) in
    (h, taken p.left c.args.i p.attackers h)
