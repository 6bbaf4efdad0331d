use Rattle.std.proofs.Common.{◌≡◌, ◌≤◌, length}
use Rattle.stack.specs.Contents.{contents}
use Rattle.search.specs.Backs.{back}
use Rattle.search.proofs.unwind.take_all_back.Given as goal

abbrev pub invariant-loop-game : goal.invariant-loop-game
invariant-loop-game g l =
    (back (length (contents l.initial.stack)) (g.G.Game.current l.initial.game) (g.G.Game.earlier l.initial.game)
    ≡ back (length (contents l.stack)) (g.G.Game.current l.game) (g.G.Game.earlier l.game))
    × (length (contents l.stack) ≤ length (g.G.Game.earlier l.game))

abbrev pub decreases-loop-game : goal.decreases-loop-game
decreases-loop-game g l = length (contents l.stack)
