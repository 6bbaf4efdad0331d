use Rattle.std.proofs.Common.{◌≡◌, ◌≤◌}
use Rattle.stack.specs.Contents.{contents, room}
use Rattle.search.specs.Search.{Holds, work}
use Rattle.search.proofs.plain.plain_search.Given as goal

abbrev pub invariant-loop-turn : goal.invariant-loop-turn
invariant-loop-turn g l =
    Holds l.turn (contents l.stack) (g.G.Game.current l.game) (g.G.Game.earlier l.game) l.entries
    (g.G.Game.current l.initial.game) (g.G.Game.earlier l.initial.game)
    × (room l.stack ≡ 32)
    × (l.entries ≤ l.share)

abbrev pub decreases-loop-turn : goal.decreases-loop-turn
decreases-loop-turn g l = work l.turn (contents l.stack) (g.G.Game.current l.game) (g.G.Game.earlier l.game)
