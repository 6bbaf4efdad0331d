use Rattle.std.proofs.Common.{◌≡◌, map, take}
use Rattle.game.specs.Tree.{next}
use Rattle.search_laws.specs.Run.{listed}
use Rattle.search.proofs.listing.list_pairs.Given as goal

abbrev pub invariant-loop-i : goal.invariant-loop-i
invariant-loop-i g l =
    (g.G.Game.current l.game ≡ g.G.Game.current l.initial.game)
    × (g.G.Game.earlier l.game ≡ g.G.Game.earlier l.initial.game)
    × (take l.i l.places ≡ map (listed (g.T.Table.storing.shows (g.T.Table.standing l.table))) (take l.i (next (g.G.Game.current l.initial.game))))
