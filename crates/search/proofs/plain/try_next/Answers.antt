use Rattle.std.proofs.Common.{◌<◌, length, arith}
use Rattle.game.specs.Tree.{Tree, next}
use Rattle.search.proofs.Moves.{falls_at, ranked_at}
use Rattle.search.proofs.Turns.{try_none, try_taken}
use Rattle.search.proofs.plain.try_next.Goals as goal

pub returns-then-entry-clause-goes : goal.returns-then-entry-clause-goes
returns-then-entry-clause-goes g c n = try_none c.args.entry _ _ _ n c.other.result c.if-entry.true c.other.ensures

pub push_entry-requires : goal.push_entry-requires
push_entry-requires g c =
    let t : Tree = g.G.Game.current c.args.game.now in
    let more : 0 < length (next t) = omega (arith, c.requires.count, c.if-entry.false) in
    let high = ranked_at t (g.met.G.Game.lawful.falls t (g.met.G.Game.within c.args.game.now)) more in
    omega (arith, c.requires.room, c.requires.places)

pub play_move-requires : goal.play_move-requires
play_move-requires g c = omega (arith, c.requires.count, c.if-entry.false)

pub returns-clause-goes : goal.returns-clause-goes
returns-clause-goes g c n =
    let t : Tree = g.G.Game.current c.args.game.now in
    let at = g.met.G.Game.within c.args.game.now in
    try_taken c.args.entry _ t _ n c.if-entry.false (falls_at t (g.met.G.Game.lawful.falls t at))
    _ _ _ c.push_entry.ensures.pushed c.play_move.ensures.at c.play_move.ensures.path
