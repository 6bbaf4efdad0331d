use Rattle.std.proofs.Common.{ℕ, [], refl, ◌∙◌, ap₂, arith}
use Rattle.game.specs.Tree.{Tree}
use Rattle.table.specs.declared.side.Side.{Side}
use Rattle.search_laws.specs.Run.{Reached, Below, turned, handed_down}
use Rattle.search_laws.proofs.Counting.{refused}
use Rattle.search.proofs.Moves.{falls_at, ranked_at}
use Rattle.search.proofs.Steps.{given, taken, chosen_low}
use Rattle.search.proofs.proof_number.work.Goals as goal

pub returns-then-has_reached-clause-goes : goal.returns-then-has_reached-clause-goes
returns-then-has_reached-clause-goes g c n =
    let reach : Reached c.args.frame.thresholds c.of-figures.result.pair = c.has_reached.ensures.0 c.if-has_reached.true in
    given g.T.Table.storing _ c.args.frame _ _ _ c.args.records.now _ n c.of-figures.result.pair c.code.result _
    c.of-figures.ensures.pair reach c.code.ensures c.store.ensures

pub push_entry-requires : goal.push_entry-requires
push_entry-requires g c =
    let t : Tree = g.G.Game.current c.args.game.now in
    let at = g.met.G.Game.within c.args.game.now in
    let no : Below c.args.frame.thresholds c.of-figures.result.pair = refused _ c.args.frame.thresholds c.of-figures.result.pair c.has_reached.ensures c.if-has_reached.false in
    let low = chosen_low g.T.Table.storing g.G.Game.width c.args.frame _ t [] c.args.records.now (g.T.Table.standing c.args.table.now) 0 c.of-figures.result.pair _ _
    (g.met.G.Game.lawful.narrow t at) (falls_at t (g.met.G.Game.lawful.falls t at))
    c.of-figures.ensures.pair no c.of-figures.ensures.place refl c.requires.fits in
    let high = ranked_at t (g.met.G.Game.lawful.falls t at) (omega arith) in
    omega (arith, c.requires.room, c.requires.fits.places)

pub play_move-requires : goal.play_move-requires
play_move-requires g c =
    let t : Tree = g.G.Game.current c.args.game.now in
    let at = g.met.G.Game.within c.args.game.now in
    let no : Below c.args.frame.thresholds c.of-figures.result.pair = refused _ c.args.frame.thresholds c.of-figures.result.pair c.has_reached.ensures c.if-has_reached.false in
    chosen_low g.T.Table.storing g.G.Game.width c.args.frame _ t [] c.args.records.now (g.T.Table.standing c.args.table.now) 0 c.of-figures.result.pair _ _
    (g.met.G.Game.lawful.narrow t at) (falls_at t (g.met.G.Game.lawful.falls t at))
    c.of-figures.ensures.pair no c.of-figures.ensures.place refl c.requires.fits

pub returns-clause-goes : goal.returns-clause-goes
returns-clause-goes g c n =
    let t : Tree = g.G.Game.current c.args.game.now in
    let at = g.met.G.Game.within c.args.game.now in
    let s : Side = c.args.frame.side in
    let no : Below c.args.frame.thresholds c.of-figures.result.pair = refused _ c.args.frame.thresholds c.of-figures.result.pair c.has_reached.ensures c.if-has_reached.false in
    taken g.T.Table.storing _ c.args.frame _ t _ c.args.records.now _ n c.of-figures.result.pair _ _
    (g.met.G.Game.lawful.narrow t at) (falls_at t (g.met.G.Game.lawful.falls t at))
    c.of-figures.ensures.pair no c.of-figures.ensures.place
    (c.hand_down-thresholds.ensures ∙ ap₂ (λ (x y : ℕ). turned s (handed_down (turned s c.args.frame.thresholds) x y)) c.of-figures.ensures.second c.of-figures.ensures.rest)
    _ _ _ c.push_entry.ensures.pushed c.play_move.ensures.at c.play_move.ensures.path
