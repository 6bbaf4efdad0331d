use Rattle.std.proofs.Common.{ap, ◌∙◌}
use Rattle.game.specs.Tree.{Tree, state}
use Rattle.search_laws.specs.Run.{mover}
use Rattle.search.proofs.Moves.{ranked_at}
use Rattle.search.proofs.Steps.{entered}
use Rattle.search.proofs.proof_number.enter.Goals as goal

pub returns : goal.returns
returns g c =
    let t : Tree = g.G.Game.current c.args.game.now in
    let at = g.met.G.Game.within c.args.game.now in
    entered g.T.Table.storing g.G.Game.width c.args.thresholds t _ _ _ _ _ _ _ (g.met.G.Game.lawful.narrow t at)
    (ranked_at t (g.met.G.Game.lawful.falls t at))
    c.count.ensures (c.side_of.ensures ∙ ap mover (c.state.ensures ∙ ap state c.list_pairs.ensures.at)) c.list_pairs.ensures.pairs c.requires
    _ _ c.list_pairs.ensures.at c.list_pairs.ensures.path
