use Rattle.std.proofs.Common.{◌≡◌, List, refl, ap, ◌∙◌, rules, arith}
use Rattle.game.specs.Tree.{Tree}
use Rattle.stack.specs.Contents.{contents}
use Rattle.search.specs.declared.entry.Turn.TheVariants.{Look, Try, Back}
use Rattle.search.specs.Search.{wins}
use Rattle.search.proofs.Turns.{wins_by, leads-back, leads_long, try_asks, back_asks, search_started, turned, at-look, search_ended}
use Rattle.search.proofs.plain.plain_search.Goals as goal

pub loop-turn-init : goal.loop-turn-init
loop-turn-init g c =
    let t : Tree = g.G.Game.current c.args.game.now in (
      search_started _ t _ g.G.Game.depth c.new-stack.ensures.empty (g.met.G.Game.lawful.shallow t (g.met.G.Game.within c.args.game.now)) g.met.G.Game.lawful.low,
      c.new-stack.ensures.room,
      omega arith,
    )

pub take_all_back-requires : goal.take_all_back-requires
take_all_back-requires g c =
    let t₀ : Tree = g.G.Game.current c.args.game.now in
    leads_long (contents c.loop-turn.stack) _ _ t₀ _ (at-look c.loop-turn.turn (contents c.loop-turn.stack) _ _ _ t₀ _ c.in-Look.is c.loop-turn.invariant.0).1

pub try_next-turn-requires-clause-count : goal.try_next-turn-requires-clause-count
try_next-turn-requires-clause-count g c = (try_asks c.loop-turn.turn c.in-Try.entry _ _ _ _ _ _ c.in-Try.is c.loop-turn.invariant.0).0

pub try_next-turn-requires-clause-places : goal.try_next-turn-requires-clause-places
try_next-turn-requires-clause-places g c = (try_asks c.loop-turn.turn c.in-Try.entry _ _ _ _ _ _ c.in-Try.is c.loop-turn.invariant.0).1

pub come_back-requires : goal.come_back-requires
come_back-requires g c =
    back_asks c.loop-turn.turn c.in-Back.winner c.in-Some-pop.entry _ _ _ _ _ _ _ c.in-Back.is c.in-Some-pop.ensures.popped c.loop-turn.invariant.0

pub returns-in-None : goal.returns-in-None
returns-in-None g c =
    let t₀ : Tree = g.G.Game.current c.args.game.now in
    let k = at-look c.loop-turn.turn (contents c.loop-turn.stack) _ _ _ t₀ _ c.in-Look.is c.loop-turn.invariant.0 in
    let back = c.take_all_back.ensures.path ∙ leads-back (contents c.loop-turn.stack) _ _ t₀ _ k.1 in
    record { at = ap (λ (x : Tree × List Tree). x.0) back; path = ap (λ (x : Tree × List Tree). x.1) back; found = c.in-None.ensures.goes (contents c.loop-turn.stack) t₀ _ k.0 }

pub returns-in-None-pop : goal.returns-in-None-pop
returns-in-None-pop g c =
    let e = search_ended c.loop-turn.turn _ _ _ _ c.in-Back.winner (g.G.Game.current c.args.game.now) _ c.in-Back.is c.in-None-pop.ensures.popped.0 c.loop-turn.invariant.0 in
    let won : c.eq.result ≡ wins c.in-Back.winner = wins_by c.in-Back.winner c.eq.result (λ e. search rules) (λ e. search rules) in
    record { at = e.0; path = e.1; found = (won ∙ e.2, e.3, omega (arith, e.3, c.loop-turn.invariant.2)) }

pub loop-turn-smaller-in-Some : goal.loop-turn-smaller-in-Some
loop-turn-smaller-in-Some g c =
    (turned _ Look _ _ _ _ _ _ _ _ _ _ _ _ c.in-Look.is refl c.loop-turn.invariant.0 (c.in-Some.ensures.goes (contents c.loop-turn.stack))).1

pub loop-turn-preserved-in-Some : goal.loop-turn-preserved-in-Some
loop-turn-preserved-in-Some g c = (
  (turned _ Look _ _ _ _ _ _ _ _ _ _ _ _ c.in-Look.is refl c.loop-turn.invariant.0 (c.in-Some.ensures.goes (contents c.loop-turn.stack))).0,
  c.loop-turn.invariant.1,
  c.look.ensures.within c.loop-turn.invariant.2,
)

pub loop-turn-smaller-in-Try : goal.loop-turn-smaller-in-Try
loop-turn-smaller-in-Try g c =
    (turned _ (Try c.in-Try.entry) _ _ _ _ _ _ _ _ _ _ _ _ c.in-Try.is refl c.loop-turn.invariant.0 (c.try_next-turn.ensures.goes _)).1

pub loop-turn-preserved-in-Try : goal.loop-turn-preserved-in-Try
loop-turn-preserved-in-Try g c = (
  (turned _ (Try c.in-Try.entry) _ _ _ _ _ _ _ _ _ _ _ _ c.in-Try.is refl c.loop-turn.invariant.0 (c.try_next-turn.ensures.goes _)).0,
  c.try_next-turn.ensures.room,
  c.loop-turn.invariant.2,
)

pub loop-turn-smaller : goal.loop-turn-smaller
loop-turn-smaller g c =
    (turned _ (Back c.in-Back.winner) _ _ _ _ _ _ _ _ _ _ _ _ c.in-Back.is c.in-Some-pop.ensures.popped c.loop-turn.invariant.0 (c.come_back.ensures _ _)).1

pub loop-turn-preserved : goal.loop-turn-preserved
loop-turn-preserved g c = (
  (turned _ (Back c.in-Back.winner) _ _ _ _ _ _ _ _ _ _ _ _ c.in-Back.is c.in-Some-pop.ensures.popped c.loop-turn.invariant.0 (c.come_back.ensures _ _)).0,
  c.pop.ensures.room ∙ c.loop-turn.invariant.1,
  c.loop-turn.invariant.2,
)
