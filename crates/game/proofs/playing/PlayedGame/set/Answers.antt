use Rattle.std.proofs.Common.{◌≤◌, arith}
use Rattle.game.specs.Limits.{depth_limit}
use Rattle.game.specs.Tree.{rank}
use Rattle.game.proofs.Room.{begins}
use Rattle.game.proofs.playing.PlayedGame.set.Goals as goal

pub invariant_of-self : goal.invariant_of-self
invariant_of-self g c =
    let law = g.met.P.Position in
    let t = g.P.Position.tree c.new.result.current in
    let low : rank t ≤ depth_limit = omega (arith, law.lawful.shallow t (law.within c.new.result.current), law.lawful.low) in
    record { room = begins (λ p. rank (g.P.Position.tree p)) c.new.result low c.new.ensures.alone }
