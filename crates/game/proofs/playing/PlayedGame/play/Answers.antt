use Rattle.std.proofs.Common.{◌≡◌, ◌<◌, ◌∷◌, map, Some, ap, ◌∙◌, arith}
use Rattle.std.proofs.ByRecursion.{All-get_or}
use Rattle.game.specs.Tree.{rank, nowhere, next}
use Rattle.game.specs.Paths.{before, roomy}
use Rattle.game.proofs.Room.{free, steps, room_after}
use Rattle.game.proofs.playing.PlayedGame.play.Goals as goal

pub unwrap-requires : goal.unwrap-requires
unwrap-requires g c =
    let law = g.met.P.Position in
    let t = g.P.Position.tree c.prepare.new.self in
    let q : c.after.result ≡ Some c.in_ok-next.next = grind arith in
    let a = rw q at c.after.ensures in
    let lower = All-get_or (λ u. rank u < rank t) (next t) c.args.i nowhere a.0 (law.lawful.falls t (law.within c.prepare.new.self)) in
    let room = free (λ x. rank (g.P.Position.tree x)) c.args.self.now.path c.in_ok-next.next c.args.self.now.room
    (omega (arith, lower, ap rank a.1, ap rank c.prepare.ensures)) in
    steps (record { current = c.prepare.new.self; earlier = c.args.self.now.path.earlier; none_empty = c.args.self.now.path.none_empty; room = c.args.self.now.path.room }) c.advance.new.self c.in_ok-next.next c.advance.result c.advance.ensures room

pub invariant_of-self-3 : goal.invariant_of-self-3
invariant_of-self-3 g c =
    let law = g.met.P.Position in
    let t = g.P.Position.tree c.prepare.new.self in
    let q : c.after.result ≡ Some c.in_ok-next.next = grind arith in
    let a = rw q at c.after.ensures in
    let lower = All-get_or (λ u. rank u < rank t) (next t) c.args.i nowhere a.0 (law.lawful.falls t (law.within c.prepare.new.self)) in
    record {
      room = room_after (λ x. rank (g.P.Position.tree x)) (record { current = c.prepare.new.self; earlier = c.args.self.now.path.earlier; none_empty = c.args.self.now.path.none_empty; room = c.args.self.now.path.room }) c.advance.new.self c.in_ok-next.next c.advance.result c.advance.ensures
          (ap (λ u. roomy (rank u ∷ map (λ x. rank (g.P.Position.tree x)) (before c.args.self.now.path))) c.prepare.ensures ∙ c.args.self.now.room) (omega (arith, lower, ap rank a.1));
    }
