use Rattle.std.proofs.Common.{◌≡◌, ◌+◌, ◌<◌, ℕ, Bool, [], ◌∷◌, ◌++◌, length, refl, ap, ◌∙◌, subst, arith}
use Rattle.arrayvec.specs.ArrayVec.{ArrayVec}
use Rattle.game.specs.Tree.{Tree, moves, next}
use Rattle.solution_laws.specs.Solution.{cost, Stops}
use Rattle.solution.specs.Attempts.{Adds}
use Rattle.solution.proofs.Attempts.{Trying, trial_at, few, trying_start, trying_next, trying_stop, trying_end, attempt_spent}
use Rattle.solution.proofs.Solvers.{stays-join}
use Rattle.solution.proofs.solver.Solver.try_moves.Goals as goal

pub loop-i-init : goal.loop-i-init
loop-i-init g c = record {
  stays = record { at = refl; path = refl; budget = refl; game = refl; table = refl; records = refl };
  trying = trying_start g.T.Table.storing c.args.self.now.budget.amount (g.T.Table.standing c.args.self.now.table.now) (moves (g.G.Game.current c.args.self.now.game.now)) c.args.self.now.sum c.clear.new.self.items c.clear.ensures;
}

pub returns-in_err-won-clause-tried : goal.returns-in_err-won-clause-tried
returns-in_err-won-clause-tried g c =
    let S = g.T.Table.storing in
    let b = c.args.self.now.budget.amount in
    let standing = g.T.Table.standing c.args.self.now.table.now in
    let t : Tree = g.G.Game.current c.args.self.now.game.now in
    let n = c.args.self.now.sum in
    let i = c.loop-i.i in
    let h = g.T.Table.standing c.loop-i.self.table.now in
    let y = c.try_move-answer.new in
    let h' = g.T.Table.standing y.self.table.now in
    let a = c.try_move-answer.result in
    let v = c.loop-i.invariant in
    let low : i < length (next t) = omega (arith, c.count-i-end.ensures, c.loop-i-test.true) in
    let r = trial_at i v.stays.at v.stays.budget c.try_move-answer.ensures.tried in
    let w = c.in_err-won.ensures in
    let s : c.loop-i.self.sum + cost a ≡ y.self.sum + (c.from.result + c.from-in-loop-i.result) = omega (arith, c.try_move-answer.ensures.sum, c.from.ensures, c.from-in-loop-i.ensures) in
    let f = few g.met.G.Game.lawful t (g.met.G.Game.within c.args.self.now.game.now) in
    let z = trying_stop S b standing (moves t) n i c.loop-i.self.flags.items c.loop-i.self.sum h h' a low c.args.self.now.budget.within v.trying r w.0 f in
    attempt_spent _ c.from_residual.result c.in_err-won.field-0.0 w.1 c.from_residual.ensures.1 (subst (λ (x : ℕ). Adds (λ k. Stops S b standing (moves t) k h') n x) s z)

pub loop-i-preserved : goal.loop-i-preserved
loop-i-preserved g c =
    let S = g.T.Table.storing in
    let b = c.args.self.now.budget.amount in
    let standing = g.T.Table.standing c.args.self.now.table.now in
    let t : Tree = g.G.Game.current c.args.self.now.game.now in
    let n = c.args.self.now.sum in
    let i = c.loop-i.i in
    let h = g.T.Table.standing c.loop-i.self.table.now in
    let y = c.try_move-answer.new in
    let h' = g.T.Table.standing y.self.table.now in
    let a = c.try_move-answer.result in
    let v = c.loop-i.invariant in
    let low : i < length (next t) = omega (arith, c.count-i-end.ensures, c.loop-i-test.true) in
    let r = trial_at i v.stays.at v.stays.budget c.try_move-answer.ensures.tried in
    let w = c.in_ok-won.ensures in
    let s : c.loop-i.self.sum + cost a ≡ y.self.sum + (c.from.result + c.from-in-loop-i.result) = omega (arith, c.try_move-answer.ensures.sum, c.from.ensures, c.from-in-loop-i.ensures) in
    let f = few g.met.G.Game.lawful t (g.met.G.Game.within c.args.self.now.game.now) in
    let z = trying_next S b standing (moves t) n i c.loop-i.self.flags.items c.loop-i.self.sum h h' a low c.args.self.now.budget.within v.trying r c.in_ok-won.won c.push.new.self.items (c.push.ensures.items ∙ ap (λ (f : ArrayVec Bool). f.items ++ (c.in_ok-won.won ∷ [])) c.try_move-answer.ensures.flags) w in
    let j = stays-join v.stays c.try_move-answer.ensures.stays in
    record {
      stays = record { at = j.at; path = j.path; budget = j.budget; game = j.game; table = j.table; records = j.records };
      trying = subst (λ (x : ℕ). Trying S b standing (moves t) n (i + 1) c.push.new.self.items h' x) s z;
    }

pub returns-clause-tried : goal.returns-clause-tried
returns-clause-tried g c =
    let t : Tree = g.G.Game.current c.args.self.now.game.now in
    let f = few g.met.G.Game.lawful t (g.met.G.Game.within c.args.self.now.game.now) in
    let l : c.loop-i.i ≡ length (next t) = omega (arith, c.count-i-end.ensures, c.loop-i-test.false, c.loop-i.auto.i-end) in
    trying_end g.T.Table.storing c.args.self.now.budget.amount (g.T.Table.standing c.args.self.now.table.now) (moves t) c.args.self.now.sum c.loop-i.i c.loop-i.self.flags.items c.loop-i.self.sum (g.T.Table.standing c.loop-i.self.table.now) f l c.loop-i.invariant.trying
