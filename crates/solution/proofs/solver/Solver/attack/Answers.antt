use Rattle.std.proofs.Common.{◌≡◌, Bool, List, length, Ok, Err, sym, ap, ◌∙◌, subst, arith}
use Rattle.game.specs.Tree.{Tree, moves, next, words}
use Rattle.solution_laws.specs.Solution.{wins}
use Rattle.solution_laws.proofs.Texts.{length-texts}
use Rattle.solution_laws.proofs.Spent.{tried-length}
use Rattle.solution.specs.Pages.{Writes}
use Rattle.solution.proofs.Attempts.{same_flags}
use Rattle.solution.proofs.Following.{chosen_number, spent_attacks, no_win_attacks, cut_attacks}
use Rattle.solution.proofs.solver.Solver.attack.Goals as goal

pub returns-in_err-try_moves-clause-attacks : goal.returns-in_err-try_moves-clause-attacks
returns-in_err-try_moves-clause-attacks g c =
    let s = c.args.self.now in let s' = c.try_moves.new.self in
    spent_attacks g.T.Table.storing s.budget.amount c.args.ply.number c.args.intended (g.G.Game.current s.game.now) (g.T.Table.standing s.table.now) c.args.page.now s.sum (g.T.Table.standing s'.table.now) s'.sum c.requires.attacker
    c.from_residual.result c.in_err-try_moves.field-0.0 c.from_residual.ensures.1 c.in_err-try_moves.ensures.tried

pub returns-in_default-clause-attacks : goal.returns-in_default-clause-attacks
returns-in_default-clause-attacks g c =
    let s = c.args.self.now in let s' = c.try_moves.new.self in
    let t : Tree = g.G.Game.current s.game.now in
    let a = same_flags c.as_slice-won.ensures.value c.in_ok-try_moves.ensures.tried in
    no_win_attacks g.T.Table.storing s.budget.amount c.args.ply.number c.args.intended t (g.T.Table.standing s.table.now) c.args.page.now s.sum (g.T.Table.standing s'.table.now) s'.sum c.requires.attacker
    c.as_slice-won.result.now a (sym c.best_move.ensures ∙ c.in_default.is)

pub write_wins-requires-clause-number : goal.write_wins-requires-clause-number
write_wins-requires-clause-number g c =
    let s = c.args.self.now in let s' = c.try_moves.new.self in
    let t : Tree = g.G.Game.current s.game.now in
    let n : length (next (g.G.Game.current s'.game.now)) ≡ length (next t) = ap (λ (x : Tree). length (next x)) c.try_moves.ensures.stays.at in
    let o = sym c.best_move.ensures ∙ c.in-Some.is in
    let a = same_flags c.as_slice-won.ensures.value c.in_ok-try_moves.ensures.tried in
    omega (arith, chosen_number t c.args.intended c.in-Some.chosen c.as_slice-won.result.now a.holds o, length-texts (moves (g.G.Game.current s'.game.now)), n)

pub write_wins-requires-clause-flags : goal.write_wins-requires-clause-flags
write_wins-requires-clause-flags g c =
    let s = c.args.self.now in let s' = c.try_moves.new.self in
    let t : Tree = g.G.Game.current s.game.now in
    let n : length (next (g.G.Game.current s'.game.now)) ≡ length (next t) = ap (λ (x : Tree). length (next x)) c.try_moves.ensures.stays.at in
    let a = same_flags c.as_slice-won.ensures.value c.in_ok-try_moves.ensures.tried in
    omega (arith, tried-length a.holds, length-texts (moves (g.G.Game.current s'.game.now)), n)

pub returns-in_err-write_wins-clause-attacks : goal.returns-in_err-write_wins-clause-attacks
returns-in_err-write_wins-clause-attacks g c =
    let s = c.args.self.now in let s' = c.try_moves.new.self in
    let t : Tree = g.G.Game.current s.game.now in
    let ws : List Bool = c.as_slice-won.result.now in
    let k = c.args.ply.number in let j = c.in-Some.chosen in let e = c.in_err-write_wins.field-0.0 in
    let a = same_flags c.as_slice-won.ensures.value c.in_ok-try_moves.ensures.tried in
    let w = subst (λ (x : Tree). Writes (wins k j ws (words x)) c.args.page.now (Err e) c.write_wins.new.self) c.try_moves.ensures.stays.at c.in_err-write_wins.ensures in
    cut_attacks g.T.Table.storing s.budget.amount k c.args.intended t (g.T.Table.standing s.table.now) c.args.page.now s.sum (g.T.Table.standing s'.table.now) s'.sum c.requires.attacker
    c.from_residual-in_err-write_wins.result e j ws c.write_wins.new.self c.from_residual-in_err-write_wins.ensures.1 a (sym c.best_move.ensures ∙ c.in-Some.is) w

pub returns-clause-attacks : goal.returns-clause-attacks
returns-clause-attacks g c =
    let s = c.args.self.now in let s' = c.try_moves.new.self in
    let t : Tree = g.G.Game.current s.game.now in
    let ws : List Bool = c.as_slice-won.result.now in
    let k = c.args.ply.number in let j = c.in-Some.chosen in
    let a = same_flags c.as_slice-won.ensures.value c.in_ok-try_moves.ensures.tried in
    let w = subst (λ (x : Tree). Writes (wins k j ws (words x)) c.args.page.now (Ok tt) c.write_wins.new.self) c.try_moves.ensures.stays.at c.in_ok-write_wins.ensures in
    let o = sym c.best_move.ensures ∙ c.in-Some.is in
    record {
      flags = ws;
      tried = a;
      chosen = o;
      number = chosen_number t c.args.intended j ws a.holds o;
      writes = w;
    }
