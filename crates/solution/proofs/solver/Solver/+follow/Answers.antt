use Rattle.std.proofs.Common.{◌≡◌, ◌<◌, ℕ, [], ◌∷◌, length, get_or, Ok, Err, Option, sym, refl, ap, ◌∙◌, subst, arith}
use Rattle.game.specs.Tree.{Tree, moves, next, words}
use Rattle.solution_laws.specs.declared.ending.Ending.TheVariants.{Done}
use Rattle.solution_laws.specs.Solution.{reply_line, won, not_won}
use Rattle.solution_laws.proofs.Texts.{length-texts}
use Rattle.solution.specs.Pages.{Writes}
use Rattle.solution.specs.Following.{Attacks}
use Rattle.solution.proofs.Following.{no_line_followed, followed_at, win_followed, replying_start, replying_cut, replying-last, replying-next, replying_end}
use Rattle.solution.proofs.Solvers.{stays-join}
use Rattle.solution.proofs.solver.Solver.+follow.Goals as goal

-- a position

pub follow-returns-in-Won-clause-follows : goal.follow-returns-in-Won-clause-follows
follow-returns-in-Won-clause-follows g t c =
    let s = c.args.self.now in
    let u : Tree = g.G.Game.current s.game.now in
    let h = g.T.Table.standing s.table.now in
    no_line_followed g.T.Table.storing s.budget.amount c.args.ply.number c.args.intended u h c.args.page.now s.sum (Ok tt) Done 0 h s.sum refl (omega arith) (omega arith)
    (won (sym c.state.ensures ∙ c.in-Won.is) refl)

pub follow-returns-in-NotWon-clause-follows : goal.follow-returns-in-NotWon-clause-follows
follow-returns-in-NotWon-clause-follows g t c =
    let s = c.args.self.now in
    let u : Tree = g.G.Game.current s.game.now in
    let h = g.T.Table.standing s.table.now in
    no_line_followed g.T.Table.storing s.budget.amount c.args.ply.number c.args.intended u h c.args.page.now s.sum (Ok tt) Done 0 h s.sum refl (omega arith) (omega arith)
    (not_won (sym c.state.ensures ∙ c.in-NotWon.is) refl)

-- an attacker's position

pub follow_best-returns-in-Some-clause-follows : goal.follow_best-returns-in-Some-clause-follows
follow_best-returns-in-Some-clause-follows g t c =
    let G = g.G.Game in
    let S = g.T.Table.storing in
    let s = c.args.self.now in let s1 = c.attack.new.self in let s2 = c.follow_move.new.self in
    let b = s.budget.amount in let k = c.args.ply.number in
    let u : Tree = G.current s.game.now in
    let h = g.T.Table.standing s.table.now in let h1 = g.T.Table.standing s1.table.now in let h2 = g.T.Table.standing s2.table.now in
    let j = c.in-Some.chosen in
    let a = subst (λ (o : Option ℕ). Attacks S b k c.args.intended u h c.args.page.now s.sum (Ok o) h1 c.attack.new.page s1.sum) c.in-Some.is c.in_ok-chosen.ensures.attacks in
    let f2 = followed_at j c.attack.ensures.stays.at c.attack.ensures.stays.budget c.follow_move.ensures.follows in
    win_followed S b k c.args.intended u h c.args.page.now s.sum h1 s1.sum c.requires.attacker j h2 c.attack.new.page c.follow_move.new.page s2.sum c.follow_move.result a f2

-- a defender's position

pub follow_replies-loop-i-init : goal.follow_replies-loop-i-init
follow_replies-loop-i-init g t c =
    let s = c.args.self.now in
    record {
      stays = record { at = refl; path = refl; budget = refl; game = refl; table = refl; records = refl };
      replying = replying_start g.T.Table.storing s.budget.amount c.args.ply.number (g.G.Game.current s.game.now) (g.T.Table.standing s.table.now) c.args.page.now s.sum;
    }

pub follow_replies-write_move-requires : goal.follow_replies-write_move-requires
follow_replies-write_move-requires g t c =
    let v : Tree = g.G.Game.current c.loop-i.self.game.now in
    let at : length (next v) ≡ length (next (g.G.Game.current c.args.self.now.game.now)) = ap (λ (x : Tree). length (next x)) c.loop-i.invariant.stays.at in
    omega (arith, at, length-texts (moves v), c.count-i-end.ensures, c.loop-i-test.true)

pub follow_replies-returns-in_err-write_move-clause-follows : goal.follow_replies-returns-in_err-write_move-clause-follows
follow_replies-returns-in_err-write_move-clause-follows g t c = λ o.
    let s = c.args.self.now in let s1 = c.loop-i.self in
    let u : Tree = g.G.Game.current s.game.now in
    let i = c.loop-i.i in
    let v = c.loop-i.invariant in
    let low : i < length (next u) = omega (arith, c.count-i-end.ensures, c.loop-i-test.true) in
    let e = c.in_err-write_move.field-0.0 in
    let p2 = c.write_move.new.self in
    let w = subst (λ (x : Tree). Writes (reply_line c.args.ply.number (get_or (words x) i []) ∷ []) c.loop-i.page (Err e) p2) v.stays.at c.in_err-write_move.ensures in
    replying_cut g.T.Table.storing s.budget.amount c.args.ply.number u (g.T.Table.standing s.table.now) c.args.page.now s.sum i (g.T.Table.standing s1.table.now) c.loop-i.page s1.sum v.replying low
    o c.from_residual.result e p2 c.from_residual.ensures.1 c.requires.defender w

pub follow_replies-returns-in_err-follow_move-clause-follows : goal.follow_replies-returns-in_err-follow_move-clause-follows
follow_replies-returns-in_err-follow_move-clause-follows g t c = λ o.
    let S = g.T.Table.storing in
    let s = c.args.self.now in let s1 = c.loop-i.self in let s3 = c.follow_move.new.self in
    let u : Tree = g.G.Game.current s.game.now in
    let i = c.loop-i.i in let k = c.args.ply.number in let b = s.budget.amount in
    let v = c.loop-i.invariant in
    let low : i < length (next u) = omega (arith, c.count-i-end.ensures, c.loop-i-test.true) in
    let h1 = g.T.Table.standing s1.table.now in let h3 = g.T.Table.standing s3.table.now in
    let e = c.in_err-follow_move.field-0.0 in
    let p2 = c.write_move.new.self in
    let w = subst (λ (x : Tree). Writes (reply_line k (get_or (words x) i []) ∷ []) c.loop-i.page (Ok tt) p2) v.stays.at c.in_ok-write_move.ensures in
    let f2 = followed_at i v.stays.at v.stays.budget c.in_err-follow_move.ensures.follows in
    replying-last S b k u (g.T.Table.standing s.table.now) c.args.page.now s.sum i h1 c.loop-i.page s1.sum v.replying low p2 w (Err e) h3 c.follow_move.new.page s3.sum f2
    o e c.from_residual-in_err-follow_move.result c.requires.defender refl c.from_residual-in_err-follow_move.ensures.1

pub follow_replies-loop-i-preserved : goal.follow_replies-loop-i-preserved
follow_replies-loop-i-preserved g t c =
    let S = g.T.Table.storing in
    let s = c.args.self.now in let s1 = c.loop-i.self in let s3 = c.follow_move.new.self in
    let u : Tree = g.G.Game.current s.game.now in
    let i = c.loop-i.i in let k = c.args.ply.number in let b = s.budget.amount in
    let v = c.loop-i.invariant in
    let low : i < length (next u) = omega (arith, c.count-i-end.ensures, c.loop-i-test.true) in
    let h1 = g.T.Table.standing s1.table.now in let h3 = g.T.Table.standing s3.table.now in
    let p2 = c.write_move.new.self in
    let w = subst (λ (x : Tree). Writes (reply_line k (get_or (words x) i []) ∷ []) c.loop-i.page (Ok tt) p2) v.stays.at c.in_ok-write_move.ensures in
    let f2 = followed_at i v.stays.at v.stays.budget c.in_ok-follow_move.ensures.follows in
    record {
      stays = stays-join v.stays c.follow_move.ensures.stays;
      replying = replying-next S b k u (g.T.Table.standing s.table.now) c.args.page.now s.sum i h1 c.loop-i.page s1.sum v.replying low p2 w (Ok tt) h3 c.follow_move.new.page s3.sum f2 refl;
    }

pub follow_replies-returns-clause-follows : goal.follow_replies-returns-clause-follows
follow_replies-returns-clause-follows g t c = λ o.
    let s = c.args.self.now in let s1 = c.loop-i.self in
    replying_end g.T.Table.storing s.budget.amount c.args.ply.number (g.G.Game.current s.game.now) (g.T.Table.standing s.table.now) c.args.page.now s.sum o c.loop-i.i (g.T.Table.standing s1.table.now) c.loop-i.page s1.sum
    c.loop-i.invariant.replying (omega (arith, c.count-i-end.ensures, c.loop-i-test.false)) c.requires.defender
