use Rattle.std.proofs.Common.{◌≡◌, ◌<◌, ◌+◌, false, true, [], ◌∷◌, Ok, Err, List, length, get_or, sym, subst, arith}
use Rattle.game.specs.Tree.{words}
use Rattle.solution_laws.specs.Lines.{Line}
use Rattle.solution_laws.specs.Solution.{chosen_line, others_from, wins}
use Rattle.solution.specs.declared.page.Page.{Page}
use Rattle.solution.specs.Pages.{Writes}
use Rattle.solution.proofs.Pages.{Adding, writes-on, writes-cut, writes-err, written_none, adding_next, adding_stop, adding_end, other_none, other_some}
use Rattle.solution.proofs.page.Page.write_wins.Goals as goal
use Rattle.solution.proofs.page.Page.write_wins.Goals.{then-won+then-i-chosen+in_ok-write_move-2, else-won, else-won-via-then-won+else-i-chosen, else-won-via-else-won}

pub returns-in_err-write_move-2 : goal.returns-in_err-write_move-2
returns-in_err-write_move-2 g c =
    let xs = words (g.G.Game.current c.args.game.now) in
    let k = c.args.ply.number in let j = c.args.chosen in let ws = c.args.flags.now in
    let e = c.in_err-write_move-2.field-0.0 in
    let w = subst (λ (x : List Line). Writes x c.loop-i.self (Err e) c.write_move-then-i-chosen.new.self) (sym (other_some k j ws xs c.loop-i.i c.if-won.true c.if-i-chosen.true)) c.in_err-write_move-2.ensures in
    writes-err {e = e} (wins k j ws xs) c.from_residual-in_err-write_move-2.result c.from_residual-in_err-write_move-2.ensures.0
    (writes-cut (chosen_line k (get_or xs j []) ∷ []) (others_from k j 0 ws xs) c.in_ok-write_move.ensures
    (adding_stop k j ws xs c.loop-i.i (omega arith) (omega arith) c.loop-i.invariant w))

pub loop-i-preserved : goal.loop-i-preserved
loop-i-preserved g c =
    let xs = words (g.G.Game.current c.args.game.now) in
    let k = c.args.ply.number in let j = c.args.chosen in let ws = c.args.flags.now in let i = c.loop-i.i in
    let m : i < length ws = omega arith in
    let n : i < length xs = omega arith in
    elim c.if-won.branch [
      | then-won+then-i-chosen+in_ok-write_move-2 w ↦
          let v = subst (λ (x : List Line). Writes x c.loop-i.self (Ok tt) w.write_move-then-i-chosen.new.self) (sym (other_some k j ws xs i w.if-won.true w.if-i-chosen.true)) w.in_ok-write_move-2.ensures in
          subst (λ (p : Page). Adding k j ws xs (i + 1) c.write_move.new.self p) (sym w.self-is) (adding_next k j ws xs i m n c.loop-i.invariant v)
      | else-won w ↦
          let h : get_or ws i false ≡ true → i ≡ j = elim w.else-won.branch [ else-won-via-then-won+else-i-chosen x ↦ λ e. x.if-i-chosen.false | else-won-via-else-won x ↦ λ e. let z = x.if-won.false in cc ] in
          let v = subst (λ (x : List Line). Writes x c.loop-i.self (Ok tt) c.loop-i.self) (sym (other_none k j ws xs i h)) (omega arith, written_none c.loop-i.self) in
          subst (λ (p : Page). Adding k j ws xs (i + 1) c.write_move.new.self p) (sym w.self-is) (adding_next k j ws xs i m n c.loop-i.invariant v)
    ]

pub returns : goal.returns
returns g c =
    let xs = words (g.G.Game.current c.args.game.now) in
    let k = c.args.ply.number in let j = c.args.chosen in let ws = c.args.flags.now in
    writes-on (chosen_line k (get_or xs j []) ∷ []) (others_from k j 0 ws xs) c.in_ok-write_move.ensures
    (adding_end k j ws xs c.loop-i.i (omega arith) c.loop-i.invariant)
