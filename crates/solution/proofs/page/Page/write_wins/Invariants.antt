use Rattle.game.specs.Tree.{words}
use Rattle.solution.proofs.Pages.{Adding}
use Rattle.solution.proofs.page.Page.write_wins.Given as goal

abbrev pub invariant-loop-i : goal.invariant-loop-i
invariant-loop-i g l = Adding l.ply.number l.chosen l.flags (words (g.G.Game.current l.game)) l.i l.initial.self l.self
