-- The game of a tester, and where a tester stands.
use Rattle.game.specs.declared.game.Game as game
use Rattle.table.specs.declared.Table as table
use Rattle.tester.specs.declared.tester.Tester.{Tester}
use Rattle.tester.specs.Calls.{Stand, at}

abbrev pub game_of : {G T : Type 0} (g : game.Ghosts G) (h : table.Ghosts T) → Tester G T g h → G
game_of g h t = t.game

abbrev pub stand : {G T : Type 0} (g : game.Ghosts G) (h : table.Ghosts T) → Tester G T g h → Stand h
stand g h t = at g h t.game t.table
