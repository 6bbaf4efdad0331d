use Rattle.std.proofs.Common.{◌≡◌, ◌^◌, ◌<◌}
use Rattle.chess.specs.Code.{word}
use Rattle.chess.proofs.coding.word.Given as goal

abbrev pub invariant-loop-man : goal.invariant-loop-man
invariant-loop-man l = (l.word ≡ word l.board l.fn.start l.man-index) × (l.word < 16 ^ l.man-index)
