-- Squares of one number are one square.
use Rattle.std.proofs.Common.{◌≡◌, suc, ◌<◌}
use native.Mathlib.Bridge.{le_prop}
use mathlib.Core.HLevel.{is_prop→PathP}
use Rattle.board.specs.declared.square.Square.{Square}

pub same_square : (a b : Square) → a.number ≡ b.number → a ≡ b
same_square a b e = λ i. record {
  number = e i;
  ok = is_prop→PathP (λ j. e j < 64) (λ j. le_prop {n = suc (e j)} {m = 64}) a.ok b.ok i;
}
