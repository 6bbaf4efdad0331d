-- What stays as it is where a side passes.
use Rattle.std.proofs.Common.{◌≡◌, ◌^◌, ◌<◌, ◌≤◌}
use lib.Bits.{bit_and}
use Rattle.othello_rules.specs.Diagrams.{empties, passed}
use Rattle.othello_rules.specs.declared.diagram.Diagram.{Diagram}
use Rattle.othello.specs.Limits.{empties_limit}

module _ (d e : Diagram) (p : e ≡ passed d) where
  pub passed_apart : bit_and d.x d.o ≡ 0 → bit_and e.x e.o ≡ 0
  passed_apart h = rw p h

  pub passed_board : (d.x < 2 ^ 64) × (d.o < 2 ^ 64) → (e.x < 2 ^ 64) × (e.o < 2 ^ 64)
  passed_board h = rw p h

  pub passed_few : empties d ≤ empties_limit → empties e ≤ empties_limit
  unfolding empties
  passed_few h = rw p h
