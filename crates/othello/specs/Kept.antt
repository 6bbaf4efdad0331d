-- What every position keeps: it holds after a placement and after a pass.
use Rattle.std.specs.Prelude.{◌≡◌, ℕ, ◌^◌, ◌<◌, ◌≤◌, Bool, true, false, cond, Some, None, bit_and, refl}
use Rattle.std.proofs.Common.{arith}
use Rattle.othello_rules.specs.Diagrams.{empties, placeable, placed, passed}
use Rattle.othello_rules.specs.declared.diagram.Diagram.{Diagram}
use Rattle.othello.specs.Limits.{empties_limit}
use Rattle.othello.specs.Grown.{fewer}
use Rattle.othello.specs.Apart.{placed_apart, placed_fits}

-- no square with two discs, no disc off the board, at most 14 empty squares
pub record Keeps (d : Diagram) : Type 0 where
  pub apart : bit_and d.x d.o ≡ 0
  pub board : (d.x < 2 ^ 64) × (d.o < 2 ^ 64)
  pub few : empties d ≤ empties_limit

pub placed_keeps : (d : Diagram) (s : ℕ) → s < 64 → placeable d s ≡ true → Keeps d → Keeps (placed d s)
placed_keeps d s h e k = record {
  apart = placed_apart d s k.apart e;
  board = placed_fits d s;
  few = let f : empties d ≤ empties_limit = k.few in omega (arith, fewer d s h e);
}

pub passed_keeps : (d : Diagram) → Keeps d → Keeps (passed d)
unfolding empties
passed_keeps d k = record { apart = k.apart; board = k.board; few = k.few }

-- what a placement answers
pub some_placed : (d e : Diagram) (s : ℕ) (b : Bool) → Some e ≡ cond b (Some (placed d s)) None → (b ≡ true) × (e ≡ placed d s)
some_placed d e s true p = (refl, cc)
some_placed d e s false p = absurd (cc)
