-- The rule of turning, by direction and distance.
use Rattle.std.specs.Prelude.{◌≡◌, ℕ, ◌+◌, ◌<◌, ◌≤◌, true, false, [], map, Decides}
use Rattle.std.specs.List.{range_with_len}
use Rattle.board.specs.Squares.{reach, away, ray}
use Rattle.board.specs.declared.direction.Direction.{Direction}
use Rattle.board.specs.Masks.{member}
use Rattle.othello_rules.specs.Rules.{Squares, turned, flipped, legal}

-- hostile discs stand at the distances 1 to n, and no more; an own disc closes them, still on the board
pub record Closed (own other : Squares) (d : Direction) (s n : ℕ) : Type 0 where
  pub within : n < reach d s
  pub hostile : (k : ℕ) → 1 ≤ k → k ≤ n → other (away d s k) ≡ true
  pub ends : other (away d s (n + 1)) ≡ false
  pub closes : own (away d s (n + 1)) ≡ true

-- a closed run is turned, and else nothing is
abbrev pub Turning : Type 0
Turning =
    (own other : Squares) (d : Direction) (s : ℕ)
    → ((n : ℕ) → Closed own other d s n → turned own other (ray d s) ≡ map (away d s) (range_with_len 1 n))
    × (((n : ℕ) → Closed own other d s n → ⊥) → turned own other (ray d s) ≡ [])

-- the square q lies on a run that a disc on s closes in
pub record Flips (own other : Squares) (s q : ℕ) : Type 0 where
  pub direction : Direction
  pub run : ℕ
  pub closed : Closed own other direction s run
  pub distance : ℕ
  pub near : 1 ≤ distance
  pub far : distance ≤ run
  pub there : q ≡ away direction s distance

-- a placement turns exactly the squares of closed runs; it is legal exactly on an empty square from which it turns one
abbrev pub Placing : Type 0
Placing =
    (own other : Squares) (s : ℕ)
    → ((q : ℕ) → Decides (member q (flipped own other s)) (Flips own other s q))
    × Decides (legal own other s) ((own s ≡ false) × (other s ≡ false) × ((q : ℕ) × Flips own other s q))
