-- What a call of an iterator over squares gives, by the number of squares that it has given already.
use Rattle.std.specs.Prelude.{◌≡◌, ℕ, ◌+◌, ◌<◌, Option, MatchOption}
use Rattle.board.specs.declared.square.Square.{Square}
use Rattle.board.specs.declared.direction.Direction.{Direction}
use Rattle.board.specs.Squares.{reach, away}

-- all squares by number: the next is that of the number n, and after the last comes none
abbrev pub Counts : ℕ → Option Square → ℕ → Type 0
Counts n r m = MatchOption r ((n ≡ 64) × (m ≡ 64)) (λ q. (n < 64) × (q.number ≡ n) × (m ≡ n + 1))

-- a ray from s: the next is one step farther than n, and after the edge comes none
abbrev pub Walks : Direction → ℕ → ℕ → Option Square → ℕ → Type 0
Walks d s n r m = MatchOption r ((n ≡ reach d s) × (m ≡ n)) (λ q. (n < reach d s) × (q.number ≡ away d s (n + 1)) × (m ≡ n + 1))
