-- The laws of a game, for open piles: those of stones, but for what is read.
use Rattle.std.specs.Prelude.{◌≡◌, ℕ, Bool, true, false, cond, List, length, ◌==◌}
use Rattle.std.proofs.Common.{arith}
use Rattle.game.specs.Tree.{Tree, Reading, position, refused, next}
use Rattle.game.specs.Rules.{Rules, Refusal}
use Rattle.game.specs.declared.decline.Decline.TheVariants.{Own}
use Rattle.stones.specs.Piles.{tree, IsPile}
use Rattle.stones.specs.Piles as piles
use Rattle.stones.specs.Laws as stones
use Rattle.tester_tests.specs.Open.{with_a_stone, reading}

-- what is read is what stones read
as_stones : (r : Reading) (t : Tree) → with_a_stone r ≡ position t → r ≡ position t
as_stones (position u) t e = by (length (next u) == 0) e
  where
    by : (b : Bool) → cond b (refused 42 0) (position u) ≡ position t → position u ≡ position t
    by true c = absurd (cc)
    by false c = c
as_stones (refused n k) t e = absurd (cc)

-- what is refused is what stones refuse, or has the game's own cause
refusal : (x : List ℕ) (n k : ℕ) (r : Reading) → ((m j : ℕ) → r ≡ refused m j → Refusal x m j) → with_a_stone r ≡ refused n k → Refusal x n k
refusal x n k (position u) f e = by (length (next u) == 0) e
  where
    by : (b : Bool) → cond b (refused 42 0) (position u) ≡ refused n k → Refusal x n k
    by true c =
        let z : 0 ≡ k = cc in
        record { caused = (Own (record { number = 42; above = omega arith }), cc); placed = omega arith; at_start = λ _. omega arith }
    by false c = absurd (cc)
refusal x n k (refused m j) f e = f n k e

pub rules : Rules (tree 4 true) IsPile 4 2 reading
rules =
    let s = stones.rules in
    record {
      begun = s.begun;
      reads = λ x aim t e. s.reads x aim t (as_stones (piles.reading x aim) t e);
      attacks = λ x aim t e. s.attacks x aim t (as_stones (piles.reading x aim) t e);
      closed = s.closed;
      refuses = λ x aim n k e. refusal x n k (piles.reading x aim) (s.refuses x aim) e;
      over = s.over;
      alive = s.alive;
      narrow = s.narrow;
      shallow = s.shallow;
      ranked = s.ranked;
      falls = s.falls;
      low = s.low;
      small = s.small;
      five = s.five;
      distinct = s.distinct;
      coded = s.coded;
      codes = s.codes;
    }
