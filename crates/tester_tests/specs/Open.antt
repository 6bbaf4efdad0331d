-- What an open pile's text says: what it says of a pile of stones, but a pile with no stone is refused, for a cause that no other game has.
use Rattle.std.specs.Prelude.{ℕ, cond, List, length, ◌==◌}
use Rattle.game.specs.Tree.{Reading, position, refused, next}
use Rattle.stones.specs.Piles as piles

abbrev pub with_a_stone : Reading → Reading
with_a_stone (position t) = cond (length (next t) == 0) (refused 42 0) (position t)
with_a_stone (refused n k) = refused n k

abbrev pub reading : List ℕ → ℕ → Reading
reading x aim = with_a_stone (piles.reading x aim)
