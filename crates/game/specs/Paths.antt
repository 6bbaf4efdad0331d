-- What a path holds, and when it has room for every move that can still be played.
use Rattle.std.specs.Prelude.{ℕ, ◌+◌, Bool, true, ◌&&◌, List, [], ◌∷◌, map, reverse, length, nat_le}
use Rattle.game.specs.Limits.{depth_limit}
use Rattle.game.specs.declared.path.Path.{Path}
use Rattle.game.specs.Places.{held}

-- the earlier positions, the latest first
abbrev pub before : {P : Type 0} → Path P → List P
before p = reverse (held p.earlier.items)

-- the ranks of a path's positions, the latest first: below each there are so few that its rank in moves still fits
abbrev pub roomy : List ℕ → Bool
roomy [] = true
roomy (r ∷ rs) = nat_le (r + length rs) depth_limit && roomy rs

abbrev pub ranks : {P : Type 0} → (P → ℕ) → Path P → List ℕ
ranks rank p = map rank (p.current ∷ before p)
