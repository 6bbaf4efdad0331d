-- The places of a path, each of which has a position or none.
use Rattle.std.specs.Prelude.{List, [], ◌∷◌, Some, None, Option}

-- the positions in places, in their order
unfoldable pub held : {P : Type 0} → List (Option P) → List P
held [] = []
held (None ∷ os) = held os
held (Some p ∷ os) = p ∷ held os
