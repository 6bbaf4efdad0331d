-- Moves taken back, one for each entry of a stack.
use Rattle.std.specs.Prelude.{ℕ, zero, suc, List, [], ◌∷◌}
use Rattle.game.specs.Tree.{Tree}

-- the current position and the earlier ones after n take-backs
unfoldable pub back : ℕ → Tree → List Tree → Tree × List Tree
back zero t ts = (t, ts)
back (suc n) t [] = (t, [])
back (suc n) t (u ∷ ts) = back n u ts
