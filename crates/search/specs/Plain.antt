-- What the plain search finds with its share: the position's value and what it needs, or that it needs more.
use Rattle.std.specs.Prelude.{◌≡◌, ℕ, ◌<◌, ◌≤◌, Some, None, Option}
use Rattle.game.specs.Tree.{Tree, minimax}
use Rattle.search.specs.declared.entry.Found.{Found}
use Rattle.search_laws.specs.Trial.{need}

abbrev pub Searched : Tree → ℕ → Option Found → Type 0
Searched t share (Some f) = (f.won ≡ minimax t) × (f.entries ≡ need t) × (need t ≤ share)
Searched t share None = share < need t
