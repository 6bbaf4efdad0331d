-- What the plain search still has to do, from its stack and its path.
use Rattle.std.specs.Prelude.{◌≡◌, ℕ, zero, suc, ◌+◌, ◌<◌, ◌≤◌, Bool, true, false, cond, List, [], ◌∷◌, length}
use Rattle.game.specs.Limits.{depth_limit}
use Rattle.game.specs.Tree.{Tree, Moves, node, none, move, rank, moves, next, minimax, some_won, all_won}
use Rattle.table.specs.declared.side.Side.{Side}
use Rattle.table.specs.declared.side.Side.TheVariants.{Attacker as Attacks, Defender as Defends}
use Rattle.search.specs.declared.entry.Entry.{Entry}
use Rattle.search.specs.declared.entry.Turn.{Turn}
use Rattle.search.specs.declared.entry.Turn.TheVariants.{Look, Try, Back}
use Rattle.search_laws.specs.Trial.{need, until_won, until_not_won}

-- the moves from the i-th on
abbrev pub skipped : ℕ → Moves → Moves
skipped zero m = m
skipped (suc i) none = none
skipped (suc i) (move x t m) = skipped i m

-- whether this side is the attacker: whose position is won if the attacker has it, and who is to move
abbrev pub wins : Side → Bool
wins Attacks = true
wins Defends = false

-- a position under way: whether the attacker is to move there, and the moves not yet tried
pub data Opened : Type 0 where
  opened : Bool → Moves → Opened

abbrev pub open_at : Entry → Tree → Opened
open_at e t = opened (wins e.side) (skipped e.next (moves t))

unfoldable pub below : List Entry → List Tree → List Opened
below [] ts = []
below (e ∷ es) [] = []
below (e ∷ es) (t ∷ ts) = open_at e t ∷ below es ts

-- the value of a position under way by its moves not yet tried, none of the others having decided, and what they need
abbrev pub value : Opened → Bool
value (opened true m) = some_won m
value (opened false m) = all_won m

abbrev pub cost : Opened → ℕ
cost (opened true m) = until_won m
cost (opened false m) = until_not_won m

abbrev pub alike : Bool → Bool → Bool
alike true b = b
alike false true = false
alike false false = true

abbrev pub decides : Opened → Bool → Bool
decides (opened a m) v = alike a v

pub data Result : Type 0 where
  result : Bool → ℕ → Result

-- the result of the whole search once the current position has the value v and n entries are taken
unfoldable pub final : List Opened → Bool → ℕ → Result
final [] v n = result v n
final (f ∷ fs) v n = cond (decides f v) (final fs v n) (final fs (value f) (n + cost f))

-- how much work is left, for the search to end
unfoldable mutual
  pub size : Tree → ℕ
  size (node s r c m) = 3 + sizes m

  pub sizes : Moves → ℕ
  sizes none = 0
  sizes (move x t m) = 1 + size t + sizes m

abbrev pub untried : Opened → Moves
untried (opened a m) = m

unfoldable pub rest : List Opened → ℕ
rest [] = 0
rest (f ∷ fs) = 2 + sizes (untried f) + rest fs

unfoldable pub work : Turn → List Entry → Tree → List Tree → ℕ
work Look es t ts = size t + rest (below es ts)
work (Try e) es t ts = 2 + sizes (untried (open_at e t)) + rest (below es ts)
work (Back s) es t ts = 1 + rest (below es ts)

-- the path leads back to the start; its ranks leave room on the stack, and its entries know their moves' number
unfoldable pub Leads : List Entry → Tree → List Tree → Tree → List Tree → Type 0
Leads [] t ts t₀ ts₀ = (t ≡ t₀) × (ts ≡ ts₀)
Leads (e ∷ es) t [] t₀ ts₀ = ⊥
Leads (e ∷ es) t (u ∷ ts) t₀ ts₀ = (rank u + length es ≤ depth_limit) × (e.count ≡ length (next u)) × Leads es u ts t₀ ts₀

abbrev pub goal : Tree → Result
goal t = result (minimax t) (need t)

-- the stack, the path and the entries taken so far fit a search from t₀, with the path ts₀ before it
unfoldable pub Holds : Turn → List Entry → Tree → List Tree → ℕ → Tree → List Tree → Type 0
Holds Look es t ts n t₀ ts₀ =
    (rank t + length es ≤ depth_limit) × Leads es t ts t₀ ts₀ × (final (below es ts) (minimax t) (n + need t) ≡ goal t₀)
Holds (Try e) es t ts n t₀ ts₀ =
    (rank t + length es ≤ depth_limit) × (e.count ≡ length (next t)) × Leads es t ts t₀ ts₀
    × (final (below es ts) (value (open_at e t)) (n + cost (open_at e t)) ≡ goal t₀)
Holds (Back s) es t ts n t₀ ts₀ = Leads es t ts t₀ ts₀ × (final (below es ts) (wins s) n ≡ goal t₀)

-- a turn of the search: it still fits, and less is left to do
unfoldable pub Goes : Turn → List Entry → Tree → List Tree → ℕ → Turn → List Entry → Tree → List Tree → ℕ → Type 0
Goes s es t ts n s' es' t' ts' n' =
    (t₀ : Tree) (ts₀ : List Tree) → Holds s es t ts n t₀ ts₀ → Holds s' es' t' ts' n' t₀ ts₀ × (work s' es' t' ts' < work s es t ts)
