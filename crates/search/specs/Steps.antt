-- The run over a stack and lent records: what they stand for, and what a step of the program keeps.
use Rattle.std.specs.Prelude.{◌≡◌, ℕ, ◌+◌, ◌*◌, ◌<◌, ◌≤◌, List, [], ◌∷◌, length}
use Rattle.std.specs.List.{between}
use Rattle.game.specs.Limits.{depth_limit, records_needed}
use Rattle.game.specs.Tree.{Tree, state, rank, next}
use Rattle.table.specs.declared.pair.Pair.{Pair}
use Rattle.table.specs.Numbers.{top}
use Rattle.table.specs.Frames.{chosen_at}
use Rattle.search.specs.declared.frame.Frame.{Frame as Kept}
use Rattle.search.specs.declared.frame.Step.{Step}
use Rattle.search.specs.declared.frame.Step.TheVariants.{Enter, Work, Back}
use Rattle.search_laws.specs.declared.thresholds.Thresholds.{Thresholds}
use Rattle.search_laws.specs.Run.{mover, replaced, Outcome, stopped, gave, Enters, Works}
use Rattle.table.specs.Storings.{Storing}

-- a frame's successors' pairs: its part of the records
abbrev pub part : Kept → List Pair → List Pair
part e rs = between e.base e.end rs

-- a frame that waits for the pair of the successor that it has taken: its position, its thresholds and its successors' pairs
pub record Waiting : Type 0 where
  pub at : Tree
  pub thresholds : Thresholds
  pub pairs : List Pair

-- the one that an entry of the stack stands for, with its position
abbrev pub waiting_frame : Kept → Tree → List Pair → Waiting
waiting_frame e t rs = record { at = t; thresholds = e.thresholds; pairs = part e rs }

-- the frames that wait, of the positions before the current one
unfoldable pub waiting_frames : List Kept → List Tree → List Pair → List Waiting
waiting_frames [] ts rs = []
waiting_frames (e ∷ es) [] rs = []
waiting_frames (e ∷ es) (t ∷ ts) rs = waiting_frame e t rs ∷ waiting_frames es ts rs

-- what the run comes to once a frame has come to an outcome: through the frames below it, each of which waits for its successor's pair
unfoldable pub Through : (S : Storing) → List Waiting → Outcome S.Standing → Outcome S.Standing → Type 0
Through S fs (stopped h) o = stopped h ≡ o
Through S [] (gave h n p) o = gave h n p ≡ o
Through S (f ∷ fs) (gave h n p) o = (o' : Outcome S.Standing) × Works S h n f.at f.thresholds (replaced f.at f.pairs p) o' × Through S fs o' o

-- what the run comes to from where it stands
unfoldable pub Comes : (S : Storing) → Step → List Kept → Tree → List Tree → List Pair → S.Standing → ℕ → Outcome S.Standing → Type 0
Comes S (Enter l) es t ts rs h n o = (o' : Outcome S.Standing) × Enters S h n t l o' × Through S (waiting_frames es ts rs) o' o
Comes S (Work e) es t ts rs h n o = (o' : Outcome S.Standing) × Works S h n t e.thresholds (part e rs) o' × Through S (waiting_frames es ts rs) o' o
Comes S (Back p) es t ts rs h n o = Through S (waiting_frames es ts rs) (gave h n p) o

-- the first record that no frame has
abbrev pub free : List Kept → ℕ
free [] = 0
free (e ∷ es) = e.end

-- an entry fits its position: a record for each successor, above those of the frames below; and there is room for all that can follow
pub record Fits (w : ℕ) (e : Kept) (t : Tree) (es : List Kept) : Type 0 where
  pub side : e.side ≡ mover (state t)
  pub ends : e.base + length (next t) ≡ e.end
  pub above : free es ≤ e.base
  pub proof : e.thresholds.proof ≤ top
  pub disproof : e.thresholds.disproof ≤ top
  pub places : rank t + length es ≤ depth_limit
  pub space : e.base + rank t * w ≤ records_needed
  pub inside : e.end ≤ records_needed

-- a frame that waits for its successor has taken the one that it must take
pub record Waits (e : Kept) (t : Tree) (rs : List Pair) : Type 0 where
  pub number : e.chosen ≡ chosen_at (mover (state t)) (part e rs)
  pub among : e.base + e.chosen < e.end

-- the stack has the frames of the positions before the current one, back to the start, and each of them waits
unfoldable pub Under : ℕ → List Kept → Tree → List Tree → List Pair → Tree → List Tree → Type 0
Under w [] t ts rs t₀ ts₀ = (t ≡ t₀) × (ts ≡ ts₀)
Under w (e ∷ es) t [] rs t₀ ts₀ = ⊥
Under w (e ∷ es) t (u ∷ ts) rs t₀ ts₀ = Fits w e u es × Waits e u rs × Under w es u ts rs t₀ ts₀

-- the stack, the path and the records fit together
unfoldable pub Stands : ℕ → Step → List Kept → Tree → List Tree → List Pair → Tree → List Tree → Type 0
Stands w (Enter l) es t ts rs t₀ ts₀ =
    (l.proof ≤ top) × (l.disproof ≤ top) × (rank t + length es ≤ depth_limit) × (free es + rank t * w ≤ records_needed) × Under w es t ts rs t₀ ts₀
Stands w (Work e) es t ts rs t₀ ts₀ = Fits w e t es × Under w es t ts rs t₀ ts₀
Stands w (Back p) es t ts rs t₀ ts₀ = Under w es t ts rs t₀ ts₀

-- how much is left to do, for the run to end
unfoldable pub work : Step → List Kept → ℕ → ℕ
work (Enter l) es n = 2 * length es + 4 * n
work (Work e) es n = 3 + 2 * length es + 4 * n
work (Back p) es n = 2 + 2 * length es + 4 * n

-- A step of the program, from any start: all still fits, the run from here comes to what it comes to from there, and less is left to do.
unfoldable pub Goes : (S : Storing) → ℕ → Step → List Kept → Tree → List Tree → List Pair → S.Standing → ℕ
    → Step → List Kept → Tree → List Tree → List Pair → S.Standing → ℕ → Type 0
Goes S w s es t ts rs h n s' es' t' ts' rs' h' n' =
    (t₀ : Tree) (ts₀ : List Tree) → Stands w s es t ts rs t₀ ts₀
    → Stands w s' es' t' ts' rs' t₀ ts₀
    × ((o : Outcome S.Standing) → Comes S s' es' t' ts' rs' h' n' o → Comes S s es t ts rs h n o)
    × (work s' es' n' < work s es n)
