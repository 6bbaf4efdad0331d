-- What a call of a tester comes to, for any game and any table.
use Rattle.std.specs.Prelude.{◌≡◌, ℕ, ◌≤◌, List, [], ◌++◌, length, drop, codes}
use Rattle.game.specs.Tree.{Tree}
use Rattle.game.specs.Declines.{number}
use Rattle.game.specs.Limits.{records_needed}
use Rattle.game.specs.declared.decline.SetDecline.{SetDecline}
use Rattle.game.specs.declared.game.Game as game
use Rattle.table.specs.declared.Table as table
use Rattle.search_laws.specs.declared.answer.Answer.{Answer}
use Rattle.search_laws.specs.Calls.{budget_limit}
use Rattle.search_laws.specs.Words.{word}
use Rattle.solution_laws.specs.Words as endings
use Rattle.solution.specs.declared.answer.Solution.{Solution}
use Rattle.solution.specs.Limits.{buffer_limit}
use Rattle.tester.specs.declared.reply.Reply.{Reply}
use Rattle.tester.specs.declared.reply.Reply.TheVariants.{Done, NotSet, Tried, Solved}
use Rattle.tester.specs.Calls.{Stand, Asked, set, trial, solution, Lent, Does}

-- A call from a stand has an outcome, and each of its outcomes is as said: by its reply, by what the things lent then hold, and by where it
-- leaves the tester.
abbrev pub Comes : {G T : Type 0} → game.Ghosts G → (h : table.Ghosts T) → Stand h → Asked → Lent → (Reply → Lent → Stand h → Type 0) → Type 0
Comes g h s c l P =
    ((r : Reply) × (l' : Lent) × (s' : Stand h) × Does g h s c l r l' s')
    × ((r : Reply) (l' : Lent) (s' : Stand h) → Does g h s c l r l' s' → P r l' s')

-- A text that is set up under an aim, as a position: wherever the tester stands, the position is then the whole path, and the table is kept.
abbrev pub Sets : {G T : Type 0} → game.Ghosts G → table.Ghosts T → List ℕ → ℕ → Tree → Type 0
Sets g h x aim t =
    (s : Stand h) (l : Lent) →
    Comes g h s (set x aim) l (λ r l' s'. (r ≡ Done) × (l' ≡ l) × (s' ≡ record { current = t; earlier = []; standing = s.standing }))

-- a set that is declined by a number, and at a place in the text
pub record DeclinedAs (r : Reply) (n k : ℕ) : Type 0 where
  pub decline : SetDecline
  pub is : r ≡ NotSet decline
  pub number : number decline.cause ≡ n
  pub place : decline.place ≡ k

-- A text that is declined under an aim by a number, and at a place: wherever the tester stands, nothing is changed.
abbrev pub Declines : {G T : Type 0} → game.Ghosts G → table.Ghosts T → List ℕ → ℕ → ℕ → ℕ → Type 0
Declines g h x aim n k =
    (s : Stand h) (l : Lent) → Comes g h s (set x aim) l (λ r l' s'. DeclinedAs r n k × (l' ≡ l) × (s' ≡ s))

-- a trial that answers a verdict, by its word, and so many expansions and entries
pub record TriedAs (r : Reply) (v : List ℕ) (x e : ℕ) : Type 0 where
  pub answer : Answer
  pub is : r ≡ Tried answer
  pub verdict : word answer.verdict ≡ v
  pub expansions : answer.expansions ≡ x
  pub entries : answer.entries ≡ e

-- A trial from a stand, lent records enough, answers so; the path is kept, and where the table then stands is as said.
abbrev pub Tries : {G T : Type 0} → game.Ghosts G → (h : table.Ghosts T) → Stand h → ℕ → List ℕ → ℕ → ℕ → (Stand h → Type 0) → Type 0
Tries g h s b verdict expansions entries P =
    (l : Lent) → records_needed ≤ length l.records →
    Comes g h s (trial b) l (λ r l' s'. TriedAs r verdict expansions entries × (s'.current ≡ s.current) × (s'.earlier ≡ s.earlier) × P s')

-- a solution that is done, with so many lines, keys and duals, and the sum of all expansions and entries
pub record SolvedAs (r : Reply) (n k d m : ℕ) : Type 0 where
  pub answer : Solution
  pub is : r ≡ Solved answer
  pub ending : endings.word answer.ending ≡ codes "done"
  pub lines : answer.lines ≡ n
  pub keys : answer.keys ≡ k
  pub duals : answer.duals ≡ d
  pub sum : answer.sum ≡ m

-- A solution of a position with the intended move of a number. Wherever a tester stands at the position, with any budget that is taken,
-- records enough, and a buffer of the greatest length: the buffer then begins with the bytes and goes on as it was, and path and table
-- stay as they were.
abbrev pub Writes : {G T : Type 0} → game.Ghosts G → table.Ghosts T → Tree → ℕ → List ℕ → ℕ → ℕ → ℕ → ℕ → Type 0
Writes g h t intended bytes lines keys duals sum =
    (s : Stand h) (b : ℕ) (l : Lent) → s.current ≡ t → b ≤ budget_limit → records_needed ≤ length l.records → length l.buffer ≡ buffer_limit →
    Comes g h s (solution intended b) l
    (λ r l' s'. SolvedAs r lines keys duals sum × (l'.buffer ≡ bytes ++ drop (length bytes) l.buffer) × (s' ≡ s))
