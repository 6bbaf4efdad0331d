-- What a game keeps, whichever it is.
use Rattle.std.specs.Prelude.{◌≡◌, ℕ, ◌*◌, ◌^◌, ◌<◌, ◌≤◌, true, false, List, [], length, ◌≢◌, slice_index_or}
use Rattle.std.specs.List.{AllByRecursion}
use Rattle.game.specs.declared.state.State.TheVariants.{Defender}
use Rattle.game.specs.declared.decline.Decline.{Decline}
use Rattle.game.specs.Declines.{number}
use Rattle.game.specs.Limits.{depth_limit, records_needed}
use Rattle.game.specs.Tree.{Tree, Reading, position, refused, state, rank, code, next, words, ended, nowhere}

-- what positions with equal codes share: state, rank, count and texts, and the codes after moves of equal number
pub record Alike (t u : Tree) : Type 0 where
  pub states : state t ≡ state u
  pub ranks : rank t ≡ rank u
  pub counts : length (next t) ≡ length (next u)
  pub texts : words t ≡ words u
  pub codes : (i : ℕ) → i < length (next t) → code (slice_index_or (next t) i nowhere) ≡ code (slice_index_or (next u) i nowhere)

-- what is told of a text that is not set up: the number of a cause, and a place within the text, which is 0 unless the text departs from its
-- form, which is number 8
pub record Refusal (x : List ℕ) (n k : ℕ) : Type 0 where
  pub caused : (d : Decline) × (number d ≡ n)
  pub placed : k ≤ length x
  pub at_start : n ≢ 8 → k ≡ 0

-- `start` is a fresh game's position, `positions` says which trees are positions of the game, and `reading`
-- is its reading rule: of a text and an aim
pub record Rules (start : Tree) (positions : Tree → Type 0) (depth width : ℕ) (reading : List ℕ → ℕ → Reading) : Type 0 where
  -- play begins among the positions of the game and stays there; the side to move in what a text says attacks
  pub begun : positions start
  pub reads : (x : List ℕ) (aim : ℕ) (t : Tree) → reading x aim ≡ position t → positions t
  pub attacks : (x : List ℕ) (aim : ℕ) (t : Tree) → reading x aim ≡ position t → state t ≢ Defender
  pub closed : (t : Tree) → positions t → AllByRecursion positions (next t)
  pub refuses : (x : List ℕ) (aim n k : ℕ) → reading x aim ≡ refused n k → Refusal x n k
  -- the move count: 0 exactly when the position has ended, and at most the width
  pub over : (t : Tree) → positions t → ended (state t) ≡ true → length (next t) ≡ 0
  pub alive : (t : Tree) → positions t → ended (state t) ≡ false → 0 < length (next t)
  pub narrow : (t : Tree) → positions t → length (next t) ≤ width
  -- the rank: at most the depth, at least 1 unless the position has ended, and lower after each move
  pub shallow : (t : Tree) → positions t → rank t ≤ depth
  pub ranked : (t : Tree) → positions t → ended (state t) ≡ false → 0 < rank t
  pub falls : (t : Tree) → positions t → AllByRecursion (λ u. rank u < rank t) (next t)
  pub low : depth ≤ depth_limit
  pub small : depth * width ≤ records_needed
  -- texts of five bytes, no two of a position the same
  pub five : (t : Tree) → positions t → AllByRecursion (λ x. length x ≡ 5) (words t)
  pub distinct : (t : Tree) → positions t → (i j : ℕ) → i < length (words t) → j < length (words t) → slice_index_or (words t) i [] ≡ slice_index_or (words t) j [] → i ≡ j
  -- codes of five words of 64 bits
  pub coded : (t : Tree) → positions t → (length (code t) ≡ 5) × AllByRecursion (λ w. w < 2 ^ 64) (code t)
  pub codes : (t u : Tree) → positions t → positions u → code t ≡ code u → Alike t u

-- positions with equal codes are the same tree: so they have the same value, need and lines
abbrev pub CodesTell : (Tree → Type 0) → Type 0
CodesTell positions = (t u : Tree) → positions t → positions u → code t ≡ code u → t ≡ u
