-- What holds of runs and trials.
use Rattle.std.specs.Prelude.{◌≡◌, ℕ, ◌+◌, ◌<◌, ◌≤◌, true, false, not, T, ◌⊎◌, List, length, Some, None, codes, ◌≢◌}
use Rattle.std.specs.List.{AllByRecursion, All, Any}
use Rattle.game.specs.declared.state.State.{State}
use Rattle.game.specs.Tree.{Tree, state, code, next, ended, minimax}
use Rattle.game.specs.Rules.{CodesTell}
use Rattle.table.specs.declared.pair.Pair.{Pair}
use Rattle.table.specs.Numbers.{top, others}
use Rattle.table.specs.Pairs.{Shown, won, not_won, own}
use Rattle.table.specs.Storings.{Storing}
use Rattle.search_laws.specs.declared.answer.Answer.{Answer}
use Rattle.search_laws.specs.declared.thresholds.Thresholds.{Thresholds}
use Rattle.search_laws.specs.Run.{mover, OwnPair, Reached, Below, chosen, taken, taken_thresholds, replaced, tops, Outcome, stopped, gave, Enters, Works}
use Rattle.search_laws.specs.Entered.{frames, left_after}
use Rattle.search_laws.specs.Trial.{Trial, known, need, half, share}
use Rattle.search_laws.specs.Words.{word}

-- A game's positions: with each position its successors, and no code of two positions.
pub record Ranging (positions : Tree → Type 0) : Type 0 where
  pub closed : (t : Tree) → positions t → AllByRecursion positions (next t)
  pub codes : CodesTell positions

-- a pair is right of a position: if it is decided, the position has that value
abbrev pub Agrees : Tree → Pair → Type 0
Agrees t p = (p ≡ won → minimax t ≡ true) × (p ≡ not_won → minimax t ≡ false)

-- what a table shows is sound if every decided pair in it is right
abbrev pub Sound : (Tree → Type 0) → Shown → Type 0
Sound positions shown = (t : Tree) → positions t → (p : Pair) → shown (code t) ≡ Some p → Agrees t p

-- a state that is no end
abbrev pub Active : State → Type 0
Active s = T (not (ended s))

-- thresholds of a run: none is above `top`
abbrev pub UpToTop : Thresholds → Type 0
UpToTop l = (l.proof ≤ top) × (l.disproof ≤ top)

-- A frame has one pair of its own.
abbrev pub OnePair : Type 0
OnePair = (t : Tree) (ps : List Pair) → (p : Pair) × OwnPair t ps p × ((q : Pair) → OwnPair t ps q → q ≡ p)

-- Every frame that is entered from a position that has not ended, with thresholds up to `top`, is of a position that has not ended, and has
-- thresholds up to `top`. So it is with all frames of a run.
abbrev pub FramesAreActive : Storing → Type 0
FramesAreActive S =
    (standing : S.Standing) (left : ℕ) (t : Tree) (l : Thresholds) (o : Outcome S.Standing) (e : Enters S standing left t l o) →
    Active (state t) → UpToTop l → AllByRecursion (λ f. Active (state f.at) × UpToTop f.thresholds) (frames e)

-- A pair that a frame hands on has a number that has reached its threshold.
abbrev pub GivenReaches : Storing → Type 0
GivenReaches S =
    (standing standing' : S.Standing) (left left' : ℕ) (t : Tree) (l : Thresholds) (p : Pair) →
    Enters S standing left t l (gave standing' left' p) → Reached l p

-- Where a table shows no false decided pair, it shows none after a frame is done, also where the run stops there, and the pair that the frame
-- hands on is right. The frame of the start position is the run.
abbrev pub RunsAreRight : (Tree → Type 0) → Storing → Type 0
RunsAreRight positions S =
    (standing : S.Standing) (left : ℕ) (t : Tree) (l : Thresholds) (standing' : S.Standing) → Sound positions (S.shows standing) →
    positions t → Active (state t) → UpToTop l →
    (Enters S standing left t l (stopped standing') → Sound positions (S.shows standing'))
    × ((left' : ℕ) (p : Pair) → Enters S standing left t l (gave standing' left' p) → Sound positions (S.shows standing') × Agrees t p)

-- Expansions are the frames entered: these and the expansions left are those that there were, and a trial that runs answers their number.
abbrev pub FramesCount : Storing → Type 0
FramesCount S =
    (standing : S.Standing) (left : ℕ) (t : Tree) (l : Thresholds) (o : Outcome S.Standing) (e : Enters S standing left t l o) →
    length (frames e) + left_after o ≡ left

abbrev pub ExpansionsCount : Storing → Type 0
ExpansionsCount S =
    (standing : S.Standing) (t : Tree) (b : ℕ) (a : Answer) (standing' : S.Standing) → Trial S standing t b a standing' →
    known (S.shows standing) t ≡ None →
    (o : Outcome S.Standing) × (e : Enters S standing (half b) t tops o) × (a.expansions ≡ length (frames e))

-- What thresholds are for. Of a frame that goes on, put any pair in the place of the successor that it takes. If a number of this pair has
-- reached the successor's threshold, then a number of the frame has reached the frame's own, or some other successor has a lesser proof
-- number. If neither has, then neither number of the frame has, and no other successor has a lesser one. With the defender to move it is a
-- lesser disproof number. So a frame is left exactly when the frame that took it would take another successor, or is to be left itself.
abbrev pub ThresholdsTell : Type 0
ThresholdsTell =
    (t : Tree) (l : Thresholds) (ps : List Pair) (p q p' : Pair) → UpToTop l → OwnPair t ps p → Below l p → OwnPair t (replaced t ps q) p' →
    (Reached (taken_thresholds t l ps) q → Reached l p' ⊎ Any (λ r. own (mover (state t)) r < own (mover (state t)) q) (others (chosen t ps) ps))
    × (Below (taken_thresholds t l ps) q → Below l p' × All (λ r. own (mover (state t)) q ≤ own (mover (state t)) r) (others (chosen t ps) ps))

-- So once a successor has given its pair, the frame gives its own or takes another successor.
abbrev pub TakesAnother : Storing → Type 0
TakesAnother S =
    (standing standing' : S.Standing) (left left' : ℕ) (t : Tree) (l : Thresholds) (ps : List Pair) (p q p' : Pair) → UpToTop l →
    OwnPair t ps p → Below l p → Enters S standing left (taken t ps) (taken_thresholds t l ps) (gave standing' left' q) →
    OwnPair t (replaced t ps q) p' → Reached l p' ⊎ (chosen t (replaced t ps q) ≢ chosen t ps)

-- Where a table shows no false decided pair, it shows none after a trial, also where that is spent, and a verdict won or not won is
-- minimax's.
abbrev pub TrialsAreRight : (Tree → Type 0) → Storing → Type 0
TrialsAreRight positions S =
    (standing : S.Standing) (t : Tree) (b : ℕ) (a : Answer) (standing' : S.Standing) → Sound positions (S.shows standing) → positions t →
    Trial S standing t b a standing' →
    Sound positions (S.shows standing') × (word a.verdict ≡ codes "won" → minimax t ≡ true) × (word a.verdict ≡ codes "not-won" → minimax t ≡ false)

-- A trial says spent only where the plain search needs more than its share.
abbrev pub SpentIsMeant : Storing → Type 0
SpentIsMeant S =
    (standing : S.Standing) (t : Tree) (b : ℕ) (a : Answer) (standing' : S.Standing) → Trial S standing t b a standing' →
    word a.verdict ≡ codes "spent" → share b < need t

-- More expansions change nothing about a frame, or a run, that gave its pair: it gives the same, and leaves the table standing where it did.
abbrev pub RunsLast : Storing → Type 0
RunsLast S =
    (standing standing' : S.Standing) (left left' k : ℕ) (t : Tree) (l : Thresholds) (p : Pair) →
    Enters S standing left t l (gave standing' left' p) → Enters S standing (left + k) t l (gave standing' (left' + k) p)

-- A verdict won or not won is also the verdict from the same standing with any larger budget.
abbrev pub VerdictsLast : (Tree → Type 0) → Storing → Type 0
VerdictsLast positions S =
    (standing : S.Standing) (t : Tree) (b b' : ℕ) (a a' : Answer) (standing' standing'' : S.Standing) → Sound positions (S.shows standing) → positions t → b ≤ b' →
    Trial S standing t b a standing' → Trial S standing t b' a' standing'' → (word a.verdict ≢ codes "spent") → word a'.verdict ≡ word a.verdict

-- A run has one outcome, and a trial one answer and one standing after it.
abbrev pub RunsAgree : Storing → Type 0
RunsAgree S =
    (standing : S.Standing) (left : ℕ) (t : Tree) (l : Thresholds) (o o' : Outcome S.Standing) →
    Enters S standing left t l o → Enters S standing left t l o' → o ≡ o'

-- A frame at work has one outcome, whatever its successors' pairs are.
abbrev pub FramesAgree : Storing → Type 0
FramesAgree S =
    (standing : S.Standing) (left : ℕ) (t : Tree) (l : Thresholds) (ps : List Pair) (o o' : Outcome S.Standing) →
    Works S standing left t l ps o → Works S standing left t l ps o' → o ≡ o'

abbrev pub TrialsAgree : Storing → Type 0
TrialsAgree S =
    (standing : S.Standing) (t : Tree) (b : ℕ) (a a' : Answer) (standing' standing'' : S.Standing) →
    Trial S standing t b a standing' → Trial S standing t b a' standing'' → (a ≡ a') × (standing' ≡ standing'')

-- Every run ends.
abbrev pub RunsEnd : Storing → Type 0
RunsEnd S = (standing : S.Standing) (left : ℕ) (t : Tree) (l : Thresholds) → (o : Outcome S.Standing) × Enters S standing left t l o

-- Every frame at work ends, whatever its successors' pairs are.
abbrev pub FramesEnd : Storing → Type 0
FramesEnd S = (standing : S.Standing) (left : ℕ) (t : Tree) (l : Thresholds) (ps : List Pair) → (o : Outcome S.Standing) × Works S standing left t l ps o

-- The pair that a run gives is decided.
abbrev pub RunsDecide : Storing → Type 0
RunsDecide S =
    (standing standing' : S.Standing) (left left' : ℕ) (t : Tree) (p : Pair) →
    Enters S standing left t tops (gave standing' left' p) → (p ≡ won) ⊎ (p ≡ not_won)

-- Every trial ends.
abbrev pub TrialsEnd : Storing → Type 0
TrialsEnd S =
    (standing : S.Standing) (t : Tree) (b : ℕ) → (a : Answer) × ((standing' : S.Standing) × Trial S standing t b a standing')
