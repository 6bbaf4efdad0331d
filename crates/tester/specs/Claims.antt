-- What holds at each call of every list of calls that begins with a making.
use Rattle.std.specs.Prelude.{◌≡◌, ℕ, ◌<◌, ◌≤◌, true, false, List, [], ◌∷◌, length, Some, None, ◌≢◌, slice_index_or, codes}
use Rattle.game.specs.Tree.{Tree, nowhere, next, minimax}
use Rattle.game.specs.declared.game.Game as game
use Rattle.table.specs.declared.Table as table
use Rattle.search_laws.specs.declared.answer.Answer.{Answer}
use Rattle.search_laws.specs.Trial.{need, share}
use Rattle.search_laws.specs.Calls.{trial_decline}
use Rattle.search_laws.specs.Claims.{Sound}
use Rattle.search_laws.specs.Words.{word}
use Rattle.solution_laws.specs.Lines.{Line, lines_in, keys, duals}
use Rattle.solution_laws.specs.Claims.{AttacksWin, KeysHaveLines, Follows}
use Rattle.solution_laws.specs.Words as endings
use Rattle.solution.specs.declared.answer.Solution.{Solution}
use Rattle.tester.specs.declared.reply.Reply.{Reply}
use Rattle.tester.specs.declared.reply.Reply.TheVariants.{Tried, Solved}
use Rattle.tester.specs.Calls.{Stand, made, Asked, trial, solution, Lent, Does, Event, Calls}
use Rattle.tester.specs.Calls as calls

-- a call has an outcome, and the reply of each of its outcomes is as said
abbrev pub Gives : {G T : Type 0} → game.Ghosts G → (h : table.Ghosts T) → Stand h → Asked → Lent → (Reply → Type 0) → Type 0
Gives g h s c l P =
    ((r : Reply) × (l' : Lent) × (s' : Stand h) × Does g h s c l r l' s')
    × ((r : Reply) (l' : Lent) (s' : Stand h) → Does g h s c l r l' s' → P r)

-- What is right about a trial from a stand. Where it answers won or not won, that is the value of its position by minimax, and the trial with
-- any larger budget that is not declined would answer the same, from the same path and standing of the table. It says spent only where its
-- plain search needs more entries than its share of the budget.
pub record TrialRight {G T : Type 0} (g : game.Ghosts G) (h : table.Ghosts T) (s : Stand h) (b : ℕ) (a : Answer) : Type 0 where
  pub won : word a.verdict ≡ codes "won" → minimax s.current ≡ true
  pub not_won : word a.verdict ≡ codes "not-won" → minimax s.current ≡ false
  pub lasts : word a.verdict ≢ codes "spent" → (b' : ℕ) (l : Lent) → b ≤ b' → trial_decline b' (length l.records) ≡ None →
      Gives g h s (trial b') l (λ r. (a' : Answer) × (r ≡ Tried a') × (word a'.verdict ≡ word a.verdict))
  pub spent : word a.verdict ≡ codes "spent" → share b < need s.current

-- What is right about a solution from a stand. Its lines are those that the buffer then says, as many as it answers. Each line with `!` or
-- `+` is for a move whose successor is won, and a solution that is done gives each key a line. It says spent only where some position after
-- at least one move from its start needs more than the share of its budget. The keys and duals that it answers are those among its lines.
pub record SolutionRight (t : Tree) (b : ℕ) (a : Solution) (buffer : List ℕ) : Type 0 where
  pub lines : List Line
  pub read : lines_in a.lines buffer ≡ Some lines
  pub attacks_win : AttacksWin t lines
  pub keys_have_lines : endings.word a.ending ≡ codes "done" → KeysHaveLines t lines
  pub spent : endings.word a.ending ≡ codes "spent" → (u : Tree) × Follows t u × (share b < need u)
  pub keys : a.keys ≡ keys lines
  pub duals : a.duals ≡ duals lines

-- what is right about a call, whatever it is
pub record Right {G T : Type 0} (g : game.Ghosts G) (h : table.Ghosts T) (s : Stand h) (c : Asked) (r : Reply) (left : Lent) : Type 0 where
  pub of_trial : (b : ℕ) (a : Answer) → c ≡ trial b → r ≡ Tried a → TrialRight g h s b a
  pub of_solution : (i b : ℕ) (a : Solution) → c ≡ solution i b → r ≡ Solved a → SolutionRight s.current b a left.buffer

-- the earlier positions led to the current one, each by a move of it, and are positions of the game
abbrev pub Linked : (Tree → Type 0) → Tree → List Tree → Type 0
Linked positions t [] = Unit {0}
Linked positions t (u ∷ us) =
    positions u × ((i : ℕ) × (i < length (next u)) × (t ≡ slice_index_or (next u) i nowhere)) × Linked positions u us

-- a good stand: its path is one of the game, and no pair that its table shows is false
pub record Good {T : Type 0} {h : table.Ghosts T} (positions : Tree → Type 0) (s : Stand h) : Type 0 where
  pub here : positions s.current
  pub linked : Linked positions s.current s.earlier
  pub sound : Sound positions (h.storing.shows s.standing)

-- each call of a list is right, and it starts and ends at a good stand
abbrev pub Each : {G T : Type 0} {g : game.Ghosts G} {h : table.Ghosts T} {s s' : Stand h} {es : List Event} → Calls g h s es s' → Type 0
Each calls.none = Unit {0}
Each {g = g} {h = h} (calls.then {s = s} {s' = s'} {e = e} d r) =
    Good g.positions s × Right g h s e.call e.reply e.left × Good g.positions s' × Each r

-- each call of a list is right
abbrev pub AllRight : {G T : Type 0} {g : game.Ghosts G} {h : table.Ghosts T} {s s' : Stand h} {es : List Event} → Calls g h s es s' → Type 0
AllRight calls.none = Unit {0}
AllRight {g = g} {h = h} (calls.then {s = s} {e = e} d r) = Right g h s e.call e.reply e.left × AllRight r

-- In every list of calls that begins with a making, each call is right.
abbrev pub EveryListStands : {G T : Type 0} → game.Ghosts G → table.Ghosts T → Type 0
EveryListStands g h =
    (taken : h.storing.Standing) (es : List Event) (s : Stand h) (run : Calls g h (made g h taken) es s) → Each run

-- From every stand each call goes exactly one way: it has an outcome, and any two have the same reply, buffer and stand after it.
pub record OneWay {G T : Type 0} (g : game.Ghosts G) (h : table.Ghosts T) : Type 0 where
  pub some : (s : Stand h) (c : Asked) (l : Lent) → (r : Reply) × (l' : Lent) × (s' : Stand h) × Does g h s c l r l' s'
  pub one : (s : Stand h) (c : Asked) (l : Lent) (r r' : Reply) (k k' : Lent) (t t' : Stand h) →
      Does g h s c l r k t → Does g h s c l r' k' t' → (r ≡ r') × (k.buffer ≡ k'.buffer) × (t ≡ t')

-- No answer reads the records: from one stand a call has the same outcome whatever pairs are in the records that it is lent, if these are
-- as many.
abbrev pub RecordsAreNotRead : {G T : Type 0} → game.Ghosts G → table.Ghosts T → Type 0
RecordsAreNotRead g h =
    (s : Stand h) (c : Asked) (l k : Lent) (r r' : Reply) (l' k' : Lent) (t t' : Stand h) →
    length l.records ≡ length k.records → l.buffer ≡ k.buffer → Does g h s c l r l' t → Does g h s c k r' k' t' →
    (r ≡ r') × (l'.buffer ≡ k'.buffer) × (t ≡ t')

-- two lists of calls that ask the same, and are lent the same buffers and as many records, whatever these hold
pub data AsksAlike : List Event → List Event → Type 0 where
  none : AsksAlike [] []
  then : {e f : Event} {es fs : List Event} → e.call ≡ f.call → length e.lent.records ≡ length f.lent.records → e.lent.buffer ≡ f.lent.buffer →
      AsksAlike es fs → AsksAlike (e ∷ es) (f ∷ fs)

-- two lists of calls that answer the same and leave the same in the buffers
pub data AnswersAlike : List Event → List Event → Type 0 where
  none : AnswersAlike [] []
  then : {e f : Event} {es fs : List Event} → e.reply ≡ f.reply → e.left.buffer ≡ f.left.buffer → AnswersAlike es fs → AnswersAlike (e ∷ es) (f ∷ fs)
