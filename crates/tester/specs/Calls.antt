-- Where a tester stands, what each call answers and leaves, and lists of calls.
use Rattle.std.specs.Prelude.{◌≡◌, ℕ, ◌<◌, ◌≤◌, List, [], ◌∷◌, length, Some, None, slice_index_or}
use Rattle.game.specs.Tree.{Tree, position, refused, nowhere, next}
use Rattle.game.specs.declared.decline.Decline.{Decline}
use Rattle.game.specs.Declines.{number}
use Rattle.game.specs.declared.decline.SetDecline.{SetDecline}
use Rattle.game.specs.declared.game.Game as game
use Rattle.table.specs.declared.Table as table
use Rattle.table.specs.declared.pair.Pair.{Pair}
use Rattle.search_laws.specs.declared.answer.Answer.{Answer}
use Rattle.search_laws.specs.Trial.{Trial}
use Rattle.search_laws.specs.Calls.{trial_decline}
use Rattle.solution.specs.declared.answer.Solution.{Solution}
use Rattle.solution.specs.Calls.{declined, Solved}
use Rattle.tester.specs.declared.reply.Reply.{Reply}
use Rattle.tester.specs.declared.reply.Reply.TheVariants as reply

-- where a tester stands: the path, which is the current position and the earlier ones, the latest first; and where its table stands
pub record Stand {T : Type 0} (h : table.Ghosts T) : Type 0 where
  pub current : Tree
  pub earlier : List Tree
  pub standing : h.storing.Standing

-- where a game and a table stand
abbrev pub at : {G T : Type 0} → game.Ghosts G → (h : table.Ghosts T) → G → T → Stand h
at g h x y = record { current = g.current x; earlier = g.earlier x; standing = h.standing y }

-- where a making leaves a tester, given where the table that it takes stands: at a fresh game, with the table cleared
abbrev pub made : {G T : Type 0} → game.Ghosts G → (h : table.Ghosts T) → h.storing.Standing → Stand h
made g h taken = record { current = g.start; earlier = []; standing = h.storing.cleared taken }

-- a call, by what it is passed but for what it is lent
pub data Asked : Type 0 where
  set : List ℕ → ℕ → Asked
  play : ℕ → Asked
  take_back : Asked
  trial : ℕ → Asked
  solution : ℕ → ℕ → Asked
  clear : Asked

-- what a call is lent: pair records, which only a trial and a solution use, and a buffer, into which only a solution writes
pub record Lent : Type 0 where
  pub records : List Pair
  pub buffer : List ℕ

abbrev pub no_loan : Lent
no_loan = record { records = []; buffer = [] }

-- What a call from a stand, lent such things, answers, what these things then hold, and where it leaves the tester: a rule for each way in
-- which a call can go. A declined call answers the cause that has the number said here, and changes nothing. After a trial or a solution that is not
-- declined the records may hold any pairs, and are as many as before.
pub data Does {G T : Type 0} (g : game.Ghosts G) (h : table.Ghosts T) (s : Stand h) : Asked → Lent → Reply → Lent → Stand h → Type 0 where
  -- a set: what the text says under the aim is then the whole path, and the table is kept
  sets : {x : List ℕ} {aim : ℕ} {l : Lent} {t : Tree} → g.reading x aim ≡ position t →
      Does g h s (set x aim) l reply.Done l (record { current = t; earlier = []; standing = s.standing })
  not_set : {x : List ℕ} {aim : ℕ} {l : Lent} {e : SetDecline} → g.reading x aim ≡ refused (number e.cause) e.place →
      Does g h s (set x aim) l (reply.NotSet e) l s
  -- a play: the successor of that number joins the path
  plays : {i : ℕ} {l : Lent} → i < length (next s.current) →
      Does g h s (play i) l reply.Done l (record { current = slice_index_or (next s.current) i nowhere; earlier = s.current ∷ s.earlier; standing = s.standing })
  not_played : {i : ℕ} {l : Lent} {d : Decline} → number d ≡ 5 → length (next s.current) ≤ i →
      Does g h s (play i) l (reply.Declined d) l s
  -- a take-back: the last position leaves the path
  takes_back : {l : Lent} {t : Tree} {ts : List Tree} → s.earlier ≡ t ∷ ts →
      Does g h s take_back l reply.Done l (record { current = t; earlier = ts; standing = s.standing })
  not_taken_back : {l : Lent} {d : Decline} → number d ≡ 6 → s.earlier ≡ [] →
      Does g h s take_back l (reply.Declined d) l s
  -- a trial of the current position: the path is as before
  tries : {b : ℕ} {l : Lent} {rs : List Pair} {a : Answer} {standing' : h.storing.Standing} → length rs ≡ length l.records →
      trial_decline b (length l.records) ≡ None → Trial h.storing s.standing s.current b a standing' →
      Does g h s (trial b) l (reply.Tried a) (record { records = rs; buffer = l.buffer }) (record { current = s.current; earlier = s.earlier; standing = standing' })
  not_tried : {b : ℕ} {l : Lent} {d : Decline} → trial_decline b (length l.records) ≡ Some (number d) →
      Does g h s (trial b) l (reply.Declined d) l s
  -- a solution of the current position: the path is as before, and the lines are in the buffer
  solves : {i b : ℕ} {l : Lent} {rs : List Pair} {a : Solution} {standing' : h.storing.Standing} {buffer' : List ℕ} → length rs ≡ length l.records →
      declined s.current i b (length l.records) (length l.buffer) ≡ None →
      Solved h.storing s.standing s.current i b l.buffer a standing' buffer' →
      Does g h s (solution i b) l (reply.Solved a) (record { records = rs; buffer = buffer' }) (record { current = s.current; earlier = s.earlier; standing = standing' })
  not_solved : {i b : ℕ} {l : Lent} {d : Decline} → declined s.current i b (length l.records) (length l.buffer) ≡ Some (number d) →
      Does g h s (solution i b) l (reply.Declined d) l s
  -- a clear: the table is cleared, and the path is as before
  clears : {l : Lent} →
      Does g h s clear l reply.Done l (record { current = s.current; earlier = s.earlier; standing = h.storing.cleared s.standing })

-- a call that was made: what it asked and was lent, what it answered, and what the things lent then held
pub record Event : Type 0 where
  pub call : Asked
  pub lent : Lent
  pub reply : Reply
  pub left : Lent

-- the calls of a list, one after another: each starts where the one before left the tester
pub data Calls {G T : Type 0} (g : game.Ghosts G) (h : table.Ghosts T) : Stand h → List Event → Stand h → Type 0 where
  none : {s : Stand h} → Calls g h s [] s
  then : {s s' s'' : Stand h} {e : Event} {es : List Event} → Does g h s e.call e.lent e.reply e.left s' → Calls g h s' es s'' →
      Calls g h s (e ∷ es) s''

-- a stand to which some list of calls from a making leads
abbrev pub Reached : {G T : Type 0} → game.Ghosts G → (h : table.Ghosts T) → Stand h → Type 0
Reached g h s = (taken : h.storing.Standing) × (es : List Event) × Calls g h (made g h taken) es s
