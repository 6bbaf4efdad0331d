-- A list of calls, each with its own records, buffer and place for its reply, performed on a tester from its making.
use Rattle.std.specs.Prelude.{◌≡◌, List, [], ◌∷◌, length}
use Rattle.game.specs.declared.game.Game as game
use Rattle.table.specs.declared.Table as table
use Rattle.tester.specs.declared.round.Round.{Round}
use Rattle.tester.specs.Calls.{Stand, made, Does, Event, Calls}
use Rattle.tester.specs.Claims.{Each, OneWay, AsksAlike, AnswersAlike}
use Rattle.tester.specs.Performed.{asked}

-- a round before and after its call, as an event: what it asked and was lent, what it answered, and what the records and the buffer then held
abbrev pub event : Round → Round → Event
event x y = record {
  call = asked x.call;
  lent = record { records = x.records.items; buffer = x.buffer.items };
  reply = y.reply;
  left = record { records = y.records.items; buffer = y.buffer.items };
}

-- all rounds before and after, as events
abbrev pub events : List Round → List Round → List Event
events [] ys = []
events (x ∷ xs) [] = []
events (x ∷ xs) (y ∷ ys) = event x y ∷ events xs ys

-- a round keeps its call, and as many records and bytes of its buffer
pub record Stays (x y : Round) : Type 0 where
  pub call : y.call ≡ x.call
  pub records : length y.records.items ≡ length x.records.items
  pub buffer : length y.buffer.items ≡ length x.buffer.items

-- so do all rounds, and they are as many
pub data AllStay : List Round → List Round → Type 0 where
  none : AllStay [] []
  then : {x y : Round} {xs ys : List Round} → Stays x y → AllStay xs ys → AllStay (x ∷ xs) (y ∷ ys)

-- a round is performed: its call, with what it is lent
pub record PerformedOne {G T : Type 0} (g : game.Ghosts G) (h : table.Ghosts T) (s : Stand h) (x y : Round) (s' : Stand h) : Type 0 where
  pub stays : Stays x y
  pub does : Does g h s (event x y).call (event x y).lent (event x y).reply (event x y).left s'

-- What it is to make a tester and perform rounds. They are a list of calls that begins with the making, where the path is a fresh game's and
-- the table that was taken is cleared, and ends where the tester stands: each call is as defined and starts where the one before left the
-- tester. Each is right, and starts and ends at a good stand. And none could have gone another way: from every stand each call has one
-- outcome, and whatever list of calls from such a making asks the same, and is lent the same buffers and as many records, answers the same,
-- leaves the same in the buffers, and ends at the same stand.
pub record PerformedAll {G T : Type 0} (g : game.Ghosts G) (h : table.Ghosts T) (taken : h.storing.Standing) (xs ys : List Round) (s : Stand h) : Type 0 where
  pub stay : AllStay xs ys
  pub run : Calls g h (made g h taken) (events xs ys) s
  pub right : Each run
  pub one_way : OneWay g h
  pub alone : (es : List Event) (t : Stand h) → Calls g h (made g h taken) es t → AsksAlike (events xs ys) es → AnswersAlike (events xs ys) es × (s ≡ t)
