-- A list of calls performed on a tester.
use Rattle.std.specs.Prelude.{◌≡◌, ℕ, min, List, [], ◌∷◌, length, take, drop}
use Rattle.game.specs.declared.game.Game as game
use Rattle.table.specs.declared.Table as table
use Rattle.tester.specs.declared.call.Call.{Call}
use Rattle.tester.specs.declared.call.Call.TheVariants as made_of
use Rattle.tester.specs.declared.reply.Reply.{Reply}
use Rattle.tester.specs.Calls.{Stand, Asked, set, play, take_back, trial, solution, clear, Lent, Event, Calls}
use Rattle.tester.specs.Claims.{AllRight}

-- what a call asks
abbrev pub asked : Call → Asked
asked (made_of.Set x aim) = set x.now aim
asked (made_of.Play i) = play i
asked made_of.TakeBack = take_back
asked (made_of.Trial b) = trial b
asked (made_of.Solution i b) = solution i b
asked made_of.Clear = clear

-- calls and their replies as events, where each call is lent what the one before left
pub data Replied : List Call → List Reply → Lent → List Event → Lent → Type 0 where
  none : {l : Lent} → Replied [] [] l [] l
  next : {c : Call} {cs : List Call} {rs : List Reply} {e : Event} {es : List Event} {l : Lent} →
      e.call ≡ asked c → Replied cs rs e.left es l → Replied (c ∷ cs) (e.reply ∷ rs) e.lent (e ∷ es) l

-- What it is to perform calls on a tester: as many as there are places for replies, each lent the same records and buffer. Their replies
-- are in the first places, and the other places stay. They are those of a list of calls that starts where the tester stood and ends where it
-- stands, and each of these calls is right.
pub record Performed {G T : Type 0} (g : game.Ghosts G) (h : table.Ghosts T) (cs : List Call) (s : Stand h) (l : Lent) (rs : List Reply)
    (n : ℕ) (s' : Stand h) (l' : Lent) (rs' : List Reply) : Type 0 where
  pub many : n ≡ min (length cs) (length rs)
  pub events : List Event
  pub replied : Replied (take n cs) (take n rs') l events l'
  pub rest : drop n rs' ≡ drop n rs
  pub run : Calls g h s events s'
  pub right : AllRight run
