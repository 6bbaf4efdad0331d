-- The replies of the methods.
use Rattle.std.specs.Prelude.{Ok, Err, Result}
use Rattle.game.specs.declared.decline.Decline.{Decline}
use Rattle.game.specs.declared.decline.SetDecline.{SetDecline}
use Rattle.search_laws.specs.declared.answer.Answer.{Answer}
use Rattle.solution.specs.declared.answer.Solution.{Solution}
use Rattle.tester.specs.declared.reply.Reply.{Reply}
use Rattle.tester.specs.declared.reply.Reply.TheVariants.{Done, NotSet, Declined, Tried, Solved}

abbrev pub set_reply : Result (Unit {0}) SetDecline → Reply
set_reply (Ok _) = Done
set_reply (Err e) = NotSet e

abbrev pub move_reply : Result (Unit {0}) Decline → Reply
move_reply (Ok _) = Done
move_reply (Err d) = Declined d

abbrev pub trial_reply : Result Answer Decline → Reply
trial_reply (Ok a) = Tried a
trial_reply (Err d) = Declined d

abbrev pub solution_reply : Result Solution Decline → Reply
solution_reply (Ok a) = Solved a
solution_reply (Err d) = Declined d
