use Rattle.std.proofs.Common.{refl, ap}
use Rattle.tester.specs.Performed.{asked}
use Rattle.tester.proofs.Doing.{set_lent, play_lent, back_lent, clear_lent, trial_lent, renamed}
use Rattle.tester.proofs.tester.Tester.call.Goals as goal

pub returns-in-Set : goal.returns-in-Set
returns-in-Set g c = renamed (ap asked c.in-Set.is) c.into.ensures (set_lent _ c.set.ensures.does)

pub returns-in-Play : goal.returns-in-Play
returns-in-Play g c = renamed (ap asked c.in-Play.is) c.into-in-Play.ensures (play_lent _ c.play.ensures.does)

pub returns-in-TakeBack : goal.returns-in-TakeBack
returns-in-TakeBack g c = renamed (ap asked c.in-TakeBack.is) c.into-in-TakeBack.ensures (back_lent _ c.take_back.ensures.does)

pub returns-in-Trial : goal.returns-in-Trial
returns-in-Trial g c = renamed (ap asked c.in-Trial.is) c.into-in-Trial.ensures (trial_lent c.args.buffer.now c.trial.ensures.does)

pub returns-in-Clear : goal.returns-in-Clear
returns-in-Clear g c = renamed (ap asked c.in-Clear.is) refl (clear_lent _ c.clear.ensures.does)
