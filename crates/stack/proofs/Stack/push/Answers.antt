use Rattle.stack.proofs.Tops.{pushed, left_above, refused}
use Rattle.stack.proofs.Stack.push.Goals as goal

pub returns-in-Ok-clause-pushed : goal.returns-in-Ok-clause-pushed
returns-in-Ok-clause-pushed g c = pushed c.args.self.now.len c.args.self.now.slots.now c.put.new.slots c.args.entry c.in-Ok.ensures

pub returns-in-Ok-clause-above : goal.returns-in-Ok-clause-above
returns-in-Ok-clause-above g c = left_above c.args.self.now.len c.args.self.now.slots.now c.put.new.slots c.args.entry c.in-Ok.ensures

pub returns-in-Err-clause-pushed : goal.returns-in-Err-clause-pushed
returns-in-Err-clause-pushed g c =
    refused c.args.self.now.len c.args.self.now.slots.now c.put.new.slots c.in-Err.entry c.args.entry c.args.self.now.fits c.in-Err.ensures
