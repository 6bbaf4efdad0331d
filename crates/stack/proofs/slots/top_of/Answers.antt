use Rattle.stack.proofs.Tops.{tops_lent}
use Rattle.stack.proofs.slots.top_of.Goals as goal

pub returns : goal.returns
returns g c = tops_lent c.args.len c.args.slots.now c.last.result c.requires c.last.ensures.value
