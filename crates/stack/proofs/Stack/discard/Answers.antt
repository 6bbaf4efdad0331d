use Rattle.std.proofs.Common.{refl, ◌-◌, arith}
use Rattle.stack.proofs.Tops.{one_less, tops-at-none}
use Rattle.stack.proofs.Stack.discard.Goals as goal

pub returns-then-self-eq0-clause-discarded : goal.returns-then-self-eq0-clause-discarded
returns-then-self-eq0-clause-discarded g c =
    let none = tops-at-none c.args.self.now.len c.args.self.now.slots.now c.if-self-eq0.true in (none, none, refl)

pub returns-clause-discarded : goal.returns-clause-discarded
returns-clause-discarded g c = one_less c.args.self.now.len (c.args.self.now.len - 1) c.args.self.now.slots.now c.args.self.now.fits (omega arith)
