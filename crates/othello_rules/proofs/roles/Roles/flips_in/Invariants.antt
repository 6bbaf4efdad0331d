use Rattle.othello_rules.proofs.Closing.{Walking}
use Rattle.othello_rules.proofs.roles.Roles.flips_in.Given as goal

abbrev pub invariant-loop-gone : goal.invariant-loop-gone
invariant-loop-gone l =
    Walking l.own l.other l.direction l.initial.cell l.gone-end l.cell l.taken l.gone
