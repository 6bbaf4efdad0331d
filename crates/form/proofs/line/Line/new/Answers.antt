use Rattle.form.proofs.Padding.{padded-none}
use Rattle.form.proofs.line.Line.new.Goals as goal

pub invariant_of-result-clause-blanks : goal.invariant_of-result-clause-blanks
invariant_of-result-clause-blanks c = padded-none 87
