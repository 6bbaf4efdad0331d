use Rattle.form.proofs.Departing.{read_so}
use Rattle.othello_rules.specs.Texts.{Stands}
use Rattle.othello_rules.specs.Reading.{form}
use Rattle.othello_rules.proofs.Meaning.{stands, says}
use Rattle.othello_rules.proofs.reading.read.Goals as goal

pub returns : goal.returns
returns c =
    let r = read_so form Stands stands says c.args.text.now c.read.result c.read.ensures.exact c.read.ensures.meaning in
    record { exact = c.read.ensures.exact; meaning = r.0; taken = r.1; refused = r.2 }
