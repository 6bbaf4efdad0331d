use Rattle.form.proofs.Departing.{read_so}
use Rattle.chess_text.specs.Diagrams.{Stands}
use Rattle.chess_text.specs.Reading.{form}
use Rattle.chess_text.proofs.Meaning.{stands, says}
use Rattle.chess_text.proofs.reading.read.Goals as goal

pub returns : goal.returns
returns c =
    let r = read_so form Stands stands says c.args.text.now c.read.result c.read.ensures.exact c.read.ensures.meaning in
    record { exact = c.read.ensures.exact; meaning = r.0; taken = r.1; refused = r.2 }
