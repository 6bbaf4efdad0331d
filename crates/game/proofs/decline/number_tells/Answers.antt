use Rattle.game.proofs.Declines.{number_tells}
use Rattle.game.proofs.decline.number_tells.Goals as goal

pub returns : goal.returns
returns c = number_tells
