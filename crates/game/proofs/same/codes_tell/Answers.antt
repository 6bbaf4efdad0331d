use Rattle.game.proofs.Codes.{equal_codes}
use Rattle.game.proofs.same.codes_tell.Goals as goal

pub returns : goal.returns
returns g c = equal_codes _ g.met.G.Game.lawful.closed g.met.G.Game.lawful.codes
