use Rattle.std.proofs.Common.{◌≡◌, ◌∙◌}
use Rattle.std.proofs.lemmas.Bool.Decides.{Decides-at}
use Rattle.chess_rules.specs.Lawful.{lawful}
use Rattle.chess_rules.proofs.Tested.{lawful_is, lawful_means}
use Rattle.chess_rules.proofs.rules.is_lawful.Goals as goal

pub returns : goal.returns
returns c =
    let e : c.keeps_rules.result ≡ lawful c.args.diagram.now = c.keeps_rules.ensures.kept ∙ lawful_is c.args.diagram.now c.keeps_rules.ensures.whole in
    record { exact = e; meaning = Decides-at c.keeps_rules.result _ e (lawful_means c.args.diagram.now) }
