use Rattle.std.proofs.Common.{◌≡◌, ◌||◌, ap, ◌∙◌}
use Rattle.std.proofs.lemmas.Bool.Decides.{Decides-at}
use Rattle.chess_attacks.specs.Lists.{attacked}
use Rattle.chess_attacks.specs.Look.{leap_attack}
use Rattle.chess_attacks.proofs.Attackers.{attack_is}
use Rattle.chess_attacks.proofs.Meaning.{attacked_means}
use Rattle.chess_attacks.proofs.attack.attacked.Goals as goal

pub returns-then-line_attack : goal.returns-then-line_attack
returns-then-line_attack c =
    let e : c.line_attack.result ≡ attacked c.args.board.now c.args.square.number c.args.by
    = c.if-line_attack.true
    ∙ (ap (λ x. x || leap_attack c.args.board.now c.args.square.number c.args.by) c.if-line_attack.ensures
    ∙ attack_is c.args.board.now c.args.square.number c.args.by c.args.square.ok) in
    record { exact = e; meaning = Decides-at c.line_attack.result _ e (attacked_means c.args.board.now c.args.square.number c.args.by) }

pub returns-else-line_attack : goal.returns-else-line_attack
returns-else-line_attack c =
    let e : c.leap_attack.result ≡ attacked c.args.board.now c.args.square.number c.args.by
    = c.leap_attack.ensures
    ∙ (ap (λ x. x || leap_attack c.args.board.now c.args.square.number c.args.by) c.if-line_attack.ensures
    ∙ attack_is c.args.board.now c.args.square.number c.args.by c.args.square.ok) in
    record { exact = e; meaning = Decides-at c.leap_attack.result _ e (attacked_means c.args.board.now c.args.square.number c.args.by) }
