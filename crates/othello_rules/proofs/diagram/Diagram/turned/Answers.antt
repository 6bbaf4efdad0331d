use Rattle.std.proofs.Common.{sym, ◌∙◌}
use Rattle.othello_rules.proofs.ByWords.{turns_taken, turns_free}
use Rattle.othello_rules.proofs.diagram.Diagram.turned.Goals as goal

pub returns-then-within : goal.returns-then-within
returns-then-within c =
    let r = c.roles-roles.ensures in
    turns_taken c.args.self.now _ _ c.args.square.number r.own r.other (sym c.within.ensures ∙ c.if-within.true)

pub returns : goal.returns
returns c =
    let r = c.roles-roles.ensures in
    c.flips.ensures ∙ turns_free c.args.self.now _ _ c.args.square.number r.own r.other (sym c.within.ensures ∙ c.if-within.false)
