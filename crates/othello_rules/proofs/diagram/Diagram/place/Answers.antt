use Rattle.std.proofs.Common.{◌≡◌, true, false, Some, sym, ap, ◌∙◌, subst, arith}
use Rattle.std.proofs.lemmas.Bool.{false≢true}
use Rattle.board.specs.Masks.{mask}
use Rattle.othello_rules.specs.Diagrams.{placeable, placed}
use Rattle.othello_rules.specs.Legal.{Leaves}
use Rattle.othello_rules.proofs.ByWords.{turns_none, turns_some, turns_flipped, placed_words}
use Rattle.othello_rules.proofs.Legality.{placeable_legal, legal_placeable, placed_leaves}
use Rattle.othello_rules.proofs.diagram.Diagram.place.Goals as goal

pub returns-then-turned-eq0 : goal.returns-then-turned-eq0
returns-then-turned-eq0 c =
    let d = c.args.self.now in let s = c.args.square.number in
    let e : placeable d s ≡ false = turns_none d s (sym c.turned-turned.ensures ∙ c.if-turned-eq0.true) in
    record { exact = simp e; meaning = λ l. false≢true (sym e ∙ legal_placeable d s l) }

pub returns : goal.returns
returns c =
    let d = c.args.self.now in let s = c.args.square.number in
    let r = c.roles-own.ensures in
    let m = c.turned-turned.ensures in
    let e : placeable d s ≡ true = turns_some d s (λ z. c.if-turned-eq0.false (m ∙ z)) in
    let p : c.moved.result ≡ placed d s =
    c.moved.ensures
    ∙ placed_words d _ _ s r.own r.other c.turned-turned.result c.single.result
    (omega arith) (omega arith) (omega arith) (omega arith) (m ∙ ap mask (turns_flipped d s e)) c.single.ensures in
    let l = placeable_legal d s c.args.square.ok e in
    record { exact = simp e (ap Some p); meaning = (l, subst (Leaves d s) (sym p) (placed_leaves d s l)) }
