use Rattle.std.proofs.Common.{ℕ, filter, sym, ap, ◌∙◌, subst}
use Rattle.std.specs.List.{range_with_len}
use Rattle.othello_rules.specs.Diagrams.{placeable, placements}
use Rattle.othello_rules.specs.Legal.{Lists}
use Rattle.othello_rules.proofs.Turned.{lists}
use Rattle.othello_rules.proofs.Filtered.{kept_yes, kept_no}
use Rattle.othello_rules.proofs.diagram.Diagram.placements.Goals as goal

pub loop-square-preserved-then-legal : goal.loop-square-preserved-then-legal
loop-square-preserved-then-legal c =
    rw c.push.ensures.items
    (kept_yes (placeable c.args.self.now) _ _ c.loop-square.squares.items c.loop-square.invariant c.in-Some.ensures.steps.2
    c.in-Some.square c.in-Some.ensures.steps.1 (sym c.if-legal.true ∙ c.legal.ensures.exact))

pub loop-square-preserved : goal.loop-square-preserved
loop-square-preserved c =
    kept_no (placeable c.args.self.now) _ _ c.loop-square.squares.items c.loop-square.invariant c.in-Some.ensures.steps.2
    c.in-Some.square c.in-Some.ensures.steps.1 (sym c.if-legal.false ∙ c.legal.ensures.exact)

pub returns : goal.returns
unfolding placements
returns c =
    let d = c.args.self.now in
    let e = c.new.ensures ∙ c.loop-square.invariant.numbers ∙ ap (λ (k : ℕ). filter (placeable d) (range_with_len 0 k)) c.in-None.ensures.steps.0 in
    record { exact = e; meaning = subst (Lists d) (sym e) (lists d) }
