use Rattle.othello_rules.proofs.Closing.{walking_start, walking_more, walked-own, walked_empty, walked_end}
use Rattle.othello_rules.proofs.roles.Roles.flips_in.Goals as goal

pub loop-gone-init : goal.loop-gone-init
loop-gone-init c = walking_start c.args.self.own c.args.self.other c.args.direction _ _

pub loop-gone-preserved : goal.loop-gone-preserved
loop-gone-preserved c =
    walking_more c.args.self.own c.args.self.other c.args.direction _ _ c.loop-gone.cell _ c.loop-gone.gone _
    c.loop-gone.invariant c.loop-gone-test.true c.shifted-cell.ensures c.if-other-cell-ne0.true

pub returns-then-own-cell-ne0 : goal.returns-then-own-cell-ne0
returns-then-own-cell-ne0 c =
    walked-own c.args.self.own c.args.self.other c.args.direction _ _ c.loop-gone.cell _ c.loop-gone.gone _
    c.loop-gone.invariant c.loop-gone-test.true c.shifted-cell.ensures
    c.args.square.number c.args.square.ok c.single-cell.ensures c.steps-gone-end.ensures
    c.if-other-cell-ne0.false c.if-own-cell-ne0.true

pub returns-else-own-cell-ne0 : goal.returns-else-own-cell-ne0
returns-else-own-cell-ne0 c =
    walked_empty c.args.self.own c.args.self.other c.args.direction _ _ c.loop-gone.cell _ c.loop-gone.gone _
    c.loop-gone.invariant c.loop-gone-test.true c.shifted-cell.ensures
    c.args.square.number c.args.square.ok c.single-cell.ensures c.steps-gone-end.ensures
    c.if-other-cell-ne0.false c.if-own-cell-ne0.false

pub returns : goal.returns
returns c =
    walked_end c.args.self.own c.args.self.other c.args.direction _ _ c.loop-gone.cell _ c.loop-gone.gone c.args.square.number
    c.loop-gone.invariant c.loop-gone-test.false c.args.square.ok c.single-cell.ensures c.steps-gone-end.ensures
