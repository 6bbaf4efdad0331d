use Rattle.std.proofs.Common.{◌^◌, ◌<◌, not, ap, ◌∙◌, arith}
use lib.Bits.{bit_or, or_lt}
use Rattle.board.proofs.Bits.{bit_not, bit-or}
use Rattle.othello_rules.specs.Diagrams.{empties}
use Rattle.othello_rules.proofs.Sizes.{size_same}
use Rattle.othello_rules.proofs.diagram.Diagram.empties.Goals as goal

pub returns : goal.returns
unfolding empties
returns c =
    let d = c.args.self.now in
    let fits : bit_or d.x d.o < 2 ^ 64 = or_lt 64 d.x d.o (omega arith) (omega arith) in
    c.count.ensures
    ∙ size_same _ _ (λ s h. bit_not 64 (bit_or d.x d.o) s h fits ∙ ap not (bit-or d.x d.o s))
