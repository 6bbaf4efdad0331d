use Rattle.std.proofs.Common.{sym, ◌∙◌, arith}
use Rattle.std.specs.List.{range_with_len}
use Rattle.std.proofs.lemmas.List.Sums.{length-filter}
use Rattle.board.specs.Masks.{bit, size}
use Rattle.board.proofs.Bits.{ones_bits}
use Rattle.board.proofs.words.count.Goals as goal

pub returns : goal.returns
unfolding size
returns c = ones_bits 64 c.args.word (omega arith) ∙ sym (length-filter (bit c.args.word) (range_with_len 0 64))
