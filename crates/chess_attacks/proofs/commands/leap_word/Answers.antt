use Rattle.std.proofs.Common.{ℕ, ◌^◌, Option, sym, ap, ◌∙◌}
use lib.Bits.{or_zero_r}
use Rattle.board.specs.Masks.{mask}
use Rattle.chess_attacks.specs.Lists.{single}
use Rattle.chess_attacks.proofs.commands.leap_word.Goals as goal

pub returns-in-Some : goal.returns-in-Some
unfolding mask
returns-in-Some c =
    c.single.ensures ∙ (sym (or_zero_r (2 ^ c.in-Some.square.number)) ∙ ap (λ (o : Option ℕ). mask (single o)) c.in-Some.ensures)

pub returns-in-None : goal.returns-in-None
unfolding mask
returns-in-None c = ap (λ (o : Option ℕ). mask (single o)) c.in-None.ensures
