use Rattle.std.proofs.Common.{◌≡◌, is_some, ap, ◌∙◌, arith}
use Rattle.std.specs.Iterator.Adapters.{take_source}
use lib.Bits.{bit_or}
use Rattle.board.proofs.Listed.{ray_step, ray_end}
use Rattle.board.specs.Masks.{mask}
use Rattle.chess_attacks.specs.Lists.{line}
use Rattle.chess_attacks.proofs.Meaning.{line_means}
use Rattle.chess_attacks.proofs.Walks.{seen_end, seen-man, seen-on}
use Rattle.chess_attacks.proofs.commands.line.Goals as goal

pub returns-then-is_some : goal.returns-then-is_some
returns-then-is_some c =
    let i = c.loop-next.invariant in
    let w = ray_step (take_source c.loop-next.next-iterator) (take_source c.next.new.self) c.args.from c.args.direction i.from i.direction c.in-Some.next c.in-Some.ensures.steps.0 in
    let e : bit_or c.loop-next.seen c.single-seen.result ≡ mask (line c.args.board.now c.args.direction c.args.from.number c.args.most)
    = ap (bit_or c.loop-next.seen) c.single-seen.ensures
    ∙ seen-man c.args.board.now c.args.direction c.args.from.number c.args.from.ok c.args.most c.loop-next.seen _
    i.seen (omega (arith, i.count, c.in-Some.ensures.steps.1)) w.more c.in-Some.next.number w.at (c.if-is_some.ensures ∙ ap is_some c.man_on.ensures) in
    record { exact = e; meaning = λ t. line_means c.args.board.now c.args.direction c.args.from.number c.args.from.ok c.args.most t _ e }

pub loop-next-preserved : goal.loop-next-preserved
loop-next-preserved c =
    let i = c.loop-next.invariant in
    let w = ray_step (take_source c.loop-next.next-iterator) (take_source c.next.new.self) c.args.from c.args.direction i.from i.direction c.in-Some.next c.in-Some.ensures.steps.0 in
    record {
      count = omega (arith, i.count, c.in-Some.ensures.steps.1, w.walked);
      from = w.from;
      direction = w.direction;
      seen = rw (w.walked, c.single-seen.ensures) (seen-on c.args.board.now c.args.direction c.args.from.number c.args.from.ok c.args.most c.loop-next.seen _
          i.seen (omega (arith, i.count, c.in-Some.ensures.steps.1)) w.more c.in-Some.next.number w.at (c.if-is_some.ensures ∙ ap is_some c.man_on.ensures));
    }

pub returns : goal.returns
returns c =
    let i = c.loop-next.invariant in
    let e : c.loop-next.seen ≡ mask (line c.args.board.now c.args.direction c.args.from.number c.args.most)
    = seen_end c.args.board.now c.args.direction c.args.from.number c.args.from.ok c.args.most c.loop-next.seen _ i.seen
    (λ l. ray_end (take_source c.loop-next.next-iterator) (take_source c.next.new.self) c.args.from c.args.direction i.from i.direction (c.in-None.ensures.steps (omega (arith, i.count)))) in
    record { exact = e; meaning = λ t. line_means c.args.board.now c.args.direction c.args.from.number c.args.from.ok c.args.most t _ e }
