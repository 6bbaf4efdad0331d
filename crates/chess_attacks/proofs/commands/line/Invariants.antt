use Rattle.std.proofs.Common.{◌≡◌, ◌+◌}
use Rattle.std.specs.Iterator.Adapters.{take_count, take_source}
use Rattle.chess_attacks.proofs.Walks.{Seen}
use Rattle.chess_attacks.proofs.commands.line.Given as goal

abbrev pub invariant-loop-next : goal.invariant-loop-next
invariant-loop-next l =
    let ray = take_source l.next-iterator in
    record {
      count : take_count l.next-iterator + ray.walked ≡ l.fn.most;
      from : ray.from ≡ l.fn.from;
      direction : ray.direction ≡ l.fn.direction;
      seen : Seen l.board l.fn.direction l.fn.from.number l.fn.most l.seen ray.walked;
    }
