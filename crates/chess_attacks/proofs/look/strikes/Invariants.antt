use Rattle.std.proofs.Common.{◌≡◌}
use Rattle.std.specs.Iterator.Adapters.{enumerate_count, enumerate_source}
use Rattle.chess_attacks.proofs.Walks.{Looked}
use Rattle.chess_attacks.proofs.look.strikes.Given as goal

abbrev pub invariant-loop-walked : goal.invariant-loop-walked
invariant-loop-walked l =
    let ray = enumerate_source l.walked-iterator in
    record {
      count : enumerate_count l.walked-iterator ≡ ray.walked;
      from : ray.from ≡ l.fn.square;
      direction : ray.direction ≡ l.direction;
      looked : Looked l.board l.direction l.by l.fn.square.number ray.walked;
    }
