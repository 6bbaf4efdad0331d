-- What the theorems take from a game's laws.
use Rattle.std.proofs.Common.{ℕ, List}
use Rattle.game.specs.Tree.{Tree, Reading}
use Rattle.game.specs.Rules.{Rules}
use Rattle.game.proofs.Codes.{equal_codes}
use Rattle.search_laws.specs.Claims.{Ranging}

pub ranging : {start : Tree} {positions : Tree → Type 0} {depth width : ℕ} {reading : List ℕ → ℕ → Reading} →
    Rules start positions depth width reading → Ranging positions
ranging {positions = positions} rules = record {
  closed = rules.closed;
  codes = equal_codes positions rules.closed rules.codes;
}
