use Rattle.std.proofs.Common.{[], ◌∷◌, None, refl, arith}
use Rattle.table.specs.Kept.{new_clear}
use Rattle.table.proofs.newest.Newest.new.Goals as goal

pub returns : goal.returns
returns c = new_clear (record { code = 0 ∷ 0 ∷ 0 ∷ 0 ∷ 0 ∷ []; pair = None }) 512 (omega arith) refl
