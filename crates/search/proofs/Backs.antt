-- One move more is taken back.
use Rattle.std.proofs.Common.{◌≡◌, List, [], ◌∷◌, length}
use Rattle.game.specs.Tree.{Tree}
use Rattle.search.specs.Backs.{back}

pub back_more : {E : Type 0} (e : E) (es es' : List E) (t : Tree) (ts : List Tree) (t' : Tree) (ts' : List Tree) →
    es ≡ e ∷ es' → ts ≡ t' ∷ ts' → back (length es) t ts ≡ back (length es') t' ts'
unfolding back
back_more e es es' t ts t' ts' p h = rw (p, h)

pub back-all : {E : Type 0} (es : List E) (t : Tree) (ts : List Tree) → es ≡ [] → back (length es) t ts ≡ (t, ts)
unfolding back
back-all es t ts p = rw p
