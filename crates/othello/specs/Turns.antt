-- What the turn tells of the placements.
use Rattle.std.specs.Prelude.{◌≡◌, ℕ, suc, ◌<◌, Bool, true, false, cond, List, [], ◌∷◌, length, refl}
use Rattle.std.proofs.Common.{arith}
use Rattle.std.proofs.lemmas.Bool.{false≢true}
use Rattle.othello_rules.specs.Rules.{any}
use Rattle.othello_rules.specs.Diagrams.{placements, passed, turn}
use Rattle.othello_rules.specs.declared.diagram.Diagram.{Diagram}
use Rattle.othello_rules.specs.declared.turn.Turn.{Turn}
use Rattle.othello_rules.specs.declared.turn.Turn.TheVariants.{Place, Pass, Ended}

by_tests : Bool → Bool → Turn
by_tests a b = cond a Place (cond b Pass Ended)

place_test : (a b : Bool) → by_tests a b ≡ Place → a ≡ true
unfolding by_tests
place_test true b e = refl
place_test false true e = absurd (cc)
place_test false false e = absurd (cc)

pass_test : (a b : Bool) → by_tests a b ≡ Pass → b ≡ true
unfolding by_tests
pass_test true b e = absurd (cc)
pass_test false true e = refl
pass_test false false e = absurd (cc)

long : (l : List ℕ) → any l ≡ true → 0 < length l
unfolding any
long [] e = absurd (false≢true e)
long (s ∷ l) e = let z : 0 < suc (length l) = omega arith in z

-- there is a placement where the mover may place
pub some_listed : (d : Diagram) → turn d ≡ Place → 0 < length (placements d)
unfolding by_tests
some_listed d e = long (placements d) (place_test (any (placements d)) (any (placements (passed d))) e)

-- after a pass the other side may place
pub pass_answered : (d : Diagram) → turn d ≡ Pass → turn (passed d) ≡ Place
unfolding by_tests
pass_answered d e =
    let can : any (placements (passed d)) ≡ true = pass_test (any (placements d)) (any (placements (passed d))) e in
    simp can
