-- The list of legal moves is what it is to be.
use Rattle.std.proofs.Common.{◌≡◌, Bool, true, List, [], ◌∷◌, Decides, refl, arith}
use Rattle.std.specs.List.{ContainsAt as Has, AllByRecursion}
use Rattle.std.proofs.ByRecursion.{all-has}
use Rattle.std.proofs.lemmas.Bool.{false≢true}
use Rattle.std.proofs.lemmas.Bool.Decides.{Decides-at}
use Rattle.chess_moves.specs.declared.diagram.Diagram.{Diagram}
use Rattle.chess_moves.specs.declared.step.Move.{Move}
use Rattle.chess_moves.specs.Moves.{any_move, legal_moves}
use Rattle.chess_moves.specs.Legal.{Legal, Lists}
use Rattle.chess_moves.proofs.Legality.{listed_legal, legal_listed}
use Rattle.chess_moves.proofs.Order.{in_order}

pub lists : (d : Diagram) → Lists d (legal_moves d)
lists d = record { sound = λ v h. all-has (Legal d) (legal_moves d) v (listed_legal d) h; complete = legal_listed d; order = in_order d }

some_has : (P : Move → Type 0) (vs : List Move) → AllByRecursion P vs → any_move vs ≡ true → (v : Move) × P v
some_has P [] a h = absurd (false≢true h)
some_has P (v ∷ vs) a h = (v, a.0)

has_some : (vs : List Move) (v : Move) → Has vs v → any_move vs ≡ true
has_some [] v h = absurd (let z : ⊥ = omega (arith, h.1) in z)
has_some (w ∷ vs) v h = refl

pub any_means : (d : Diagram) → Decides (any_move (legal_moves d)) ((v : Move) × Legal d v)
any_means d = (some_has (Legal d) (legal_moves d) (listed_legal d), λ r. has_some (legal_moves d) r.0 (legal_listed d r.0 r.1))

pub any_means_by : (d : Diagram) (r : Bool) → r ≡ any_move (legal_moves d) → Decides r ((v : Move) × Legal d v)
any_means_by d r e = Decides-at r (any_move (legal_moves d)) e (any_means d)
