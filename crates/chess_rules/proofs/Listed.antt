-- A position's list holds all of its legal moves, and each leads to a position.
use Rattle.std.proofs.Common.{◌≡◌, ℕ, zero, suc, ◌≤◌, true, List, [], ◌∷◌, Some, arith}
use Rattle.std.specs.List.{slice_get, ContainsAt as Has}
use Rattle.chess_moves.specs.declared.diagram.Diagram.{Diagram}
use Rattle.chess_moves.specs.declared.step.Move.{Move}
use Rattle.chess_moves.specs.After.{played}
use Rattle.chess_moves.specs.Count.{men, kings}
use Rattle.chess_moves.specs.Legal.{Lists}
use Rattle.chess_moves.specs.Moves.{legal_moves}
use Rattle.chess_rules.specs.Lawful.{Lawful, lawful}
use Rattle.chess_rules.proofs.Tested.{lawful_means}
use Rattle.chess_rules.proofs.Keeping.{moves-keep}

pub nth_has : {X : Type 0} (xs : List X) (i : ℕ) (x : X) → slice_get xs i ≡ Some x → Has xs x
nth_has [] i x h = absurd (let z : ◌≡◌ {A = ℕ} 0 1 = cc in omega arith)
nth_has (y ∷ xs) zero x h = (0, omega arith, λ _. cc)
nth_has (y ∷ xs) (suc i) x h = let r = nth_has xs i x h in (suc r.0, omega (arith, r.1), r.2)

module _ (d : Diagram) (fair : lawful d ≡ true) where
  law : Lawful d
  law = (lawful_means d).0 fair

  pub whole_list : (vs : List Move) → (men d.board d.mover ≤ 16 → 1 ≤ kings d.board d.mover → vs ≡ legal_moves d) → vs ≡ legal_moves d
  whole_list vs h = h (law.few_men d.mover) (omega (arith, law.one_king d.mover))

  pub next_fair : (vs : List Move) → Lists d vs → (i : ℕ) (v : Move) → slice_get vs i ≡ Some v → lawful (played d v) ≡ true
  next_fair vs l i v h = (lawful_means (played d v)).1 (moves-keep d law v (l.sound v (nth_has vs i v h)))
