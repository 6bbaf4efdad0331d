-- What setting makes of a text, from what reading makes of it.
use Rattle.std.proofs.Common.{◌≡◌, ℕ, ◌-◌, ◌*◌, Bool, true, false, cond, ◌&&◌, leb, List, Ok, Err, Result, MatchResult, IsErrAnd, sym, refl, ap, ◌∙◌, arith}
use Rattle.std.proofs.lemmas.Bool.Decides.{nat_tests}
use Rattle.form.specs.Forms.{reading}
use Rattle.game.specs.Tree.{position, refused}
use Rattle.game.specs.Declines.{number}
use Rattle.game.specs.declared.decline.SetDecline.{SetDecline}
use Rattle.chess_moves.specs.declared.diagram.Diagram.{Diagram}
use Rattle.chess_text.specs.Reading.{form}
use Rattle.chess.specs.Limits.{aim_limit}
use Rattle.chess.specs.Trees.{tree}
use Rattle.chess_rules.specs.Lawful.{Lawful, lawful}
use Rattle.chess_rules.proofs.Tested.{lawful_means}
use Rattle.chess.specs.declared.problem.Problem.{Problem}
use Rattle.chess.specs.Setting.{judged, reading_of, Aims}

module _ (t : List ℕ) (aim : ℕ) where
  pub aim_set : Aims aim → (r : Result Diagram ℕ) → r ≡ reading form t → reading_of t aim ≡ judged aim r
  aim_set a r q =
      let e : (leb 1 aim && leb aim aim_limit) ≡ true = let h = a.some in let k = a.few in grind (arith, nat_tests) in
      ap (λ (x : Bool). cond x (judged aim (reading form t)) (refused 7 0)) e ∙ ap (judged aim) (sym q)

  pub diagram_set : Aims aim → (d : Diagram) (x : Bool) → Ok d ≡ reading form t → x ≡ lawful d
      → reading_of t aim ≡ cond x (position (tree d.mover (2 * aim - 1) d)) (refused 9 0)
  diagram_set a d x q e =
      aim_set a (Ok d) q ∙ ap (λ (y : Bool). cond y (position (tree d.mover (2 * aim - 1) d)) (refused 9 0)) (sym e)

-- what is declined at the start of the text, by the number of the cause
pub declined_so : (r : Result Problem SetDecline) (n : ℕ) (P : Problem → Type 0) (Q : ℕ → ℕ → Type 0)
    → IsErrAnd r (λ e. (number e.cause ≡ n) × (e.place ≡ 0)) → Q n 0 → MatchResult r P (λ e. Q (number e.cause) e.place)
declined_so (Ok p) n P Q h q = absurd h
declined_so (Err e) n P Q h q = rw (h.0, h.1) q

-- what no position of a diagram says of the test
pub not-lawful : (d : Diagram) → (Lawful d → ⊥) → false ≡ lawful d
not-lawful d h = at (lawful d) refl
  where
    at : (x : Bool) → lawful d ≡ x → false ≡ x
    at true e = absurd (h ((lawful_means d).0 e))
    at false e = refl
