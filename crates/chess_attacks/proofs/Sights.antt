-- One turn of a look along a line.
use Rattle.std.proofs.Common.{◌≡◌, ℕ, suc, ◌+◌, ◌-◌, ◌<◌, ◌≤◌, Bool, false, ◌&&◌, ltb, Some, None, Option, refl, ap, ◌∙◌, arith}
use Rattle.chess_attacks.specs.declared.men.Man.{Man}
use Rattle.chess_attacks.specs.declared.men.Side.{Side}
use Rattle.board.specs.declared.direction.Direction.{Direction}
use Rattle.chess_attacks.specs.Men.{Squares, on, given, same_side}
use Rattle.chess_attacks.specs.Ranges.{range_of}
use Rattle.board.specs.Squares.{opposite}
use Rattle.chess_attacks.specs.Lists.{beside}
use Rattle.chess_attacks.specs.Look.{struck}

-- one turn of a look of 7 squares, of which k are walked
module _ (b : Squares) (d : Direction) (by : Side) (s k : ℕ) where
  less : k < 7 → 7 - k ≡ suc (7 - (k + 1))
  less h = omega arith

  abbrev found : Option Man → Bool → Bool
  found o x = given o x (λ m. same_side m.side by && ltb k (range_of m (opposite d)))

  abbrev next : Option ℕ → Bool
  next o = given o false (λ t. found (on b t) (struck b d by t (k + 1) (7 - (k + 1))))

  step : k < 7 → struck b d by s k (7 - k) ≡ next (beside d s)
  unfolding struck
  step h = rw (less h) refl

  pub struck_none : 7 ≤ k → struck b d by s k (7 - k) ≡ false
  unfolding struck
  struck_none h = let e : 7 - k ≡ 0 = omega arith in rw e

  pub struck_end : k < 7 → beside d s ≡ None → struck b d by s k (7 - k) ≡ false
  struck_end h e = step h ∙ ap next e

  pub struck_stop : k < 7 → (t : ℕ) (m : Man) → beside d s ≡ Some t → on b t ≡ Some m → struck b d by s k (7 - k) ≡ (same_side m.side by && ltb k (range_of m (opposite d)))
  struck_stop h t m e f = step h ∙ (ap next e ∙ ap (λ o. found o (struck b d by t (k + 1) (7 - (k + 1)))) f)

  pub struck_more : k < 7 → (t : ℕ) → beside d s ≡ Some t → on b t ≡ None → struck b d by s k (7 - k) ≡ struck b d by t (k + 1) (7 - (k + 1))
  struck_more h t e f = step h ∙ (ap next e ∙ ap (λ o. found o (struck b d by t (k + 1) (7 - (k + 1)))) f)
