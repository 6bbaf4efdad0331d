-- One turn of a walk along a line.
use Rattle.std.proofs.Common.{◌≡◌, ℕ, suc, ◌+◌, ◌-◌, ◌<◌, ◌≤◌, true, false, [], ◌∷◌, is_some, Some, None, Option, refl, ap, ◌∙◌, arith}
use Rattle.chess_attacks.specs.declared.men.Man.{Man}
use Rattle.board.specs.declared.direction.Direction.{Direction}
use Rattle.chess_attacks.specs.Men.{Squares, on, given}
use Rattle.chess_attacks.specs.Lists.{beside, line}

-- one turn of a walk of n squares, of which k are walked
module _ (b : Squares) (d : Direction) (s n k : ℕ) where
  less : k < n → n - k ≡ suc (n - (k + 1))
  less h = omega arith

  pub line_none : n ≤ k → line b d s (n - k) ≡ []
  unfolding line
  line_none h = let e : n - k ≡ 0 = omega arith in rw e

  pub line_end : k < n → beside d s ≡ None → line b d s (n - k) ≡ []
  unfolding line
  line_end h e = rw (less h) (ap (λ (o : Option ℕ). given o [] (λ t. t ∷ given (on b t) (line b d t (n - (k + 1))) (λ _. []))) e)

  pub line_stop : k < n → (t : ℕ) → beside d s ≡ Some t → is_some (on b t) ≡ true → line b d s (n - k) ≡ t ∷ []
  unfolding line
  line_stop h t e f =
      rw (less h) (ap (λ (o : Option ℕ). given o [] (λ t. t ∷ given (on b t) (line b d t (n - (k + 1))) (λ _. []))) e ∙ ap (λ xs. t ∷ xs) (stop (on b t) f))
    where
      stop : (o : Option Man) → is_some o ≡ true → given o (line b d t (n - (k + 1))) (λ _. []) ≡ []
      stop (Some m) e = refl
      stop None e = cc

  pub line_more : k < n → (t : ℕ) → beside d s ≡ Some t → is_some (on b t) ≡ false → line b d s (n - k) ≡ t ∷ line b d t (n - (k + 1))
  unfolding line
  line_more h t e f =
      rw (less h) (ap (λ (o : Option ℕ). given o [] (λ t. t ∷ given (on b t) (line b d t (n - (k + 1))) (λ _. []))) e ∙ ap (λ xs. t ∷ xs) (stop (on b t) f))
    where
      stop : (o : Option Man) → is_some o ≡ false → given o (line b d t (n - (k + 1))) (λ _. []) ≡ line b d t (n - (k + 1))
      stop (Some m) e = cc
      stop None e = refl
