-- Lines and looks, walked by distance from where they begin.
use Rattle.std.proofs.Common.{◌≡◌, ℕ, ◌+◌, ◌-◌, ◌^◌, ◌<◌, ◌≤◌, true, false, ◌&&◌, ltb, List, [], ◌∷◌, is_some, Some, None, ⊎_elim, sym, ap, ◌∙◌, arith}
use Rattle.std.proofs.lemmas.Bool.{cases_lt}
use lib.Bits.{bit_or, or_zero_r}
use Rattle.board.specs.Squares.{reach, away, opposite}
use Rattle.board.specs.Masks.{mask}
use Rattle.board.specs.declared.direction.Direction.{Direction}
use Rattle.board.proofs.Bits.{or_assoc}
use Rattle.chess_attacks.specs.declared.men.Man.{Man}
use Rattle.chess_attacks.specs.declared.men.Side.{Side}
use Rattle.chess_attacks.specs.Men.{Squares, on, same_side}
use Rattle.chess_attacks.specs.Ranges.{range_of}
use Rattle.chess_attacks.specs.Lists.{beside, line}
use Rattle.chess_attacks.specs.Look.{struck}
use Rattle.chess_attacks.proofs.Runs.{line_none, line_end, line_stop, line_more}
use Rattle.chess_attacks.proofs.Sights.{struck_none, struck_end, struck_stop, struck_more}
use Rattle.chess_attacks.proofs.Onward.{near, beside_away, beside_edge}

-- after k steps: the squares seen, with those that are to come, are the whole line
abbrev pub Seen : Squares → Direction → ℕ → ℕ → ℕ → ℕ → Type 0
Seen b d s n seen k = mask (line b d s n) ≡ bit_or seen (mask (line b d (away d s k) (n - k)))

module _ (b : Squares) (d : Direction) (s : ℕ) (in' : s < 64) (n : ℕ) where
  module _ (seen k : ℕ) (w : Seen b d s n seen k) where
    over : line b d (away d s k) (n - k) ≡ [] → seen ≡ mask (line b d s n)
    unfolding mask
    over e = sym (w ∙ (ap (λ (xs : List ℕ). bit_or seen (mask xs)) e ∙ or_zero_r seen))

    pub seen_end : (k < n → k ≡ reach d s) → seen ≡ mask (line b d s n)
    seen_end e =
        ⊎_elim
        (λ (l : k < n). over (line_end b d (away d s k) n k l (beside_edge d s in' k (sym (e l)))))
        (λ (l : n ≤ k). over (line_none b d (away d s k) n k l))
        (cases_lt k n)

    module _ (l : k < n) (h : k < reach d s) (q : ℕ) (is : q ≡ away d s (k + 1)) where
      next : beside d (away d s k) ≡ Some q
      next = beside_away d s in' k h ∙ ap Some (sym is)

      pub seen-man : true ≡ is_some (on b q) → bit_or seen (2 ^ q) ≡ mask (line b d s n)
      unfolding mask
      seen-man m =
          let e = line_stop b d (away d s k) n k l q next (sym m) in
          sym (w ∙ (ap (λ (xs : List ℕ). bit_or seen (mask xs)) e ∙ ap (bit_or seen) (or_zero_r (2 ^ q))))

      pub seen-on : false ≡ is_some (on b q) → Seen b d s n (bit_or seen (2 ^ q)) (k + 1)
      unfolding mask
      seen-on m =
          let e = line_more b d (away d s k) n k l q next (sym m) ∙ ap (λ (t : ℕ). q ∷ line b d t (n - (k + 1))) is in
          w ∙ (ap (λ (xs : List ℕ). bit_or seen (mask xs)) e ∙ sym (or_assoc seen (2 ^ q) (mask (line b d (away d s (k + 1)) (n - (k + 1))))))

-- after k steps: what is seen from there is what is seen from the start
abbrev pub Looked : Squares → Direction → Side → ℕ → ℕ → Type 0
Looked b d by s k = struck b d by (away d s k) k (7 - k) ≡ struck b d by s 0 7

module _ (b : Squares) (d : Direction) (by : Side) (s : ℕ) (in' : s < 64) where
  module _ (k : ℕ) (w : Looked b d by s k) where
    pub looked_end : k ≡ reach d s → false ≡ struck b d by s 0 7
    looked_end e =
        ⊎_elim
        (λ (l : k < 7). sym (struck_end b d by (away d s k) k l (beside_edge d s in' k (sym e))) ∙ w)
        (λ (l : 7 ≤ k). sym (struck_none b d by (away d s k) k l) ∙ w)
        (cases_lt k 7)

    module _ (h : k < reach d s) (q : ℕ) (is : q ≡ away d s (k + 1)) where
      more : k < 7
      more = omega (arith, near d s in')

      ahead : beside d (away d s k) ≡ Some q
      ahead = beside_away d s in' k h ∙ ap Some (sym is)

      pub looked-man : (m : Man) → Some m ≡ on b q → (same_side m.side by && ltb k (range_of m (opposite d))) ≡ struck b d by s 0 7
      looked-man m e = sym (struck_stop b d by (away d s k) k more q m ahead (sym e)) ∙ w

      pub looked-on : None ≡ on b q → Looked b d by s (k + 1)
      looked-on e =
          sym (struck_more b d by (away d s k) k more q ahead (sym e) ∙ ap (λ (t : ℕ). struck b d by t (k + 1) (7 - (k + 1))) is) ∙ w
