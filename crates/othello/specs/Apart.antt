-- A placement puts no two discs on a square.
use Rattle.std.specs.Prelude.{◌≡◌, ℕ, ◌^◌, ◌<◌, Bool, true, false, not, ◌&&◌, ◌||◌, ◌==◌, bit_and, refl}
use Rattle.std.proofs.Common.{sym, ◌∙◌}
use Rattle.std.proofs.Math.Path.{ap, ap₂}
use Rattle.std.proofs.Math.Bool.{and_comm}
use Rattle.std.proofs.lemmas.Bool.{false≢true, not-true, and_parts, or_parts, eqb-true}
use Rattle.board.specs.Masks.{bit, member, word}
use Rattle.board.proofs.Bits.{bit_word, word_below}
use Rattle.othello_rules.specs.Rules.{flipped, legal, any}
use Rattle.othello_rules.specs.Diagrams.{opponent, discs, own, other, moved, own_after, other_after, placeable, placed}
use Rattle.othello_rules.specs.declared.diagram.Diagram.{Diagram}
use Rattle.othello_rules.specs.declared.side.Side.{Side}
use Rattle.othello_rules.specs.declared.side.Side.TheVariants.{X, O}
use Rattle.othello_rules.proofs.Meaning.{apart-word, apart_bits}

clash : (w o m e : Bool) → (w && o) ≡ false → (e ≡ true → o ≡ false) → ((w || (e || m)) && (o && not m)) ≡ false
clash true true m e a b = absurd (false≢true (sym a))
clash true false m e a b = refl
clash false true m true a b = absurd (false≢true (sym (b refl)))
clash false true true false a b = refl
clash false true false false a b = refl
clash false false m true a b = refl
clash false false true false a b = refl
clash false false false false a b = refl

-- the two words of a move's outcome
moved_apart : (m : Side) (a b : ℕ) → a < 2 ^ 64 → b < 2 ^ 64 → ((q : ℕ) → q < 64 → (bit a q && bit b q) ≡ false) → bit_and (moved m a b).x (moved m a b).o ≡ 0
moved_apart X a b h k f = apart-word a b h f
moved_apart O a b h k f = apart-word b a k (λ q l. and_comm (bit b q) (bit a q) ∙ f q l)

pub moved_fits : (m : Side) (a b : ℕ) → a < 2 ^ 64 → b < 2 ^ 64 → ((moved m a b).x < 2 ^ 64) × ((moved m a b).o < 2 ^ 64)
moved_fits X a b h k = (h, k)
moved_fits O a b h k = (k, h)

own_apart : (d : Diagram) (q : ℕ) → bit_and d.x d.o ≡ 0 → (own d q && other d q) ≡ false
own_apart d q e = go d.mover
  where
    go : (m : Side) → (bit (discs m d) q && bit (discs (opponent m) d) q) ≡ false
    go X = apart_bits d.x d.o q e
    go O = and_comm (bit d.o q) (bit d.x q) ∙ apart_bits d.x d.o q e

module _ (d : Diagram) (s : ℕ) where
  pub placed_apart : bit_and d.x d.o ≡ 0 → placeable d s ≡ true → bit_and (placed d s).x (placed d s).o ≡ 0
  unfolding legal
  placed_apart e l =
      let free = (or_parts (own d s) (other d s) (not-true (own d s || other d s) (and_parts (not (own d s || other d s)) (any (flipped (own d) (other d) s)) l).0)).1 in
      moved_apart d.mover (word 64 (own_after (own d) (other d) s)) (word 64 (other_after (own d) (other d) s))
      (word_below 64 (own_after (own d) (other d) s)) (word_below 64 (other_after (own d) (other d) s))
      (λ q h. ap₂ (λ (x y : Bool). x && y) (bit_word 64 (own_after (own d) (other d) s) q h) (bit_word 64 (other_after (own d) (other d) s) q h)
      ∙ clash (own d q) (other d q) (member q (flipped (own d) (other d) s)) (s == q) (own_apart d q e)
      (λ t. ap (other d) (sym (eqb-true s q t)) ∙ free))

  pub placed_fits : ((placed d s).x < 2 ^ 64) × ((placed d s).o < 2 ^ 64)
  placed_fits =
      moved_fits d.mover (word 64 (own_after (own d) (other d) s)) (word 64 (other_after (own d) (other d) s))
      (word_below 64 (own_after (own d) (other d) s)) (word_below 64 (other_after (own d) (other d) s))
