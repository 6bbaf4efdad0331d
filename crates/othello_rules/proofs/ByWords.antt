-- A placement by words is the placement by squares.
use Rattle.std.proofs.Common.{◌≡◌, ℕ, ◌-◌, ◌^◌, ◌<◌, Bool, true, false, cond, not, ◌&&◌, ◌||◌, eqb, List, [], ◌∷◌, sym, refl, ap, ◌∙◌, ap₂, arith}
use lib.Bits.{bit_and, bit_or, or_lt, and_le_l}
use Rattle.std.proofs.lemmas.Bool.{ne_eqb, not-true, and_parts, cond-false}
use Rattle.board.specs.Masks.{bit, mask, member, word}
use Rattle.board.proofs.Bits.{bit-and, bit-or, bit_not, bit-single, bit_mask, mask_one, word-is}
use Rattle.othello_rules.specs.Rules.{flipped, legal, any}
use Rattle.othello_rules.specs.Diagrams.{opponent, discs, own, other, moved, turns, placeable, placed}
use Rattle.othello_rules.specs.declared.diagram.Diagram.{Diagram}

any_none : (l : List ℕ) → mask l ≡ 0 → any l ≡ false
unfolding any
any_none [] e = refl
any_none (q ∷ qs) e = absurd (mask_one q qs e)

any_some : (l : List ℕ) → (mask l ≡ 0 → ⊥) → any l ≡ true
unfolding any mask
any_some [] ne = absurd (ne refl)
any_some (q ∷ qs) ne = refl

any-test : (l : List ℕ) → not (eqb (mask l) 0) ≡ any l
unfolding any mask
any-test [] = refl
any-test (q ∷ qs) = ap not (ne_eqb (mask (q ∷ qs)) 0 (mask_one q qs))

exchange : (a m e : Bool) → ((a || m) || e) ≡ (a || (e || m))
exchange true m e = refl
exchange false true true = refl
exchange false true false = refl
exchange false false true = refl
exchange false false false = refl

pub own-word : (own s : ℕ) (l : List ℕ) → own < 2 ^ 64 → 2 ^ s < 2 ^ 64 → mask l < 2 ^ 64
    → bit_or (bit_or own (mask l)) (2 ^ s) ≡ word 64 (λ q. bit own q || (eqb s q || member q l))
own-word own s l ho hs hl =
    word-is 64 (bit_or (bit_or own (mask l)) (2 ^ s)) (λ q. bit own q || (eqb s q || member q l))
    (or_lt 64 (bit_or own (mask l)) (2 ^ s) (or_lt 64 own (mask l) ho hl) hs)
    (λ q k. simp (bit-or, bit_mask, bit-single) (exchange (bit own q) (member q l) (eqb s q)))

pub other_word : (other : ℕ) (l : List ℕ) → other < 2 ^ 64 → mask l < 2 ^ 64
    → bit_and other ((2 ^ 64 - 1) - mask l) ≡ word 64 (λ q. bit other q && not (member q l))
other_word other l ho hl =
    word-is 64 (bit_and other ((2 ^ 64 - 1) - mask l)) (λ q. bit other q && not (member q l))
    (omega (arith, and_le_l other ((2 ^ 64 - 1) - mask l)))
    (λ q k. bit-and other ((2 ^ 64 - 1) - mask l) q ∙ ap (λ (x : Bool). bit other q && x) (bit_not 64 (mask l) q k hl ∙ ap not (bit_mask l q)))

-- ---- what a disc on a square turns

module _ (d : Diagram) (s : ℕ) where
  any_turns : any (turns d s) ≡ placeable d s
  unfolding legal any
  any_turns = elim (own d s || other d s) as (λ b. any (cond b [] (flipped (own d) (other d) s)) ≡ (not b && any (flipped (own d) (other d) s)))
      [ true ↦ refl | false ↦ refl ]

  pub turns_none : mask (turns d s) ≡ 0 → placeable d s ≡ false
  turns_none e = sym any_turns ∙ any_none (turns d s) e

  pub turns_some : (mask (turns d s) ≡ 0 → ⊥) → placeable d s ≡ true
  turns_some ne = sym any_turns ∙ any_some (turns d s) ne

  pub turns_test : not (eqb (mask (turns d s)) 0) ≡ placeable d s
  turns_test = any-test (turns d s) ∙ any_turns

  -- where a placement is legal, the square is empty
  pub turns_flipped : placeable d s ≡ true → turns d s ≡ flipped (own d) (other d) s
  unfolding legal
  turns_flipped e =
      cond-false (own d s || other d s) [] (flipped (own d) (other d) s)
      (not-true (own d s || other d s) (and_parts (not (own d s || other d s)) (any (flipped (own d) (other d) s)) e).0)

-- ---- the words of a diagram

module _ (d : Diagram) (mine theirs s : ℕ) (e : mine ≡ discs d.mover d) (f : theirs ≡ discs (opponent d.mover) d) where
  occupied : (b : Bool) → bit (bit_or mine theirs) s ≡ b → (own d s || other d s) ≡ b
  occupied b k = sym (ap₂ (λ (x y : ℕ). bit x s || bit y s) e f) ∙ sym (bit-or mine theirs s) ∙ k

  pub turns_taken : bit (bit_or mine theirs) s ≡ true → 0 ≡ mask (turns d s)
  unfolding mask
  turns_taken k = sym (ap (λ (b : Bool). mask (cond b [] (flipped (own d) (other d) s))) (occupied true k))

  pub turns_free : bit (bit_or mine theirs) s ≡ false → mask (flipped (bit mine) (bit theirs) s) ≡ mask (turns d s)
  turns_free k =
      ap₂ (λ (x y : ℕ). mask (flipped (bit x) (bit y) s)) e f
      ∙ sym (ap (λ (b : Bool). mask (cond b [] (flipped (own d) (other d) s))) (occupied false k))

  pub placed_words : (turned cell : ℕ) → mine < 2 ^ 64 → theirs < 2 ^ 64 → turned < 2 ^ 64 → cell < 2 ^ 64
      → turned ≡ mask (flipped (own d) (other d) s) → cell ≡ 2 ^ s
      → moved d.mover (bit_or (bit_or mine turned) cell) (bit_and theirs ((2 ^ 64 - 1) - turned)) ≡ placed d s
  placed_words turned cell hm ht hl hc t k =
      let l = flipped (own d) (other d) s in
      let hl : mask l < 2 ^ 64 = omega arith in
      let hs : 2 ^ s < 2 ^ 64 = omega arith in
      ap₂ (moved d.mover)
      (ap₂ (λ (x y : ℕ). bit_or (bit_or mine x) y) t k ∙ own-word mine s l hm hs hl ∙ ap (λ (x : ℕ). word 64 (λ q. bit x q || (eqb s q || member q l))) e)
      (ap (λ (x : ℕ). bit_and theirs ((2 ^ 64 - 1) - x)) t ∙ other_word theirs l ht hl ∙ ap (λ (x : ℕ). word 64 (λ q. bit x q && not (member q l))) f)
