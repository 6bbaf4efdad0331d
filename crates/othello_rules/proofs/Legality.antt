-- A placement by squares is one in the words of the rules.
use Rattle.std.proofs.Common.{◌≡◌, ℕ, ◌+◌, ◌^◌, ◌<◌, ◌≤◌, ◌-◌, Bool, true, false, not, ◌&&◌, ◌||◌, eqb, ◌⊎◌, ◌≢◌, Decides, sym, refl, ◌∙◌, inl, inr, arith}
use Rattle.std.proofs.lemmas.Bool.{false≢true, cases_eq, eq-eqb, ne_eqb}
use Rattle.board.specs.Masks.{bit, member}
use Rattle.board.specs.Squares.{reach, away}
use Rattle.board.specs.declared.direction.Direction.{Direction}
use Rattle.board.proofs.Bits.{bit_word, bit_ext, word_below}
use Rattle.othello_rules.specs.Rules.{flipped}
use Rattle.othello_rules.specs.Diagrams.{opponent, discs, own, other, moved, own_after, other_after, placeable, placed, passed}
use Rattle.othello_rules.specs.Legal.{has, Holds, Turns, Legal, Leaves, Passes, LeavesOne}
use Rattle.othello_rules.specs.declared.diagram.Diagram.{Diagram}
use Rattle.othello_rules.specs.declared.side.Side.{Side}
use Rattle.othello_rules.specs.declared.side.Side.TheVariants.{X, O}
use Rattle.othello_rules.proofs.Closing.{away-below}
use Rattle.othello_rules.proofs.Ruled.{placing}

-- ---- the two sides

-- each side is the one or the other
pub one_side : (n m : Side) → (m ≡ n) ⊎ (m ≡ opponent n)
one_side X X = inl refl
one_side X O = inr refl
one_side O X = inr refl
one_side O O = inl refl

both_sides : (P : Side → Type 0) (n : Side) → P n → P (opponent n) → (m : Side) → P m
both_sides P X p q X = p
both_sides P X p q O = q
both_sides P O p q X = q
both_sides P O p q O = p

-- ---- where a placement is legal

module _ (d : Diagram) (s : ℕ) where
  pub placeable_legal : s < 64 → placeable d s ≡ true → Legal d.mover d s
  placeable_legal h e =
      let l = (placing (own d) (other d) s).1.0 e in
      record { on_board = h; free = both_sides (λ m. has m d s ≡ false) d.mover l.0 l.1; turns = l.2 }

  pub legal_placeable : Legal d.mover d s → placeable d s ≡ true
  legal_placeable l = (placing (own d) (other d) s).1.1 (l.free d.mover, l.free (opponent d.mover), l.turns)

  pub placeable_means : s < 64 → Decides (placeable d s) (Legal d.mover d s)
  placeable_means h = (placeable_legal h, legal_placeable)

  -- what is turned stands in the list, and it is on the board
  listed_turns : (q : ℕ) → member q (flipped (own d) (other d) s) ≡ true → Turns d.mover d s q
  listed_turns q = ((placing (own d) (other d) s).0 q).0

  turns_listed : (q : ℕ) → Turns d.mover d s q → member q (flipped (own d) (other d) s) ≡ true
  turns_listed q = ((placing (own d) (other d) s).0 q).1

  turns_on_board : (q : ℕ) → s < 64 → Turns d.mover d s q → q < 64
  turns_on_board q h t = go t.direction t.distance t.there t.near (let a : t.distance ≤ t.run = t.far in let b : t.run < reach t.direction s = t.closed.within in omega arith)
    where
      go : (w : Direction) (k : ℕ) → q ≡ away w s k → 1 ≤ k → k < reach w s → q < 64
      go w k e a b = let z : k ≡ (k - 1) + 1 = omega arith in let l = away-below w s (k - 1) h (omega arith) in rw (e, z) l

-- ---- what a placement leaves

has_mine : (m : Side) (a b q : ℕ) → has m (moved m a b) q ≡ bit a q
has_mine X a b q = refl
has_mine O a b q = refl

has_theirs : (m : Side) (a b q : ℕ) → has (opponent m) (moved m a b) q ≡ bit b q
has_theirs X a b q = refl
has_theirs O a b q = refl

moved_words : (m n : Side) (a b : ℕ) → a < 2 ^ 64 → b < 2 ^ 64 → discs n (moved m a b) < 2 ^ 64
moved_words X X a b h k = h
moved_words X O a b h k = k
moved_words O X a b h k = k
moved_words O O a b h k = h

-- the tests of a square after a placement
own_new : (w e f : Bool) → e ≡ true → (w || (e || f)) ≡ true
own_new true e f h = refl
own_new false true f h = refl
own_new false false f h = absurd (false≢true h)

own_turned : (w e f : Bool) → f ≡ true → (w || (e || f)) ≡ true
own_turned true e f h = refl
own_turned false true f h = refl
own_turned false false f h = h

own_kept : (w e f : Bool) → e ≡ false → f ≡ false → (w || (e || f)) ≡ w
own_kept true e f h k = refl
own_kept false e f h k = simp (h, k)

other_turned : (w f : Bool) → f ≡ true → (w && not f) ≡ false
other_turned true f h = simp h
other_turned false f h = refl

other_kept : (w f : Bool) → f ≡ false → (w && not f) ≡ w
other_kept true f h = simp h
other_kept false f h = refl

other_free : (w f : Bool) → w ≡ false → (w && not f) ≡ false
other_free true f h = absurd (false≢true (sym h))
other_free false f h = refl

module _ (d : Diagram) (s : ℕ) where
  own_bits : (q : ℕ) → q < 64 → has d.mover (placed d s) q ≡ own_after (own d) (other d) s q
  own_bits q h = has_mine d.mover _ _ q ∙ bit_word 64 (own_after (own d) (other d) s) q h

  other_bits : (q : ℕ) → q < 64 → has (opponent d.mover) (placed d s) q ≡ other_after (own d) (other d) s q
  other_bits q h = has_theirs d.mover _ _ q ∙ bit_word 64 (other_after (own d) (other d) s) q h

  not_listed : (q : ℕ) → (Turns d.mover d s q → ⊥) → member q (flipped (own d) (other d) s) ≡ false
  not_listed q n = go (member q (flipped (own d) (other d) s)) refl
    where
      go : (b : Bool) → member q (flipped (own d) (other d) s) ≡ b → b ≡ false
      go true e = absurd (n (listed_turns d s q e))
      go false e = refl

  pub placed_leaves : Legal d.mover d s → Leaves d s (placed d s)
  placed_leaves l =
      let on : s < 64 = l.on_board in
      let turned_to : ℕ → Bool = λ q. member q (flipped (own d) (other d) s) in
      record {
        placed = (
          own_bits s on ∙ own_new (own d s) (eqb s s) (turned_to s) (eq-eqb s s refl),
          other_bits s on ∙ other_free (other d s) (turned_to s) (l.free (opponent d.mover)),
        );
        turned = λ q t. (let h = turns_on_board d s q on t in let e = turns_listed d s q t in (
          own_bits q h ∙ own_turned (own d q) (eqb s q) (turned_to q) e,
          other_bits q h ∙ other_turned (other d q) (turned_to q) e,
        ));
        rest = λ q h n t. (let e = not_listed q t in both_sides (λ m. has m (placed d s) q ≡ has m d q) d.mover
            (own_bits q h ∙ own_kept (own d q) (eqb s q) (turned_to q) (ne_eqb s q (λ z. n (sym z))) e)
            (other_bits q h ∙ other_kept (other d q) (turned_to q) e));
        on_board = λ m. moved_words d.mover m _ _ (word_below 64 (own_after (own d) (other d) s)) (word_below 64 (other_after (own d) (other d) s));
        mover = (let e : (placed d s).mover ≡ opponent d.mover = refl in e);
      }

-- ---- nothing else is left

same_diagram : (e f : Diagram) → ((m : Side) → discs m e ≡ discs m f) → e.mover ≡ f.mover → e ≡ f
same_diagram e f h k = let x : e.x ≡ f.x = h X in let o : e.o ≡ f.o = h O in λ i. record { x = x i; o = o i; mover = k i }

pub leaves_one : LeavesOne
leaves_one d s on e f v w = same_diagram e f (λ m. bit_ext 64 _ _ (v.on_board m) (w.on_board m) (λ q h. at q h m)) (v.mover ∙ sym w.mover)
  where
    held : (q : ℕ) → Holds d.mover e q → Holds d.mover f q → (m : Side) → has m e q ≡ has m f q
    held q a b = both_sides (λ m. has m e q ≡ has m f q) d.mover (a.0 ∙ sym b.0) (a.1 ∙ sym b.1)

    beside : (q : ℕ) → q < 64 → s ≢ q → (b : Bool) → member q (flipped (own d) (other d) s) ≡ b → (m : Side) → has m e q ≡ has m f q
    beside q h n true t = held q (v.turned q (listed_turns d s q t)) (w.turned q (listed_turns d s q t))
    beside q h n false t =
        let free : Turns d.mover d s q → ⊥ = λ u. false≢true (sym t ∙ turns_listed d s q u) in
        λ m. v.rest q h (λ z. n (sym z)) free m ∙ sym (w.rest q h (λ z. n (sym z)) free m)

    at : (q : ℕ) → q < 64 → (m : Side) → has m e q ≡ has m f q
    at q h = elim (cases_eq s q) [
      | inl z ↦ (let P : ℕ → Type 0 = λ k. (m : Side) → has m e k ≡ has m f k in rw (sym z) (held s v.placed w.placed))
      | inr n ↦ beside q h n (member q (flipped (own d) (other d) s)) refl
    ]

pub passed_passes : (d : Diagram) → Passes d (passed d)
passed_passes d = record { stay = both_sides (λ m. discs m (passed d) ≡ discs m d) X refl refl; mover = refl }

pub passes_one : (d e : Diagram) → Passes d e → e ≡ passed d
passes_one d e p = same_diagram e (passed d) (λ m. p.stay m ∙ sym ((passed_passes d).stay m)) p.mover
