-- The parts that the list of moves is made of.
use Rattle.std.proofs.Common.{◌≡◌, ℕ, zero, suc, ◌+◌, ◌<◌, ◌≤◌, Bool, cond, not, ◌&&◌, ◌||◌, ◌⊎◌, List, [], ◌∷◌, ◌++◌, length, get_or, take, Some, None, Option, sym, refl, ap, ◌∙◌, inl, inr, add-one, arith}
use Rattle.std.proofs.lemmas.Bool.{cases_lt}
use Rattle.std.proofs.lemmas.List.{append_assoc, append-nil, take_more}
use Rattle.board.specs.Masks.{bit, mask}
use Rattle.board.proofs.Bits.{bit_mask}
use Rattle.chess_attacks.specs.declared.men.Man.{Man}
use Rattle.chess_attacks.specs.declared.men.Side.{Side}
use Rattle.chess_attacks.specs.Men.{Squares, on, given, other, same_side, is_pawn, of}
use Rattle.chess_attacks.specs.Lists.{commands, checked}
use Rattle.chess_moves.specs.declared.step.Move.{Move}
use Rattle.chess_moves.specs.declared.step.Promotion.{Promotion}
use Rattle.chess_moves.specs.declared.step.Promotion.TheVariants.{Queen, Rook, Bishop, Knight}
use Rattle.chess_moves.specs.Pawns.{at_end, is_passing}
use Rattle.chess_moves.specs.After.{after}
use Rattle.chess_moves.specs.Moves.{empty, ahead_of, goes, a_move, one, tries, moves_to, moves_of, moves_from, reach_of, steps_of}

module _ (b : Squares) (e : Option ℕ) (m : Man) (f t : ℕ) where
  pub one_is : (k : Option Promotion) (x : Bool) → x ≡ checked (after b e m f t k) m.side → cond x [] (a_move f t k ∷ []) ≡ one b e m f t k
  unfolding one
  one_is k x h = ap (λ y. cond y [] (a_move f t k ∷ [])) h

  pub tries_is : (x : Bool) → x ≡ at_end m t
      → cond x (one b e m f t (Some Queen) ++ (one b e m f t (Some Rook) ++ (one b e m f t (Some Bishop) ++ one b e m f t (Some Knight)))) (one b e m f t None) ≡ tries b e m f t
  unfolding tries
  tries_is x h = ap (λ y. cond y (one b e m f t (Some Queen) ++ (one b e m f t (Some Rook) ++ (one b e m f t (Some Bishop) ++ one b e m f t (Some Knight)))) (one b e m f t None)) h

  -- the moves by which a pawn becomes one of these, one after the other
  abbrev pub promoted : List Promotion → List Move
  promoted [] = []
  promoted (k ∷ ks) = one b e m f t (Some k) ++ promoted ks

  promoted_push : (ks : List Promotion) (k : Promotion) → promoted (ks ++ k ∷ []) ≡ promoted ks ++ one b e m f t (Some k)
  promoted_push [] k = append-nil (one b e m f t (Some k))
  promoted_push (j ∷ ks) k =
      ap (λ vs. one b e m f t (Some j) ++ vs) (promoted_push ks k) ∙ sym (append_assoc (one b e m f t (Some j)) (promoted ks) (one b e m f t (Some k)))

  pub promoted_more : (ks : List Promotion) (i : ℕ) (k : Promotion) → i < length ks → promoted (take (i + 1) ks) ≡ promoted (take i ks) ++ one b e m f t (Some (get_or ks i k))
  promoted_more ks i k h = ap promoted (take_more ks i k h) ∙ promoted_push (take i ks) (get_or ks i k)

  pub promoted_all : promoted (Queen ∷ Rook ∷ Bishop ∷ Knight ∷ []) ≡ one b e m f t (Some Queen) ++ (one b e m f t (Some Rook) ++ (one b e m f t (Some Bishop) ++ one b e m f t (Some Knight)))
  promoted_all = ap (λ vs. one b e m f t (Some Queen) ++ (one b e m f t (Some Rook) ++ (one b e m f t (Some Bishop) ++ vs))) (append-nil (one b e m f t (Some Knight)))

module _ (b : Squares) (e : Option ℕ) (m : Man) (f : ℕ) where
  -- the moves to the squares from t on
  pub to_none : (p q : ℕ → Bool) (n : ℕ) → n ≡ 0 → moves_to b e m p q f n ≡ []
  unfolding moves_to
  to_none p q n z = rw z refl

  pub to_more : (p q : ℕ → Bool) (n t next : ℕ) (x : Bool) → t ≡ n → next ≡ n + 1 → x ≡ goes b e m p q t → moves_to b e m p q f next ≡ moves_to b e m p q f n ++ cond x (tries b e m f t) []
  unfolding moves_to
  to_more p q n t next x same z h =
      rw (z, add-one)
      (λ i. moves_to b e m p q f n ++ cond (sym (h ∙ ap (goes b e m p q) same) i) (tries b e m f (sym same i)) [])

  abbrev going : ℕ → Bool → Bool → Bool
  going t x y = cond (is_pawn m.kind) ((y && empty (on b t)) || (x && (of (other m.side) (on b t) || is_passing e t))) (x && not (of m.side (on b t)))

  pub to_same : (p q r s : ℕ → Bool) (n : ℕ) → ((t : ℕ) → p t ≡ r t) → ((t : ℕ) → q t ≡ s t) → moves_to b e m p q f n ≡ moves_to b e m r s f n
  unfolding moves_to
  to_same p q r s zero h k = refl
  to_same p q r s (suc n) h k =
      ap (λ xs. xs ++ cond (goes b e m p q n) (tries b e m f n) []) (to_same p q r s n h k)
      ∙ (λ i. moves_to b e m r s f n ++ cond (going n (h n i) (k n i)) (tries b e m f n) [])

  -- by the words of the squares commanded and ahead
  pub to_words : (v w n : ℕ) → v ≡ mask (commands b m f) → w ≡ mask (ahead_of b m f) → moves_to b e m (bit v) (bit w) f n ≡ moves_to b e m (reach_of b m f) (steps_of b m f) f n
  to_words v w n h k =
      to_same (bit v) (bit w) (reach_of b m f) (steps_of b m f) n
      (λ t. ap (λ u. bit u t) h ∙ bit_mask (commands b m f) t) (λ t. ap (λ u. bit u t) k ∙ bit_mask (ahead_of b m f) t)

module _ (b : Squares) (a : Side) (e : Option ℕ) where
  pub from_none : (n : ℕ) → n ≡ 0 → moves_from b a e n ≡ []
  unfolding moves_from
  from_none n z = rw z refl

  pub from_more : (n f next : ℕ) → f ≡ n → next ≡ n + 1 → moves_from b a e next ≡ moves_from b a e n ++ moves_of b a e f
  unfolding moves_from
  from_more n f next same z = rw (z, add-one) (λ i. moves_from b a e n ++ moves_of b a e (sym same i))

  -- by what stands on f
  pub of_man : (f : ℕ) (m : Man) (x : Bool) → on b f ≡ Some m → same_side m.side a ≡ x → moves_of b a e f ≡ cond x (moves_to b e m (reach_of b m f) (steps_of b m f) f 64) []
  of_man f m x h s =
      ap (λ (o : Option Man). given o [] (λ m. cond (same_side m.side a) (moves_to b e m (reach_of b m f) (steps_of b m f) f 64) [])) h
      ∙ ap (λ y. cond y (moves_to b e m (reach_of b m f) (steps_of b m f) f 64) []) s

-- a list that grows at the end begins with what it was
module _ (xs part : ℕ → List Move) (more : (n : ℕ) → xs (suc n) ≡ xs n ++ part n) where
  rest_more : (k n : ℕ) → (k < suc n) ⊎ (suc n ≤ k) → k ≤ suc n → (k ≤ n → (ys : List Move) × (xs n ≡ xs k ++ ys)) → (ys : List Move) × (xs (suc n) ≡ xs k ++ ys)
  rest_more k n (inl l) h ih =
      let r = ih (omega arith) in
      (r.0 ++ part n, more n ∙ (ap (λ zs. zs ++ part n) r.1 ∙ append_assoc (xs k) r.0 (part n)))
  rest_more k n (inr g) h ih =
      let same : suc n ≡ k = omega arith in
      ([], ap xs same ∙ sym (append-nil (xs k)))

  pub rest_of : (n k : ℕ) → k ≤ n → (ys : List Move) × (xs n ≡ xs k ++ ys)
  rest_of zero k h = let same : zero ≡ k = omega arith in ([], ap xs same ∙ sym (append-nil (xs k)))
  rest_of (suc n) k h = rest_more k n (cases_lt k (suc n)) h (λ l. rest_of n k l)

pub to-rest : (b : Squares) (e : Option ℕ) (m : Man) (p q : ℕ → Bool) (f k : ℕ) → k ≤ 64 → (ys : List Move) × (moves_to b e m p q f 64 ≡ moves_to b e m p q f k ++ ys)
unfolding moves_to
to-rest b e m p q f k h = rest_of (moves_to b e m p q f) (λ t. cond (goes b e m p q t) (tries b e m f t) []) (λ n. refl) 64 k h

pub from-rest : (b : Squares) (a : Side) (e : Option ℕ) (k : ℕ) → k ≤ 64 → (ys : List Move) × (moves_from b a e 64 ≡ moves_from b a e k ++ ys)
unfolding moves_from
from-rest b a e k h = rest_of (moves_from b a e) (moves_of b a e) (λ n. refl) 64 k h
