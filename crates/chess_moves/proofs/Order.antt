-- The moves are listed in order.
use Rattle.std.proofs.Common.{◌≡◌, ℕ, zero, suc, ◌+◌, ◌*◌, ◌<◌, ◌≤◌, Bool, true, false, cond, List, [], ◌∷◌, ◌++◌, Some, None, Option, inl, inr, ⊎_elim, arith}
use Rattle.std.specs.List.{AllByRecursion}
use Rattle.std.proofs.lemmas.Bool.{cases_order}
use Rattle.chess_attacks.specs.declared.men.Man.{Man}
use Rattle.chess_attacks.specs.declared.men.Side.{Side}
use Rattle.chess_attacks.specs.Men.{Squares, on, given, same_side}
use Rattle.chess_attacks.specs.Lists.{checked}
use Rattle.chess_moves.specs.declared.diagram.Diagram.{Diagram}
use Rattle.chess_moves.specs.declared.step.Move.{Move}
use Rattle.chess_moves.specs.declared.step.Promotion.{Promotion}
use Rattle.chess_moves.specs.declared.step.Promotion.TheVariants.{Queen, Rook, Bishop, Knight}
use Rattle.chess_moves.specs.Pawns.{at_end}
use Rattle.chess_moves.specs.After.{after}
use Rattle.chess_moves.specs.Moves.{goes, a_move, one, tries, moves_to, moves_from, reach_of, steps_of, legal_moves, passing_of}
use Rattle.chess_moves.specs.Legal.{turn_number, Before, Ordered}
use Rattle.chess_moves.proofs.Numbers.{square-number}

-- the place of a move among all moves, as one number
pub place : Move → ℕ
place v = (v.from.number * 64 + v.to.number) * 8 + turn_number v.promotion

turn_small : (k : Option Promotion) → turn_number k < 8
turn_small None = omega arith
turn_small (Some Queen) = omega arith
turn_small (Some Rook) = omega arith
turn_small (Some Bishop) = omega arith
turn_small (Some Knight) = omega arith

place-before : (v w : Move) → place v < place w → Before v w
unfolding place
place-before v w h =
    ⊎_elim
    (λ e. inr (
      e,
      ⊎_elim
          (λ i. inr (i, omega (arith, h, e, i)))
          (⊎_elim (λ l. inl l) (λ g. absurd (let z : ⊥ = omega (arith, h, e, g, turn_small v.promotion, turn_small w.promotion) in z)))
          (cases_order v.to.number w.to.number),
    ))
    (⊎_elim (λ l. inl l) (λ g. absurd (let z : ⊥ = omega (arith, h, g, v.to.ok, w.to.ok, turn_small v.promotion, turn_small w.promotion) in z)))
    (cases_order v.from.number w.from.number)

-- the places rise, from lo on and below hi
abbrev pub Rising : ℕ → List Move → ℕ → Type 0
Rising lo [] hi = lo ≤ hi
Rising lo (v ∷ vs) hi = (lo ≤ place v) × Rising (suc (place v)) vs hi

wider : (lo lo' hi hi' : ℕ) (vs : List Move) → lo' ≤ lo → hi ≤ hi' → Rising lo vs hi → Rising lo' vs hi'
wider lo lo' hi hi' [] l h r = omega (arith, r)
wider lo lo' hi hi' (v ∷ vs) l h r = (omega (arith, r.0), wider (suc (place v)) (suc (place v)) hi hi' vs (omega arith) h r.1)

joined : (lo mid hi : ℕ) (vs ws : List Move) → Rising lo vs mid → Rising mid ws hi → Rising lo (vs ++ ws) hi
joined lo mid hi [] ws r s = wider mid lo hi hi ws r (omega arith) s
joined lo mid hi (v ∷ vs) ws r s = (r.0, joined (suc (place v)) mid hi vs ws r.1 s)

rising-after : (v : Move) (lo hi : ℕ) (vs : List Move) → place v < lo → Rising lo vs hi → AllByRecursion (Before v) vs
rising-after v lo hi [] l r = tt
rising-after v lo hi (w ∷ vs) l r = (place-before v w (omega (arith, r.0)), rising-after v (suc (place w)) hi vs (omega (arith, r.0)) r.1)

rising-ordered : (lo hi : ℕ) (vs : List Move) → Rising lo vs hi → Ordered vs
rising-ordered lo hi [] r = tt
rising-ordered lo hi (v ∷ vs) r = (rising-after v (suc (place v)) hi vs (omega arith) r.1, rising-ordered (suc (place v)) hi vs r.1)

module _ (b : Squares) (e : Option ℕ) (m : Man) (f t : ℕ) (f-in : f < 64) (t-in : t < 64) where
  abbrev base : ℕ
  base = (f * 64 + t) * 8

  place_is : (k : Option Promotion) → place (a_move f t k) ≡ base + turn_number k
  unfolding place
  place_is k = λ i. (square-number f f-in i * 64 + square-number t t-in i) * 8 + turn_number k

  one_by : (k : Option Promotion) (x : Bool) → Rising (base + turn_number k) (cond x [] (a_move f t k ∷ [])) (base + suc (turn_number k))
  one_by k true = omega arith
  one_by k false = (omega (arith, place_is k), omega (arith, place_is k))

  one_rises : (k : Option Promotion) → Rising (base + turn_number k) (one b e m f t k) (base + suc (turn_number k))
  unfolding one
  one_rises k = one_by k (checked (after b e m f t k) m.side)

  tries_by : (x : Bool) → Rising base (cond x (one b e m f t (Some Queen) ++ (one b e m f t (Some Rook) ++ (one b e m f t (Some Bishop) ++ one b e m f t (Some Knight)))) (one b e m f t None)) (base + 8)
  tries_by true =
      wider (base + 1) base (base + 5) (base + 8) (one b e m f t (Some Queen) ++ (one b e m f t (Some Rook) ++ (one b e m f t (Some Bishop) ++ one b e m f t (Some Knight)))) (omega arith) (omega arith)
      (joined (base + 1) (base + 2) (base + 5) (one b e m f t (Some Queen)) _ (one_rises (Some Queen))
      (joined (base + 2) (base + 3) (base + 5) (one b e m f t (Some Rook)) _ (one_rises (Some Rook))
      (joined (base + 3) (base + 4) (base + 5) (one b e m f t (Some Bishop)) _ (one_rises (Some Bishop)) (one_rises (Some Knight)))))
  tries_by false = wider (base + 0) base (base + 1) (base + 8) (one b e m f t None) (omega arith) (omega arith) (one_rises None)

  tries_rise : Rising base (tries b e m f t) (base + 8)
  unfolding tries
  tries_rise = tries_by (at_end m t)

  some_rise : (x : Bool) → Rising base (cond x (tries b e m f t) []) (base + 8)
  some_rise true = tries_rise
  some_rise false = omega arith

to_rise : (b : Squares) (e : Option ℕ) (m : Man) (f : ℕ) (p q : ℕ → Bool) → f < 64 → (n : ℕ) → n ≤ 64 → Rising (f * 512) (moves_to b e m p q f n) (f * 512 + n * 8)
unfolding moves_to
to_rise b e m f p q l zero h = omega arith
to_rise b e m f p q l (suc n) h =
    joined (f * 512) (f * 512 + n * 8) (f * 512 + suc n * 8) (moves_to b e m p q f n) _ (to_rise b e m f p q l n (omega arith))
    (wider ((f * 64 + n) * 8) (f * 512 + n * 8) ((f * 64 + n) * 8 + 8) (f * 512 + suc n * 8) _ (omega arith) (omega arith) (some_rise b e m f n l h (goes b e m p q n)))

module _ (b : Squares) (a : Side) (e : Option ℕ) where
  own_rise : (f : ℕ) → f < 64 → (m : Man) (x : Bool) → Rising (f * 512) (cond x (moves_to b e m (reach_of b m f) (steps_of b m f) f 64) []) (suc f * 512)
  own_rise f l m true = wider (f * 512) (f * 512) (f * 512 + 64 * 8) (suc f * 512) _ (omega arith) (omega arith) (to_rise b e m f (reach_of b m f) (steps_of b m f) l 64 (omega arith))
  own_rise f l m false = omega arith

  at_rise : (f : ℕ) → f < 64 → (o : Option Man) → Rising (f * 512) (given o [] (λ m. cond (same_side m.side a) (moves_to b e m (reach_of b m f) (steps_of b m f) f 64) [])) (suc f * 512)
  at_rise f l None = omega arith
  at_rise f l (Some m) = own_rise f l m (same_side m.side a)

  from_rise : (n : ℕ) → n ≤ 64 → Rising 0 (moves_from b a e n) (n * 512)
  unfolding moves_from
  from_rise zero h = omega arith
  from_rise (suc n) h = joined 0 (n * 512) (suc n * 512) (moves_from b a e n) _ (from_rise n (omega arith)) (at_rise n h (on b n))

pub in_order : (d : Diagram) → Ordered (legal_moves d)
in_order d = rising-ordered 0 (64 * 512) (legal_moves d) (from_rise d.board d.mover (passing_of d) 64 (omega arith))
