-- Lists of moves that are the same by test are equal.
use Rattle.std.proofs.Common.{◌≡◌, ℕ, zero, suc, true, eqb, List, [], ◌∷◌, Some, None, Option, sym, refl, ap, ◌∙◌}
use Rattle.std.proofs.lemmas.Bool.{and_parts, and_from, eqb-true, eq-eqb, false≢true}
use Rattle.board.proofs.Same.{same_square}
use Rattle.chess_moves.specs.declared.list.MoveList.{MoveList}
use Rattle.chess_moves.specs.declared.step.Move.{Move}
use Rattle.chess_moves.specs.declared.step.Promotion.{Promotion}
use Rattle.chess_moves.specs.declared.step.Promotion.TheVariants.{Queen, Rook, Bishop, Knight}
use Rattle.chess_moves.specs.Legal.{turn_number}
use Rattle.chess_moves.specs.Moves.{listed}
use Rattle.chess.specs.Kept.{same_move, same_moves, keeps}

abbrev turn : ℕ → Option Promotion
turn zero = None
turn (suc zero) = Some Queen
turn (suc (suc zero)) = Some Rook
turn (suc (suc (suc zero))) = Some Bishop
turn (suc (suc (suc (suc n)))) = Some Knight

there : (k : Option Promotion) → turn (turn_number k) ≡ k
there None = refl
there (Some Queen) = refl
there (Some Rook) = refl
there (Some Bishop) = refl
there (Some Knight) = refl

one_same : (v w : Move) → same_move v w ≡ true → v ≡ w
one_same v w h =
    let p = and_parts (eqb v.from.number w.from.number) _ h in
    let q = and_parts (eqb v.to.number w.to.number) (eqb (turn_number v.promotion) (turn_number w.promotion)) p.1 in
    let a : v.from ≡ w.from = same_square v.from w.from (eqb-true v.from.number w.from.number p.0) in
    let b : v.to ≡ w.to = same_square v.to w.to (eqb-true v.to.number w.to.number q.0) in
    let c : v.promotion ≡ w.promotion = sym (there v.promotion) ∙ (ap turn (eqb-true (turn_number v.promotion) (turn_number w.promotion) q.1) ∙ there w.promotion) in
    λ i. record { from = a i; to = b i; promotion = c i }

same_tells : (vs ws : List Move) → same_moves vs ws ≡ true → vs ≡ ws
same_tells [] [] h = refl
same_tells [] (w ∷ ws) h = absurd (false≢true h)
same_tells (v ∷ vs) [] h = absurd (false≢true h)
same_tells (v ∷ vs) (w ∷ ws) h =
    let p = and_parts (same_move v w) (same_moves vs ws) h in
    λ i. one_same v w p.0 i ∷ same_tells vs ws p.1 i

self : (v : Move) → same_move v v ≡ true
self v = and_from (eqb v.from.number v.from.number) _ (eq-eqb v.from.number v.from.number refl)
    (and_from (eqb v.to.number v.to.number) _ (eq-eqb v.to.number v.to.number refl) (eq-eqb (turn_number v.promotion) (turn_number v.promotion) refl))

all_self : (vs : List Move) → same_moves vs vs ≡ true
all_self [] = refl
all_self (v ∷ vs) = and_from (same_move v v) (same_moves vs vs) (self v) (all_self vs)

-- a list that is kept, and one that is to be kept
pub kept_tells : (o : Option MoveList) (l : MoveList) (vs : List Move) → keeps o vs ≡ true → o ≡ Some l → listed l ≡ vs
kept_tells o l vs h e = same_tells (listed l) vs (sym (ap (λ (o : Option MoveList). keeps o vs) e) ∙ h)

pub kept_from : (l : MoveList) (vs : List Move) → listed l ≡ vs → keeps (Some l) vs ≡ true
kept_from l vs e = ap (λ (us : List Move). same_moves us vs) e ∙ all_self vs
