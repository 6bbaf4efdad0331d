-- No two moves of a position share a text, since they are listed in order.
use Rattle.std.specs.Prelude.{◌≡◌, ℕ, zero, suc, ◌+◌, ◌/◌, ◌%◌, ◌<◌, cond, List, [], ◌∷◌, map, length, get_or, Some, None, Option, ◌==◌, ◌≢◌, slice_index_or, refl}
use Rattle.std.proofs.Common.{sym, ap, ◌∙◌, inl, inr, arith}
use Rattle.std.proofs.ByRecursion.{All-get_or}
use Rattle.std.proofs.lemmas.List.{length-map, get_or-map}
use Rattle.std.proofs.lemmas.Bool.{cases_order}
use Rattle.board.specs.declared.square.Square.{Square}
use Rattle.chess_moves.specs.declared.step.Move.{Move}
use Rattle.chess_moves.specs.declared.step.Promotion.{Promotion}
use Rattle.chess_moves.specs.declared.step.Promotion.TheVariants.{Queen, Rook, Bishop, Knight}
use Rattle.chess_moves.specs.Legal.{turn_number, Before, Ordered}
use Rattle.chess.specs.Trees.{text_of, letter}

turn_back : ℕ → ℕ
turn_back c = cond (c == 32) 0 (cond (c == 113) 1 (cond (c == 114) 2 (cond (c == 98) 3 4)))

turn_there : (k : Option Promotion) → turn_back (letter k) ≡ turn_number k
unfolding turn_back
turn_there None = refl
turn_there (Some Queen) = refl
turn_there (Some Rook) = refl
turn_there (Some Bishop) = refl
turn_there (Some Knight) = refl

-- a move does not come before one of the same text
apart : (v w : Move) → Before v w → text_of v ≢ text_of w
apart v w b e =
    let nth : ℕ → List ℕ → ℕ = λ i xs. get_or xs i 0 in
    let e0 : 97 + v.from.number % 8 ≡ 97 + w.from.number % 8 = ap (nth 0) e in
    let e1 : 49 + v.from.number / 8 ≡ 49 + w.from.number / 8 = ap (nth 1) e in
    let e2 : 97 + v.to.number % 8 ≡ 97 + w.to.number % 8 = ap (nth 2) e in
    let e3 : 49 + v.to.number / 8 ≡ 49 + w.to.number / 8 = ap (nth 3) e in
    let e4 : turn_number v.promotion ≡ turn_number w.promotion =
    sym (turn_there v.promotion) ∙ (ap turn_back (ap (nth 4) e) ∙ turn_there w.promotion) in
    elim b [ inl h ↦ omega arith | inr (h, inl k) ↦ omega arith | inr (h, inr (k, l)) ↦ omega arith ]

in_order_at : (vs : List Move) (i j : ℕ) (d : Move) → Ordered vs → i < j → j < length vs → Before (slice_index_or vs i d) (slice_index_or vs j d)
in_order_at [] i j d o h k = absurd (let z : ⊥ = omega arith in z)
in_order_at (v ∷ vs) i zero d o h k = absurd (let z : ⊥ = omega arith in z)
in_order_at (v ∷ vs) zero (suc j) d o h k = All-get_or (Before v) vs j d (omega arith) o.0
in_order_at (v ∷ vs) (suc i) (suc j) d o h k = in_order_at vs i j d o.1 (omega arith) (omega arith)

a1 : Square
a1 = record { number = 0; ok = omega arith }

some_move : Move
some_move = record { from = a1; to = a1; promotion = None }

pub distinct_texts : (vs : List Move) → Ordered vs → (i j : ℕ) → i < length (map text_of vs) → j < length (map text_of vs)
    → slice_index_or (map text_of vs) i [] ≡ slice_index_or (map text_of vs) j [] → i ≡ j
distinct_texts vs o i j h k e =
    let l = length-map vs text_of in
    let at : (n : ℕ) → n < length vs → slice_index_or (map text_of vs) n [] ≡ text_of (slice_index_or vs n some_move) = λ n q. get_or-map text_of vs n some_move [] q in
    let same : text_of (slice_index_or vs i some_move) ≡ text_of (slice_index_or vs j some_move) = sym (at i (omega arith)) ∙ (e ∙ at j (omega arith)) in
    elim (cases_order i j) [
      | inl z ↦ z
      | inr (inl z) ↦ absurd (apart (slice_index_or vs i some_move) (slice_index_or vs j some_move) (in_order_at vs i j some_move o z (omega arith)) same)
      | inr (inr z) ↦ absurd (apart (slice_index_or vs j some_move) (slice_index_or vs i some_move) (in_order_at vs j i some_move o z (omega arith)) (sym same))
    ]
