-- Where a man that goes comes to: rows, the square's former man, and the square that a pawn passes.
use Rattle.std.proofs.Common.{◌≡◌, ℕ, ◌<◌, ◌≢◌, Some, None, ap, ◌∙◌, arith}
use Rattle.std.proofs.lemmas.Bool.{lt-ltb}
use Rattle.board.specs.Squares.{row, reach, away}
use Rattle.board.specs.declared.direction.Direction.TheVariants.{North, South}
use Rattle.chess_attacks.specs.declared.men.Side.{Side}
use Rattle.chess_attacks.specs.declared.men.Side.TheVariants.{White, Black}
use Rattle.chess_attacks.specs.Men.{Squares, on, other}
use Rattle.chess_attacks.specs.Lists.{beside, when}
use Rattle.chess_moves.specs.Pawns.{forward, start_row}
use Rattle.chess_moves.specs.Legal.{Ahead}
use Rattle.chess_rules.specs.Lawful.{passed_row, came_from, went_to, pawn_of, Passed}
pub use Rattle.chess_moves.proofs.Rows.{Rows, ahead-rows, take-rows, pawn-rows, one-row, between, Over, stepped-over, over-beside, over-within, over-apart, over_end}

-- the square that is stepped over is an en passant square
pub new_passed : (a : Side) (x : Squares) (f t : ℕ) → row f ≡ start_row a → Ahead a f t 2 → on x (away (forward a) f 1) ≡ None → on x f ≡ None → on x t ≡ pawn_of a
    → Passed x (other a) (away (forward a) f 1)
new_passed White x f t r h hu hf ht =
    let u : ℕ = away North f 1 in
    let low : came_from Black (away North f 1) ≡ f = omega arith in
    let high : went_to Black (away North f 1) ≡ t = omega (arith, h.target) in
    record { on_row = omega arith; clear = hu; left = ap (on x) low ∙ hf; pawn = ap (on x) high ∙ ht }
new_passed Black x f t r h hu hf ht =
    let low : came_from White (away South f 1) ≡ f = omega arith in
    let high : went_to White (away South f 1) ≡ t = omega (arith, h.target) in
    record { on_row = omega arith; clear = hu; left = ap (on x) low ∙ hf; pawn = ap (on x) high ∙ ht }

-- the pawn that passed stands one step back
pub back_step : (a : Side) (t : ℕ) → row t ≡ passed_row a → beside (forward (other a)) t ≡ Some (went_to a t)
back_step White t h =
    let same : away South t 1 ≡ went_to White t = omega arith in
    ap (λ x. when x (away South t 1)) (lt-ltb 0 (reach South t) (omega arith)) ∙ ap Some same
back_step Black t h =
    let same : away North t 1 ≡ went_to Black t = omega arith in
    ap (λ x. when x (away North t 1)) (lt-ltb 0 (reach North t) (omega arith)) ∙ ap Some same

pub went_in : (a : Side) (t : ℕ) → went_to a t < 64
went_in White t = omega arith
went_in Black t = omega arith

pub went_off : (a : Side) (t : ℕ) → row t ≡ passed_row a → went_to a t ≢ t
went_off White t h = λ e. omega arith
went_off Black t h = λ e. omega arith
