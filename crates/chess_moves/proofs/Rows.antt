-- How far a man that goes comes by rows, and the square that a pawn steps over.
use Rattle.std.proofs.Common.{◌≡◌, ℕ, ◌+◌, ◌<◌, ◌≤◌, true, eqb, ◌≢◌, Some, None, Option, ap, ⊎_elim, arith}
use Rattle.std.proofs.lemmas.Bool.{eqb-true, or_cases, lt-ltb}
use Rattle.board.specs.Squares.{row, reach, away}
use Rattle.board.specs.declared.direction.Direction.{Direction}
use Rattle.board.specs.declared.direction.Direction.TheVariants.{North, NorthEast, East, SouthEast, South, SouthWest, West, NorthWest}
use Rattle.chess_attacks.specs.declared.men.Man.{Man}
use Rattle.chess_attacks.specs.declared.men.Kind.{Kind}
use Rattle.chess_attacks.specs.declared.men.Kind.TheVariants.{Pawn}
use Rattle.chess_attacks.specs.declared.men.Side.{Side}
use Rattle.chess_attacks.specs.declared.men.Side.TheVariants.{White, Black}
use Rattle.chess_attacks.specs.Men.{Squares, on}
use Rattle.chess_attacks.specs.Ranges.{range_of, ahead}
use Rattle.chess_attacks.specs.Commands.{Commands}
use Rattle.chess_attacks.specs.Commands.Commands.{by_line, by_leap}
use Rattle.chess_attacks.specs.Lists.{beside, when}
use Rattle.chess_moves.specs.Pawns.{forward, start_row, last_row, two_rows}
use Rattle.chess_moves.specs.Legal.{Ahead, Goes}
use Rattle.chess_moves.specs.Legal.Goes.{officer, step, two_step, capture, en_passant}

abbrev pub man_of : Side → Kind → Man
man_of a k = record { side = a; kind = k }

-- t is n rows ahead of s
abbrev pub Rows : Side → ℕ → ℕ → ℕ → Type 0
Rows White s t n = row t ≡ row s + n
Rows Black s t n = row s ≡ row t + n

-- n squares straight ahead
pub ahead-rows : (a : Side) (f t n : ℕ) → Ahead a f t n → Rows a f t n
ahead-rows White f t n h = omega (arith, h.OnBoard, h.target)
ahead-rows Black f t n h = omega (arith, h.OnBoard, h.target)

-- one square aslant ahead
slant_rows : (a : Side) (d : Direction) (f t k : ℕ) → 0 < k → k ≤ ahead a d → k ≤ reach d f → t ≡ away d f k → Rows a f t 1
slant_rows White North f t k z h r e = absurd (let z : ⊥ = omega arith in z)
slant_rows White NorthEast f t k z h r e = omega arith
slant_rows White East f t k z h r e = absurd (let z : ⊥ = omega arith in z)
slant_rows White SouthEast f t k z h r e = absurd (let z : ⊥ = omega arith in z)
slant_rows White South f t k z h r e = absurd (let z : ⊥ = omega arith in z)
slant_rows White SouthWest f t k z h r e = absurd (let z : ⊥ = omega arith in z)
slant_rows White West f t k z h r e = absurd (let z : ⊥ = omega arith in z)
slant_rows White NorthWest f t k z h r e = omega arith
slant_rows Black North f t k z h r e = absurd (let z : ⊥ = omega arith in z)
slant_rows Black NorthEast f t k z h r e = absurd (let z : ⊥ = omega arith in z)
slant_rows Black East f t k z h r e = absurd (let z : ⊥ = omega arith in z)
slant_rows Black SouthEast f t k z h r e = omega arith
slant_rows Black South f t k z h r e = absurd (let z : ⊥ = omega arith in z)
slant_rows Black SouthWest f t k z h r e = omega arith
slant_rows Black West f t k z h r e = absurd (let z : ⊥ = omega arith in z)
slant_rows Black NorthWest f t k z h r e = absurd (let z : ⊥ = omega arith in z)

pawn_range : (m : Man) (d : Direction) → m.kind ≡ Pawn → range_of m d ≡ ahead m.side d
pawn_range m d p = ap (λ (k : Kind). range_of (man_of m.side k) d) p

pub take-rows : (b : Squares) (m : Man) (f t : ℕ) → m.kind ≡ Pawn → Commands b m f t → Rows m.side f t 1
take-rows b m f t p (by_line h) =
    slant_rows m.side h.direction f t h.reached.distance h.reached.some (omega (arith, h.reached.in_range, pawn_range m h.direction p)) h.reached.OnBoard h.reached.target
take-rows b m f t p (by_leap k l h) = absurd (let z : ◌≡◌ {A = ℕ} 0 1 = cc in omega arith)

-- a pawn goes on by rows
pub pawn-rows : (b : Squares) (e : Option ℕ) (m : Man) (f t : ℕ) → m.kind ≡ Pawn → Goes b e m f t → (n : ℕ) × (0 < n) × Rows m.side f t n
pawn-rows b e m f t p (officer n c h) = absurd (n p)
pawn-rows b e m f t p (step _ h c) = (1, omega arith, ahead-rows m.side f t 1 h)
pawn-rows b e m f t p (two_step _ r x h c) = (2, omega arith, ahead-rows m.side f t 2 h)
pawn-rows b e m f t p (capture _ c h) = (1, omega arith, take-rows b m f t p c)
pawn-rows b e m f t p (en_passant _ c h) = (1, omega arith, take-rows b m f t p c)

-- it stays between the first and the last row, unless it comes to its end
pub between : (a : Side) (f t n : ℕ) → t < 64 → 0 < n → Rows a f t n → 0 < row f → row f < 7 → (row t ≡ last_row a → ⊥) → (0 < row t) × (row t < 7)
between White f t n l z r x y g = (omega arith, let ne : row t ≢ 7 = g in omega arith)
between Black f t n l z r x y g = (let ne : row t ≢ 0 = g in omega arith, omega arith)

pub one-row : (a : Side) (f t : ℕ) → Rows a f t 1 → two_rows f t ≡ true → ⊥
one-row a f t r d = ⊎_elim (λ x. up a r (eqb-true (row t) (row f + 2) x)) (λ y. down a r (eqb-true (row f) (row t + 2) y)) (or_cases (eqb (row t) (row f + 2)) (eqb (row f) (row t + 2)) d)
  where
    up : (a : Side) → Rows a f t 1 → row t ≡ row f + 2 → ⊥
    up White r e = omega arith
    up Black r e = omega arith

    down : (a : Side) → Rows a f t 1 → row f ≡ row t + 2 → ⊥
    down White r e = omega arith
    down Black r e = omega arith

-- a pawn that crosses two rows has stepped over an empty square
pub record Over (b : Squares) (a : Side) (f t : ℕ) : Type 0 where
  pub start : row f ≡ start_row a
  pub clear : on b (away (forward a) f 1) ≡ None
  pub far : Ahead a f t 2

pub stepped-over : (b : Squares) (e : Option ℕ) (m : Man) (f t : ℕ) → m.kind ≡ Pawn → two_rows f t ≡ true → Goes b e m f t → Over b m.side f t
stepped-over b e m f t p d (officer n c h) = absurd (n p)
stepped-over b e m f t p d (step _ h c) = absurd (one-row m.side f t (ahead-rows m.side f t 1 h) d)
stepped-over b e m f t p d (two_step _ r x h c) = record { start = r; clear = x; far = h }
stepped-over b e m f t p d (capture _ c h) = absurd (one-row m.side f t (take-rows b m f t p c) d)
stepped-over b e m f t p d (en_passant _ c h) = absurd (one-row m.side f t (take-rows b m f t p c) d)

-- the squares of such a step: from f over u to t
pub over-beside : (a : Side) (f : ℕ) → row f ≡ start_row a → beside (forward a) f ≡ Some (away (forward a) f 1)
over-beside White f r = ap (λ x. when x (away North f 1)) (lt-ltb 0 (reach North f) (omega arith))
over-beside Black f r = ap (λ x. when x (away South f 1)) (lt-ltb 0 (reach South f) (omega arith))

pub over-within : (a : Side) (f : ℕ) → f < 64 → row f ≡ start_row a → away (forward a) f 1 < 64
over-within White f l r = omega arith
over-within Black f l r = omega arith

pub over-apart : (a : Side) (f t : ℕ) → row f ≡ start_row a → Ahead a f t 2 → away (forward a) f 1 ≢ t
over-apart White f t r h = λ e. let target = h.target in omega arith
over-apart Black f t r h = λ e. let target = h.target in omega arith

pub over_end : (a : Side) (f t : ℕ) → row f ≡ start_row a → Ahead a f t 2 → row t ≡ last_row a → ⊥
over_end White f t r h e = omega (arith, h.target)
over_end Black f t r h e = omega (arith, h.target)
