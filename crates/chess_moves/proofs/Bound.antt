-- How many moves there can be.
use Rattle.std.proofs.Common.{◌≡◌, ℕ, zero, suc, ◌+◌, ◌*◌, ◌<◌, ◌≤◌, Bool, true, false, cond, not, ◌&&◌, ◌||◌, eqb, leb, List, [], ◌∷◌, ◌++◌, length, Some, None, Option, sym, refl, ap, ◌∙◌, le_trans, add-le-add, mul-le-mul_left, mul-add, arith}
use Rattle.std.proofs.lemmas.List.{length-append}
use Rattle.std.proofs.lemmas.Bool.{eqb-true, leb-true}
use Rattle.board.specs.Squares.{row}
use Rattle.board.specs.Masks.{member}
use Rattle.board.specs.declared.direction.Direction.{Direction}
use Rattle.board.specs.declared.direction.Direction.TheVariants.{North, NorthEast, East, SouthEast, South, SouthWest, West, NorthWest}
use Rattle.chess_attacks.specs.declared.men.Man.{Man}
use Rattle.chess_attacks.specs.declared.men.Kind.{Kind}
use Rattle.chess_attacks.specs.declared.men.Kind.TheVariants.{King, Queen, Rook, Bishop, Knight, Pawn}
use Rattle.chess_attacks.specs.declared.men.Side.{Side}
use Rattle.chess_attacks.specs.declared.men.Side.TheVariants.{White, Black}
use Rattle.chess_attacks.specs.Men.{Squares, on, given, other, same_side, is_king, is_knight, is_pawn, of, king_of}
use Rattle.chess_attacks.specs.Ranges.{range_of}
use Rattle.chess_attacks.specs.Lists.{beside, line, lines, leaps, commands, checked}
use Rattle.chess_attacks.proofs.Back.{all, at_all}
use Rattle.chess_moves.specs.declared.step.Promotion.{Promotion}
use Rattle.chess_moves.specs.declared.step.Promotion.TheVariants.{Queen as ToQueen, Rook as ToRook, Bishop as ToBishop, Knight as ToKnight}
use Rattle.chess_moves.specs.Pawns.{forward, start_row, last_row, is_passing}
use Rattle.chess_moves.specs.After.{after}
use Rattle.chess_moves.specs.Moves.{empty, ahead_of, reach_of, steps_of, goes, a_move, one, tries, moves_to, moves_of, moves_from, passing_of}
use Rattle.chess_moves.specs.Count.{tally, FewMoves}

abbrev count : ℕ → (ℕ → Bool) → ℕ
count zero p = 0
count (suc n) p = count n p + cond (p n) 1 0

one-or : (x y : Bool) → cond (x || y) 1 0 ≤ cond x 1 0 + cond y 1 0
one-or true y = omega arith
one-or false true = omega arith
one-or false false = omega arith

count-or : (p q : ℕ → Bool) (n : ℕ) → count n (λ t. p t || q t) ≤ count n p + count n q
count-or p q zero = omega arith
count-or p q (suc n) = omega (arith, count-or p q n, one-or (p n) (q n))

count-never : (n : ℕ) → count n (λ _. false) ≡ 0
count-never zero = refl
count-never (suc n) = omega (arith, count-never n)

-- one number comes at most once, and not before its place
abbrev Once : ℕ → ℕ → Type 0
Once x n = (count n (λ t. eqb x t) ≤ 1) × (n ≤ x → count n (λ t. eqb x t) ≡ 0)

once_more : (x n : ℕ) → Once x n → (y : Bool) → eqb x n ≡ y → (count n (λ t. eqb x t) + cond y 1 0 ≤ 1) × (suc n ≤ x → count n (λ t. eqb x t) + cond y 1 0 ≡ 0)
once_more x n ih true e =
    let same : n ≡ x = sym (eqb-true x n e) in
    (omega (arith, ih.1 (omega arith)), λ h. absurd (let z : ⊥ = omega arith in z))
once_more x n ih false e = (omega (arith, ih.0), λ h. omega (arith, ih.1 (omega arith)))

count-one : (x n : ℕ) → Once x n
count-one x zero = (omega arith, λ h. refl)
count-one x (suc n) = once_more x n (count-one x n) (eqb x n) refl

count_has : (xs : List ℕ) (n : ℕ) → count n (λ t. member t xs) ≤ length xs
unfolding member
count_has [] n = omega (arith, count-never n)
count_has (x ∷ xs) n = omega (arith, count-or (λ t. eqb x t) (λ t. member t xs) n, (count-one x n).0, count_has xs n)

-- a man has at most one move to a square, and a pawn four
regroup : (a b c d : ℕ) → (a + b) + (c + d) ≡ (a + c) + (b + d)
regroup a b c d = omega arith

abbrev each : Kind → ℕ
each k = cond (is_pawn k) 4 1

one_short : (b : Squares) (e : Option ℕ) (m : Man) (f t : ℕ) (k : Option Promotion) → length (one b e m f t k) ≤ 1
unfolding one
one_short b e m f t k = go (checked (after b e m f t k) m.side)
  where
    go : (x : Bool) → length (cond x [] (a_move f t k ∷ [])) ≤ 1
    go true = omega arith
    go false = omega arith

four_short : {X : Type 0} (q r b n : List X) → length q ≤ 1 → length r ≤ 1 → length b ≤ 1 → length n ≤ 1 → length (q ++ (r ++ (b ++ n))) ≤ 4
four_short q r b n hq hr hb hn = simp length-append (omega arith)

by_row : {X : Type 0} (x y : Bool) (four lone : List X) → length four ≤ 4 → length lone ≤ 1 → length (cond (x && y) four lone) ≤ cond x 4 1
by_row true true four lone h k = h
by_row true false four lone h k = omega arith
by_row false y four lone h k = k

tries_short : (b : Squares) (e : Option ℕ) (m : Man) (f t : ℕ) → length (tries b e m f t) ≤ each m.kind
unfolding tries
tries_short b e m f t =
    by_row (is_pawn m.kind) (eqb (row t) (last_row m.side)) _ _
    (four_short (one b e m f t (Some ToQueen)) (one b e m f t (Some ToRook)) (one b e m f t (Some ToBishop)) (one b e m f t (Some ToKnight))
    (one_short b e m f t (Some ToQueen)) (one_short b e m f t (Some ToRook)) (one_short b e m f t (Some ToBishop)) (one_short b e m f t (Some ToKnight)))
    (one_short b e m f t None)

-- the squares that a man goes to, by what it reaches and where it steps
goes_one : (k y p t z o : Bool) → cond (cond k ((t && z) || (p && o)) (p && y)) 1 0 ≤ cond p 1 0 + cond t 1 0
goes_one true y p true true o = omega arith
goes_one true y true true false true = omega arith
goes_one true y true true false false = omega arith
goes_one true y false true false o = omega arith
goes_one true y true false z true = omega arith
goes_one true y true false z false = omega arith
goes_one true y false false z o = omega arith
goes_one false true true t z o = omega arith
goes_one false false true t z o = omega arith
goes_one false y false t z o = omega arith

some-tries : (b : Squares) (e : Option ℕ) (m : Man) (f t : ℕ) (x : Bool) → length (cond x (tries b e m f t) []) ≤ each m.kind * cond x 1 0
some-tries b e m f t true = omega (arith, tries_short b e m f t)
some-tries b e m f t false = omega arith

to-count : (b : Squares) (e : Option ℕ) (m : Man) (p q : ℕ → Bool) (f n : ℕ) → length (moves_to b e m p q f n) ≤ each m.kind * (count n p + count n q)
unfolding moves_to
to-count b e m p q f zero = omega arith
to-count b e m p q f (suc n) =
    let w : ℕ = each m.kind in
    let ih = to-count b e m p q f n in
    let here = some-tries b e m f n (goes b e m p q n) in
    let few = goes_one (is_pawn m.kind) (not (of m.side (on b n))) (p n) (q n) (empty (on b n)) (of (other m.side) (on b n) || is_passing e n) in
    let more : each m.kind * cond (goes b e m p q n) 1 0 ≤ each m.kind * (cond (p n) 1 0 + cond (q n) 1 0) = mul-le-mul_left (each m.kind) few in
    let split : each m.kind * ((count n p + cond (p n) 1 0) + (count n q + cond (q n) 1 0)) ≡ each m.kind * (count n p + count n q) + each m.kind * (cond (p n) 1 0 + cond (q n) 1 0)
    = ap (λ z. each m.kind * z) (regroup (count n p) (cond (p n) 1 0) (count n q) (cond (q n) 1 0)) ∙ mul-add (each m.kind) (count n p + count n q) (cond (p n) 1 0 + cond (q n) 1 0) in
    omega (arith, length-append (moves_to b e m p q f n) (cond (goes b e m p q n) (tries b e m f n) []))

-- a line is longest on the empty board
short_man : (b : Squares) (d : Direction) (n t : ℕ) → length (line b d t n) ≤ length (line [] d t n) → (o : Option Man) → length (given o (line b d t n) (λ _. [])) ≤ length (line [] d t n)
short_man b d n t ih None = ih
short_man b d n t ih (Some m) = omega arith

short_step : (b : Squares) (d : Direction) (n : ℕ) → ((t : ℕ) → length (line b d t n) ≤ length (line [] d t n)) → (o : Option ℕ)
    → length (given o [] (λ t. t ∷ given (on b t) (line b d t n) (λ _. []))) ≤ length (given o [] (λ t. t ∷ given (on [] t) (line [] d t n) (λ _. [])))
short_step b d n ih None = omega arith
short_step b d n ih (Some t) = omega (arith, short_man b d n t (ih t) (on b t))

line_short : (b : Squares) (d : Direction) (n s : ℕ) → length (line b d s n) ≤ length (line [] d s n)
unfolding line
line_short b d zero s = omega arith
line_short b d (suc n) s = short_step b d n (line_short b d n) (beside d s)

lines_short : (b : Squares) (m : Man) (f : ℕ) → length (lines b m f) ≤ length (lines [] m f)
unfolding lines
lines_short b m f =
    simp length-append (omega (
      arith,
      line_short b North (range_of m North) f,
      line_short b NorthEast (range_of m NorthEast) f,
      line_short b East (range_of m East) f,
      line_short b SouthEast (range_of m SouthEast) f,
      line_short b South (range_of m South) f,
      line_short b SouthWest (range_of m SouthWest) f,
      line_short b West (range_of m West) f,
      line_short b NorthWest (range_of m NorthWest) f,
    ))

commands_short : (b : Squares) (m : Man) (f : ℕ) (x : Bool) → length (cond x (leaps f) (lines b m f)) ≤ length (cond x (leaps f) (lines [] m f))
commands_short b m f true = omega arith
commands_short b m f false = lines_short b m f

-- the most squares that a man commands
abbrev most : Kind → ℕ
most King = 8
most Queen = 27
most Rook = 27
most Bishop = 27
most Knight = 27
most Pawn = 2

abbrev a_man : Kind → Side → Man
a_man k a = record { side = a; kind = k }

within : (m : Man) (n : ℕ) → all 64 (λ f. leb (length (commands [] m f)) n) ≡ true → (f : ℕ) → f < 64 → length (commands [] m f) ≤ n
within m n h f l = leb-true (length (commands [] m f)) n (at_all (λ f. leb (length (commands [] m f)) n) h f l)

commands-empty : (k : Kind) (a : Side) (f : ℕ) → f < 64 → length (commands [] (a_man k a) f) ≤ most k
unfolding line lines leaps
commands-empty King White = within (a_man King White) 8 refl
commands-empty King Black = within (a_man King Black) 8 refl
commands-empty Queen White = within (a_man Queen White) 27 refl
commands-empty Queen Black = within (a_man Queen Black) 27 refl
commands-empty Rook White = within (a_man Rook White) 27 refl
commands-empty Rook Black = within (a_man Rook Black) 27 refl
commands-empty Bishop White = within (a_man Bishop White) 27 refl
commands-empty Bishop Black = within (a_man Bishop Black) 27 refl
commands-empty Knight White = within (a_man Knight White) 27 refl
commands-empty Knight Black = within (a_man Knight Black) 27 refl
commands-empty Pawn White = within (a_man Pawn White) 2 refl
commands-empty Pawn Black = within (a_man Pawn Black) 2 refl

-- and has at most its range
most-man : (b : Squares) (d : Direction) (n t : ℕ) → length (line b d t n) ≤ n → (o : Option Man) → length (t ∷ given o (line b d t n) (λ _. [])) ≤ suc n
most-man b d n t ih None = omega arith
most-man b d n t ih (Some m) = omega arith

most_step : (b : Squares) (d : Direction) (n : ℕ) → ((t : ℕ) → length (line b d t n) ≤ n) → (o : Option ℕ) → length (given o [] (λ t. t ∷ given (on b t) (line b d t n) (λ _. []))) ≤ suc n
most_step b d n ih None = omega arith
most_step b d n ih (Some t) = most-man b d n t (ih t) (on b t)

line-most : (b : Squares) (d : Direction) (n s : ℕ) → length (line b d s n) ≤ n
unfolding line
line-most b d zero s = omega arith
line-most b d (suc n) s = most_step b d n (line-most b d n) (beside d s)

steps_short : (b : Squares) (m : Man) (f : ℕ) → length (ahead_of b m f) ≤ 2 * cond (is_pawn m.kind) 1 0
steps_short b m f = go (is_pawn m.kind) (eqb (row f) (start_row m.side))
  where
    go : (x y : Bool) → length (cond x (line b (forward m.side) f (cond y 2 1)) []) ≤ 2 * cond x 1 0
    go true true = line-most b (forward m.side) 2 f
    go true false = omega (arith, line-most b (forward m.side) 1 f)
    go false y = omega arith

to_short : (b : Squares) (e : Option ℕ) (m : Man) (f n : ℕ) → length (moves_to b e m (reach_of b m f) (steps_of b m f) f n) ≤ each m.kind * (length (commands b m f) + length (ahead_of b m f))
to_short b e m f n =
    le_trans (to-count b e m (reach_of b m f) (steps_of b m f) f n)
    (mul-le-mul_left (each m.kind) (add-le-add (count_has (commands b m f) n) (count_has (ahead_of b m f) n)))

-- with a king's 19 added, at most 27
weigh : (k : Kind) (n x y : ℕ) → n ≤ each k * (x + y) → x ≤ most k → y ≤ 2 * cond (is_pawn k) 1 0 → n + 19 * cond (is_king k) 1 0 ≤ 27
weigh King n x y h i j = omega arith
weigh Queen n x y h i j = omega arith
weigh Rook n x y h i j = omega arith
weigh Bishop n x y h i j = omega arith
weigh Knight n x y h i j = omega arith
weigh Pawn n x y h i j = omega arith

his_moves : (b : Squares) (e : Option ℕ) (m : Man) (f : ℕ) → f < 64 → length (moves_to b e m (reach_of b m f) (steps_of b m f) f 64) + 19 * cond (is_king m.kind) 1 0 ≤ 27
his_moves b e m f l =
    weigh m.kind (length (moves_to b e m (reach_of b m f) (steps_of b m f) f 64)) (length (commands b m f)) (length (ahead_of b m f)) (to_short b e m f 64)
    (le_trans (commands_short b m f (is_knight m.kind)) (commands-empty m.kind m.side f l)) (steps_short b m f)

module _ (b : Squares) (a : Side) (e : Option ℕ) where
  own : (f : ℕ) → f < 64 → (m : Man) (x : Bool) → length (cond x (moves_to b e m (reach_of b m f) (steps_of b m f) f 64) []) + 19 * cond (x && is_king m.kind) 1 0 ≤ 27 * cond x 1 0
  own f l m true = his_moves b e m f l
  own f l m false = omega arith

  at : (f : ℕ) → f < 64 → (o : Option Man) → length (given o [] (λ m. cond (same_side m.side a) (moves_to b e m (reach_of b m f) (steps_of b m f) f 64) [])) + 19 * cond (king_of a o) 1 0 ≤ 27 * cond (of a o) 1 0
  at f l None = omega arith
  at f l (Some m) = own f l m (same_side m.side a)

  from_count : (n : ℕ) → n ≤ 64 → length (moves_from b a e n) + 19 * tally (king_of a) b n ≤ 27 * tally (of a) b n
  unfolding moves_from tally
  from_count zero h = omega arith
  from_count (suc n) h =
      omega (arith, length-append (moves_from b a e n) (moves_of b a e n), from_count n (omega arith), at n (omega arith) (on b n))

pub few-moves : FewMoves
few-moves d h k = omega (arith, from_count d.board d.mover (passing_of d) 64 (omega arith))
