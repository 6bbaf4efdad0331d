-- The states of the reader: those on the board stay there, and each is live.
use Rattle.std.specs.Prelude.{◌≡◌, ℕ, zero, suc, ◌+◌, ◌-◌, ◌<◌, ◌≤◌, Bool, true, false, cond, not, ◌&&◌, leb, [], ◌∷◌, length, Some, None, Option, ◌==◌, nat_eq, nat_le, slice_set, refl}
use Rattle.std.proofs.Common.{ap, ◌∙◌, subst, arith}
use Rattle.std.proofs.lemmas.Bool.Decides.{nat_tests}
use Rattle.std.proofs.lemmas.List.{length-set}
use Rattle.board.specs.declared.square.Square.{Square}
use Rattle.form.specs.Forms.{given, led, Live, Lively}
use Rattle.chess_attacks.specs.Letters.{letter}
use Rattle.chess_text.specs.Letters.{blank, dash, slash, man_of, side_of, run_of, file_of, man}
use Rattle.chess_attacks.specs.Men.{Squares as Board}
use Rattle.board.specs.Squares.{square_at}
use Rattle.chess_text.specs.Reading.{square, reader, here, when, square_step, row_step, step, empty, form, OnBoard, IsFit}
use Rattle.chess_attacks.specs.declared.men.Man.{Man}
use Rattle.chess_attacks.specs.declared.men.Kind.{Kind}
use Rattle.chess_attacks.specs.declared.men.Kind.TheVariants.{King, Queen, Rook, Bishop, Knight, Pawn}
use Rattle.chess_attacks.specs.declared.men.Side.{Side}
use Rattle.chess_attacks.specs.declared.men.Side.TheVariants.{White, Black}
use Rattle.chess_text.specs.declared.reader.Reader.{Reader}
use Rattle.chess_text.specs.declared.reader.Awaits.{Awaits}
use Rattle.chess_text.specs.declared.reader.Awaits.TheVariants.{Squares, Mover, GapToRights, Rights, GapToPassing, Passing, PassingRow, Blanks}

-- ---- what a byte led to was reached by one of the ways

pub none : {P : Type 0} {A : Type 0} (u : A) → None ≡ Some u → P
none u e = let z : ◌≡◌ {A = ℕ} 0 1 = cc in absurd (omega arith)

pub by_when : (P : Reader → Type 0) (c : Bool) (v u : Reader) → when c v ≡ Some u → (c ≡ true → P v) → P u
by_when P true v u e p = subst P (let k : v ≡ u = cc in k) (p refl)
by_when P false v u e p = none u e

pub by_some : (P : Reader → Type 0) (v u : Reader) → Some v ≡ Some u → P v → P u
by_some P v u e p = subst P (let k : v ≡ u = cc in k) p

pub by_given : {A : Type 0} (P : Reader → Type 0) (o : Option A) (x : Option Reader) (f : A → Option Reader) (u : Reader)
    → given o x f ≡ Some u → (o ≡ None → x ≡ Some u → P u) → ((a : A) → o ≡ Some a → f a ≡ Some u → P u) → P u
by_given P None x f u e p q = p refl e
by_given P (Some a) x f u e p q = q a refl e

pub by_cond : (P : Reader → Type 0) (c : Bool) (x y : Option Reader) (u : Reader)
    → cond c x y ≡ Some u → (c ≡ true → x ≡ Some u → P u) → (c ≡ false → y ≡ Some u → P u) → P u
by_cond P true x y u e p q = p refl e
by_cond P false x y u e p q = q refl e

file_fits : (c f : ℕ) → file_of c ≡ Some f → f < 8
unfolding file_of
file_fits c f e = grind (arith, nat_tests)

step_fits : (w : Awaits) (b : Board) (m : Side) (p : Option Square) (c : ℕ) (u : Reader)
    → length b ≡ 64 → OnBoard w → step w b m p c ≡ Some u → IsFit u
step_fits (Squares row left digit) b m p c u l h e =
    by_cond IsFit (left == 0) _ _ u e
    (λ z f. by_cond IsFit (row == 0) _ _ u f
    (λ z g. by_when IsFit (c == blank) _ u g (λ _. (l, tt)))
    (λ z g. by_when IsFit (c == slash) _ u g (λ _. (l, (omega arith, omega arith)))))
    (λ z f. by_given IsFit (man_of c) _ _ u f
    (λ _ g. by_given IsFit (run_of c) _ _ u g (λ _ k. none u k) (λ n _ k. by_when IsFit _ _ u k (λ _. (l, (h.0, omega (arith, h.1))))))
    (λ x _ g. by_some IsFit _ u g (simp length-set l, (h.0, omega (arith, h.1)))))
step_fits Mover b m p c u l h e = by_given IsFit (side_of c) _ _ u e (λ _ k. none u k) (λ s _ k. by_some IsFit _ u k (l, tt))
step_fits GapToRights b m p c u l h e = by_when IsFit _ _ u e (λ _. (l, tt))
step_fits Rights b m p c u l h e = by_when IsFit _ _ u e (λ _. (l, tt))
step_fits GapToPassing b m p c u l h e = by_when IsFit _ _ u e (λ _. (l, tt))
step_fits Passing b m p c u l h e =
    by_cond IsFit (c == dash) _ _ u e (λ _ k. by_some IsFit _ u k (l, tt))
    (λ _ k. by_given IsFit (file_of c) _ _ u k (λ _ g. none u g) (λ f z g. by_some IsFit _ u g (l, file_fits c f z)))
step_fits (PassingRow f) b m p c u l h e =
    by_cond IsFit (c == 51) _ _ u e (λ _ k. by_some IsFit _ u k (l, tt)) (λ _ k. by_when IsFit _ _ u k (λ _. (l, tt)))
step_fits Blanks b m p c u l h e = by_when IsFit _ _ u e (λ _. (l, tt))

-- ---- each state is live

-- one byte more in front
onward : (s u : Reader) (c : ℕ) → form.next s c ≡ Some u → Live form u → Live form s
unfolding led
onward s u c e v = (c ∷ v.0, (v.1.0, (v.1.1.0, (ap (λ (o : Option Reader). given o None (λ r. led form r v.0)) e ∙ v.1.1.1.0, v.1.1.1.1))))

live_blanks : (b : Board) (m : Side) (p : Option Square) → Live form (reader Blanks b m p)
unfolding led
live_blanks b m p = ([], (reader Blanks b m p, (record { board = b; mover = m; passing = p }, (refl, refl))))

live_passing : (b : Board) (m : Side) (p : Option Square) → Live form (reader Passing b m p)
live_passing b m p = onward _ _ dash refl (live_blanks b m None)

live_row : (f : ℕ) (b : Board) (m : Side) (p : Option Square) → Live form (reader (PassingRow f) b m p)
live_row f b m p = onward _ _ 51 refl (live_blanks b m (square (square_at f 2)))

live_gap : (b : Board) (m : Side) (p : Option Square) → Live form (reader GapToPassing b m p)
live_gap b m p = onward _ _ blank refl (live_passing b m p)

live_rights : (b : Board) (m : Side) (p : Option Square) → Live form (reader Rights b m p)
live_rights b m p = onward _ _ dash refl (live_gap b m p)

live_gap_rights : (b : Board) (m : Side) (p : Option Square) → Live form (reader GapToRights b m p)
live_gap_rights b m p = onward _ _ blank refl (live_rights b m p)

live_mover : (b : Board) (m : Side) (p : Option Square) → Live form (reader Mover b m p)
unfolding side_of
live_mover b m p = onward _ _ 119 refl (live_gap_rights b White p)

-- ---- single steps

known_kind : (s : Side) (k : Kind) → man_of (letter s k) ≡ Some (man s k)
unfolding man_of
known_kind White King = refl
known_kind White Queen = refl
known_kind White Rook = refl
known_kind White Bishop = refl
known_kind White Knight = refl
known_kind White Pawn = refl
known_kind Black King = refl
known_kind Black Queen = refl
known_kind Black Rook = refl
known_kind Black Bishop = refl
known_kind Black Knight = refl
known_kind Black Pawn = refl

pub known : (x : Man) → man_of (letter x.side x.kind) ≡ Some x
known x = known_kind x.side x.kind

pub no_man : (c : ℕ) → 49 ≤ c → c ≤ 56 → man_of c ≡ None
unfolding man_of
no_man c h k = grind (arith, nat_tests)

pub run_is : (k : ℕ) → k < 8 → run_of (48 + suc k) ≡ Some (suc k)
unfolding run_of
run_is k h = grind (arith, nat_tests)

pub next_man : (row n : ℕ) (digit : Bool) (b : Board) (m : Side) (p : Option Square) (x : Man)
    → form.next (reader (Squares row (suc n) digit) b m p) (letter x.side x.kind)
    ≡ Some (reader (Squares row n false) (slice_set b (here row (suc n)) (Some x)) m p)
next_man row n digit b m p x =
    let e : nat_eq (suc n) 0 ≡ false = grind (arith, nat_tests) in
    let l : suc n - 1 ≡ n = omega arith in
    ap (λ (t : Bool). cond t (row_step row b m p (letter x.side x.kind)) (square_step row (suc n) digit b m p (letter x.side x.kind))) e
    ∙ ap (λ (o : Option Man). given o
    (given (run_of (letter x.side x.kind)) None (λ k. when (not digit && nat_le k (suc n)) (reader (Squares row (suc n - k) true) b m p)))
    (λ y. Some (reader (Squares row (suc n - 1) false) (slice_set b (here row (suc n)) (Some y)) m p))) (known x)
    ∙ ap (λ (k : ℕ). Some (reader (Squares row k false) (slice_set b (here row (suc n)) (Some x)) m p)) l

pub next_run : (row n k : ℕ) (b : Board) (m : Side) (p : Option Square) → k < 8
    → form.next (reader (Squares row (suc k + n) false) b m p) (48 + suc k) ≡ Some (reader (Squares row n true) b m p)
next_run row n k b m p h =
    let e : nat_eq (suc k + n) 0 ≡ false = grind (arith, nat_tests) in
    let l : suc k + n - suc k ≡ n = omega arith in
    let q : leb (suc k) (suc k + n) ≡ true = grind (arith, nat_tests) in
    ap (λ (t : Bool). cond t (row_step row b m p (48 + suc k)) (square_step row (suc k + n) false b m p (48 + suc k))) e
    ∙ ap (λ (o : Option Man). given o
    (given (run_of (48 + suc k)) None (λ i. when (not false && nat_le i (suc k + n)) (reader (Squares row (suc k + n - i) true) b m p)))
    (λ y. Some (reader (Squares row (suc k + n - 1) false) (slice_set b (here row (suc k + n)) (Some y)) m p))) (no_man (48 + suc k) (omega arith) (omega arith))
    ∙ ap (λ (o : Option ℕ). given o None (λ i. when (not false && nat_le i (suc k + n)) (reader (Squares row (suc k + n - i) true) b m p))) (run_is k h)
    ∙ ap (λ (t : Bool). when (not false && t) (reader (Squares row (suc k + n - suc k) true) b m p)) q
    ∙ ap (λ (i : ℕ). Some (reader (Squares row i true) b m p)) l

pub next_slash : (row : ℕ) (digit : Bool) (b : Board) (m : Side) (p : Option Square)
    → form.next (reader (Squares (suc row) 0 digit) b m p) slash ≡ Some (reader (Squares row 8 false) b m p)
next_slash row digit b m p =
    let e : nat_eq (suc row) 0 ≡ false = grind (arith, nat_tests) in
    let l : suc row - 1 ≡ row = omega arith in
    ap (λ (t : Bool). cond t None (Some (reader (Squares (suc row - 1) 8 false) b m p))) e
    ∙ ap (λ (k : ℕ). Some (reader (Squares k 8 false) b m p)) l

-- a row goes on with kings
live_squares : (row left : ℕ) (digit : Bool) (b : Board) (m : Side) (p : Option Square) → Live form (reader (Squares row left digit) b m p)
live_squares zero zero digit b m p = onward _ _ blank refl (live_mover b m p)
live_squares (suc row) zero digit b m p = onward _ _ slash (next_slash row digit b m p) (live_squares row 8 false b m p)
live_squares row (suc left) digit b m p =
    onward _ _ 75 (next_man row left digit b m p (man White King)) (live_squares row left false (slice_set b (here row (suc left)) (Some (man White King))) m p)

live : (w : Awaits) (b : Board) (m : Side) (p : Option Square) → Live form (reader w b m p)
live (Squares row left digit) b m p = live_squares row left digit b m p
live Mover b m p = live_mover b m p
live GapToRights b m p = live_gap_rights b m p
live Rights b m p = live_rights b m p
live GapToPassing b m p = live_gap b m p
live Passing b m p = live_passing b m p
live (PassingRow f) b m p = live_row f b m p
live Blanks b m p = live_blanks b m p

pub empty_length : length empty ≡ 64
unfolding empty
empty_length = refl

pub lively : Lively form IsFit
lively = record {
  first_fits = (empty_length, (omega arith, omega arith));
  next_fits = λ s c u h e. step_fits s.awaits s.board s.mover s.passing c u h.0 h.1 e;
  lives = λ s h. live s.awaits s.board s.mover s.passing;
}
