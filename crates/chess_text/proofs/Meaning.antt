-- The texts that are read are the texts of diagrams, and each is read as its diagram.
use Rattle.std.proofs.Common.{◌≡◌, ℕ, zero, suc, ◌+◌, ◌-◌, ◌*◌, ◌<◌, ◌≤◌, Bool, true, false, cond, eqb, List, [], ◌∷◌, ◌++◌, length, get_or, set, replicate, IfSome, Some, None, Option, sym, refl, ap, ◌∙◌, subst, inl, inr, arith}
use Rattle.std.proofs.lemmas.Bool.Decides.{nat_tests}
use Rattle.std.proofs.lemmas.Bool.{cases_eq, cases_lt}
use Rattle.std.proofs.lemmas.List.{get_or-set_same, get_or-set_other, append_assoc, ext_get_or}
use Rattle.board.specs.declared.square.Square.{Square}
use Rattle.form.specs.Forms.{given, led, Says}
use Rattle.chess_attacks.specs.Letters.{letter}
use Rattle.chess_text.specs.Letters.{blank, dash, slash, side_of, file_of, side_letter}
use Rattle.chess_attacks.specs.Men.{Squares as Board, on}
use Rattle.chess_text.specs.Diagrams.{cells, number, row_text, below, fields, passing_text, IsPassable, Stands}
use Rattle.board.specs.Squares.{square_at, file, row}
use Rattle.chess_text.specs.Reading.{reader, here, empty, form}
use Rattle.chess_attacks.specs.declared.men.Man.{Man}
use Rattle.chess_attacks.specs.declared.men.Side.{Side}
use Rattle.chess_attacks.specs.declared.men.Side.TheVariants.{White, Black}
use Rattle.chess_moves.specs.declared.diagram.Diagram.{Diagram}
use Rattle.chess_text.specs.declared.reader.Reader.{Reader}
use Rattle.chess_text.specs.declared.reader.Awaits.TheVariants.{Squares, Mover, GapToRights, Rights, GapToPassing, Passing, PassingRow, Blanks}
use Rattle.chess_text.proofs.Squares.{square-of}
use Rattle.chess_text.specs.Steps.{next_man, next_run, next_slash, empty_length}
use Rattle.chess_text.proofs.Tails.{Gives}
use Rattle.chess_text.proofs.Rows.{ManFirst, Open, rows, open_man, open_row}

-- ---- what is read is the text of a diagram

on_none : (n q : ℕ) → get_or {A = Option Man} (replicate n None) q None ≡ None
on_none zero q = refl
on_none (suc n) zero = refl
on_none (suc n) (suc q) = on_none n q

on-empty : (q : ℕ) → on empty q ≡ None
unfolding empty
on-empty q = on_none 64 q

open_empty : Open 7 8 empty
open_empty = record {
  size = empty_length;
  row_fits = omega arith;
  left_fits = omega arith;
  below_none = λ q _. on-empty q;
  row_none = λ q _ _. on-empty q;
}

pub stands : (t : List ℕ) (d : Diagram) → Says form t d → Stands t d
unfolding Gives
stands t d w =
    let i = rows t 7 8 false empty White None w.0 d open_empty w.1.0 w.1.1 in
    record {
      sound = record { squares = i.size; row = i.row_ok };
      blanks = i.blanks;
      text = i.text ∙ sym (append_assoc (row_text 0 (cells d.board 7 8) ++ below d.board 7) (fields d.mover d.passing) (replicate i.blanks blank));
    }

-- ---- each text of a diagram is read

pub ahead : (s u : Reader) (c : ℕ) (t : List ℕ) (r : Reader) → form.next s c ≡ Some u → led form u t ≡ Some r → led form s (c ∷ t) ≡ Some r
unfolding led
ahead s u c t r e f = ap (λ (o : Option Reader). given o None (λ v. led form v t)) e ∙ f

blanks-reached : (k : ℕ) (b : Board) (m : Side) (p : Option Square) → led form (reader Blanks b m p) (replicate k blank) ≡ Some (reader Blanks b m p)
unfolding led
blanks-reached zero b m p = refl
blanks-reached (suc k) b m p = blanks-reached k b m p

file_is : (f : ℕ) → f < 8 → file_of (97 + f) ≡ Some f
unfolding file_of
file_is f h = grind (arith, nat_tests)

-- the file of an en passant square, and then its row
next-file : (s : Square) (b : Board) (m : Side) (p : Option Square)
    → form.next (reader Passing b m p) (97 + file s.number) ≡ Some (reader (PassingRow (file s.number)) b m p)
next-file s b m p =
    let f = file s.number in
    let e : eqb (97 + f) dash ≡ false = grind (arith, nat_tests) in
    ap (λ (v : Bool). cond v (Some (reader Blanks b m None)) (given (file_of (97 + f)) None (λ f. Some (reader (PassingRow f) b m p)))) e
    ∙ ap (λ (o : Option ℕ). given o None (λ f. Some (reader (PassingRow f) b m p))) (file_is f (omega arith))

next-rank : (s : Square) (b : Board) (m : Side) (p : Option Square) → IsPassable s
    → form.next (reader (PassingRow (file s.number)) b m p) (49 + row s.number) ≡ Some (reader Blanks b m (Some s))
next-rank s b m p (inl h) =
    let e : s.number ≡ square_at (file s.number) 2 = omega arith in
    ap (λ (i : ℕ). form.next (reader (PassingRow (file s.number)) b m p) (49 + i)) h
    ∙ ap (λ (o : Option Square). Some (reader Blanks b m o)) (sym (square-of s _ e))
next-rank s b m p (inr h) =
    let e : s.number ≡ square_at (file s.number) 5 = omega arith in
    ap (λ (i : ℕ). form.next (reader (PassingRow (file s.number)) b m p) (49 + i)) h
    ∙ ap (λ (o : Option Square). Some (reader Blanks b m o)) (sym (square-of s _ e))

passing-reached : (k : ℕ) (b : Board) (m : Side) (p q : Option Square) → IfSome p IsPassable
    → led form (reader Passing b m q) (passing_text p ++ replicate k blank) ≡ Some (reader Blanks b m p)
passing-reached k b m None q h = ahead _ (reader Blanks b m None) dash _ _ refl (blanks-reached k b m None)
passing-reached k b m (Some s) q h =
    ahead _ _ (97 + file s.number) _ _ (next-file s b m q) (ahead _ _ (49 + row s.number) _ _ (next-rank s b m q h) (blanks-reached k b m (Some s)))

side-is : (m : Side) (b : Board) (n : Side) (p : Option Square) → form.next (reader Mover b n p) (side_letter m) ≡ Some (reader GapToRights b m p)
unfolding side_of
side-is White b n p = refl
side-is Black b n p = refl

pub fields-reached : (k : ℕ) (b : Board) (g : Bool) (m n : Side) (p q : Option Square) → IfSome p IsPassable
    → led form (reader (Squares 0 0 g) b n q) (fields m p ++ replicate k blank) ≡ Some (reader Blanks b m p)
fields-reached k b g m n p q h =
    ahead _ (reader Mover b n q) blank _ _ refl
    (ahead _ _ (side_letter m) _ _ (side-is m b n q)
    (ahead _ (reader Rights b m q) blank _ _ refl
    (ahead _ (reader GapToPassing b m q) dash _ _ refl
    (ahead _ (reader Passing b m q) blank _ _ refl (passing-reached k b m p q h)))))

-- the squares before the last n of a row are as in a board, and the squares to come are empty
record Filled (row n : ℕ) (x b : Board) : Type 0 where
  open_at : Open row n x
  above : (q : ℕ) → 8 * row + 8 ≤ q → q < 64 → on x q ≡ on b q
  before : (q : ℕ) → 8 * row ≤ q → q < 8 * row + (8 - n) → on x q ≡ on b q

filled_none : (row n : ℕ) (x b : Board) → Filled row (suc n) x b → on b (8 * row + (7 - n)) ≡ None → Filled row n x b
filled_none row n x b f e =
    let o = f.open_at in
    let r = o.row_fits in
    let l = o.left_fits in
    record {
      open_at = record {
        size = o.size;
        row_fits = r;
        left_fits = omega arith;
        below_none = o.below_none;
        row_none = λ q h k. o.row_none q (omega arith) k;
      };
      above = f.above;
      before = λ q h k. elim (cases_eq q (8 * row + (7 - n)))
          [ inl z ↦ o.row_none q (omega arith) (omega arith) ∙ sym (ap (on b) z ∙ e) | inr z ↦ f.before q h (omega arith) ];
    }

filled-man : (row n : ℕ) (x b : Board) (y : Man) → Filled row (suc n) x b → on b (8 * row + (7 - n)) ≡ Some y
    → Filled row n (set x (here row (suc n)) (Some y)) b
filled-man row n x b y f e =
    let o = f.open_at in
    let s = o.size in
    let r = o.row_fits in
    let l = o.left_fits in
    let at : 8 * row + (7 - n) ≡ here row (suc n) = omega arith in
    let in_board : here row (suc n) < length x = omega arith in
    record {
      open_at = open_man row n x (Some y) o;
      above = λ q h k. get_or-set_other x (here row (suc n)) q (Some y) None (λ z. omega arith) ∙ f.above q h k;
      before = λ q h k. elim (cases_eq q (here row (suc n))) [
        | inl z ↦ ap (on (set x (here row (suc n)) (Some y))) z ∙ get_or-set_same x (here row (suc n)) (Some y) None in_board
            ∙ sym (ap (on b) (z ∙ sym at) ∙ e)
        | inr z ↦ get_or-set_other x (here row (suc n)) q (Some y) None z ∙ f.before q h (omega arith)
      ];
    }

filled_row : (row : ℕ) (x b : Board) → Filled (suc row) 0 x b → Filled row 8 x b
filled_row row x b f = record {
  open_at = open_row row x f.open_at;
  above = λ q h k. elim (cases_lt q (8 * suc row + 8)) [ inl z ↦ f.before q (omega arith) (omega arith) | inr z ↦ f.above q z k ];
  before = λ q h k. absurd (omega arith);
}

-- a number, where there is one, and then what follows it
number-reached : (row n k left : ℕ) (digit : Bool) (x : Board) (m : Side) (p : Option Square) (t : List ℕ) (r : Reader)
    → left ≡ k + n → left ≤ 8 → (digit ≡ true → k ≡ 0)
    → ((g : Bool) → led form (reader (Squares row n g) x m p) t ≡ Some r)
    → led form (reader (Squares row left digit) x m p) (number k ++ t) ≡ Some r
number-reached row n zero left digit x m p t r e h z f =
    subst (λ (i : ℕ). led form (reader (Squares row i digit) x m p) t ≡ Some r) (let q : n ≡ left = omega arith in q) (f digit)
number-reached row n (suc k) left true x m p t r e h z f = absurd (omega (arith, z refl))
number-reached row n (suc k) left false x m p t r e h z f =
    subst (λ (i : ℕ). led form (reader (Squares row i false) x m p) ((48 + suc k) ∷ t) ≡ Some r) (sym e)
    (ahead _ _ (48 + suc k) t r (next_run row n k x m p (omega arith)) (f true))

cells-reached : (n k row left : ℕ) (digit : Bool) (x b : Board) (m : Side) (p : Option Square) (t : List ℕ) (r : Reader)
    → left ≡ k + n → left ≤ 8 → (digit ≡ true → (k ≡ 0) × ManFirst (cells b row n)) → Filled row n x b
    → ((y : Board) (g : Bool) → Filled row 0 y b → led form (reader (Squares row 0 g) y m p) t ≡ Some r)
    → led form (reader (Squares row left digit) x m p) (row_text k (cells b row n) ++ t) ≡ Some r
unfolding row_text cells ManFirst
cells-reached zero k row left digit x b m p t r e h z f c = number-reached row 0 k left digit x m p t r e h (λ g. (z g).0) (λ g. c x g f)
cells-reached (suc n) k row left digit x b m p t r e h z f c =
    elim (on b (8 * row + (7 - n)))
    as (λ o. on b (8 * row + (7 - n)) ≡ o → (digit ≡ true → (k ≡ 0) × ManFirst (o ∷ cells b row n))
    → led form (reader (Squares row left digit) x m p) (row_text k (o ∷ cells b row n) ++ t) ≡ Some r) [
      | None ↦ λ q w. cells-reached n (suc k) row left digit x b m p t r (omega arith) h (λ g. absurd (w g).1) (filled_none row n x b f q) c
      | Some y ↦ λ q w.
          subst (λ (l : List ℕ). led form (reader (Squares row left digit) x m p) l ≡ Some r)
          (sym (append_assoc (number k) (letter y.side y.kind ∷ row_text 0 (cells b row n)) t))
          (number-reached row (suc n) k left digit x m p _ r e h (λ g. (w g).0)
          (λ g. ahead _ _ (letter y.side y.kind) _ r (next_man row n g x m p y)
          (cells-reached n 0 row n false (set x (here row (suc n)) (Some y)) b m p t r (omega arith) (omega arith)
          (λ g. (let v : ◌≡◌ {A = ℕ} 0 1 = cc in absurd (omega arith))) (filled-man row n x b y f q) c)))
    ]
    refl z

rows-reached : (row : ℕ) (x b : Board) (m : Side) (p : Option Square) (t : List ℕ) (r : Reader)
    → Filled row 8 x b
    → ((y : Board) (g : Bool) → Filled 0 0 y b → led form (reader (Squares 0 0 g) y m p) t ≡ Some r)
    → led form (reader (Squares row 8 false) x m p) ((row_text 0 (cells b row 8) ++ below b row) ++ t) ≡ Some r
unfolding below
rows-reached zero x b m p t r f c =
    subst (λ (l : List ℕ). led form (reader (Squares 0 8 false) x m p) l ≡ Some r) (sym (append_assoc (row_text 0 (cells b 0 8)) [] t))
    (cells-reached 8 0 0 8 false x b m p t r refl (omega arith) (λ g. (let v : ◌≡◌ {A = ℕ} 0 1 = cc in absurd (omega arith))) f c)
rows-reached (suc row) x b m p t r f c =
    subst (λ (l : List ℕ). led form (reader (Squares (suc row) 8 false) x m p) l ≡ Some r)
    (sym (append_assoc (row_text 0 (cells b (suc row) 8)) (slash ∷ (row_text 0 (cells b row 8) ++ below b row)) t))
    (cells-reached 8 0 (suc row) 8 false x b m p _ r refl (omega arith) (λ g. (let v : ◌≡◌ {A = ℕ} 0 1 = cc in absurd (omega arith))) f
    (λ y g h. ahead _ _ slash _ r (next_slash row g y m p) (rows-reached row y b m p t r (filled_row row y b h) c)))

filled-empty : (b : Board) → Filled 7 8 empty b
filled-empty b = record {
  open_at = open_empty;
  above = λ q h k. absurd (omega arith);
  before = λ q h k. absurd (omega arith);
}

filled-all : (x b : Board) → length b ≡ 64 → Filled 0 0 x b → x ≡ b
filled-all x b h f =
    let s = f.open_at.size in
    ext_get_or None x b (s ∙ sym h)
    (λ q l. elim (cases_lt q 8) [ inl z ↦ f.before q (omega arith) (omega arith) | inr z ↦ f.above q (omega arith) (omega arith) ])

pub says : (t : List ℕ) (d : Diagram) → Stands t d → Says form t d
says t d w =
    let all = row_text 0 (cells d.board 7 8) ++ below d.board 7 in
    let e : t ≡ all ++ (fields d.mover d.passing ++ replicate w.blanks blank) =
    w.text ∙ append_assoc all (fields d.mover d.passing) (replicate w.blanks blank) in (
      reader Blanks d.board d.mover d.passing,
      (
        ap (led form form.first) e
            ∙ rows-reached 7 empty d.board White None (fields d.mover d.passing ++ replicate w.blanks blank) _ (filled-empty d.board)
            (λ y g f. fields-reached w.blanks y g d.mover White d.passing None w.sound.row
            ∙ ap (λ (b : Board). Some (reader Blanks b d.mover d.passing)) (filled-all y d.board w.sound.squares f)),
        refl,
      ),
    )
