-- What the rest of a text says, from the squares of a row on.
use Rattle.std.proofs.Common.{◌≡◌, ℕ, zero, suc, ◌+◌, ◌-◌, ◌*◌, ◌<◌, ◌≤◌, Bool, true, false, cond, not, ◌&&◌, eqb, leb, List, [], ◌∷◌, ◌++◌, length, set, replicate, IfSome, Some, None, Option, sym, refl, ap, ◌∙◌, subst, ap₂, arith}
use Rattle.std.proofs.lemmas.Bool.Decides.{nat_tests}
use Rattle.std.proofs.lemmas.Bool.{eqb-true}
use Rattle.std.proofs.lemmas.List.{length-set, get_or-set_same, get_or-set_other}
use Rattle.board.specs.declared.square.Square.{Square}
use Rattle.form.specs.Forms.{led}
use Rattle.chess_attacks.specs.Letters.{letter}
use Rattle.chess_text.specs.Letters.{blank, slash, man_of, run_of}
use Rattle.chess_attacks.specs.Men.{Squares as Board, on}
use Rattle.chess_text.specs.Diagrams.{cells, row_text, below, fields, IsPassable}
use Rattle.chess_text.specs.Reading.{reader, here, when, row_step, square_step, form}
use Rattle.chess_attacks.specs.declared.men.Man.{Man}
use Rattle.chess_attacks.specs.declared.men.Side.{Side}
use Rattle.chess_moves.specs.declared.diagram.Diagram.{Diagram}
use Rattle.chess_text.specs.declared.reader.Reader.{Reader}
use Rattle.chess_text.specs.declared.reader.Awaits.TheVariants.{Squares, Mover}
use Rattle.chess_text.specs.Steps.{none, by_when, by_some, by_given}
use Rattle.chess_text.proofs.Tails.{letter-of, run_byte, stepped, Gives, unended, Tail, mover_tail}

-- ---- runs of empty squares in a row's text

-- no empty square stands first
unfoldable pub ManFirst : List (Option Man) → Type 0
ManFirst [] = Unit {0}
ManFirst (None ∷ cs) = ⊥
ManFirst (Some x ∷ cs) = Unit {0}

pub run-text : (k n : ℕ) (cs : List (Option Man)) → row_text n (replicate k None ++ cs) ≡ row_text (n + k) cs
unfolding row_text
run-text zero n cs = ap (λ (i : ℕ). row_text i cs) (let e : n ≡ n + 0 = omega arith in e)
run-text (suc k) n cs = run-text k (suc n) cs ∙ ap (λ (i : ℕ). row_text i cs) (let e : suc n + k ≡ n + suc k = omega arith in e)

pub number-text : (n : ℕ) (cs : List (Option Man)) → 0 < n → ManFirst cs → row_text n cs ≡ (48 + n) ∷ row_text 0 cs
unfolding row_text ManFirst
number-text zero cs h f = absurd (omega arith)
number-text (suc n) [] h f = refl
number-text (suc n) (None ∷ cs) h f = absurd f
number-text (suc n) (Some x ∷ cs) h f = refl

-- the first k of the last n squares of a row are empty
pub empty-cells : (b : Board) (row k n : ℕ) → k ≤ n → n ≤ 8
    → ((q : ℕ) → 8 * row + (8 - n) ≤ q → q < 8 * row + (8 - (n - k)) → on b q ≡ None)
    → cells b row n ≡ replicate k None ++ cells b row (n - k)
unfolding cells
empty-cells b row zero n h l f = ap (cells b row) (let e : n ≡ n - 0 = omega arith in e)
empty-cells b row (suc k) zero h l f = absurd (omega arith)
empty-cells b row (suc k) (suc n) h l f =
    ap₂ (λ (c : Option Man) (cs : List (Option Man)). c ∷ cs) (f (8 * row + (7 - n)) (omega arith) (omega arith))
    (empty-cells b row k n (omega arith) (omega arith) (λ q g j. f q (omega arith) (omega arith))
    ∙ ap (λ (i : ℕ). replicate k None ++ cells b row i) (let e : n - k ≡ suc n - suc k = omega arith in e))

pub cells-length : (b : Board) (row n : ℕ) → length (cells b row n) ≡ n
unfolding cells
cells-length b row zero = refl
cells-length b row (suc n) = ap suc (cells-length b row n)

-- ---- the rest of a text

pub record Rest (row left : ℕ) (digit : Bool) (b : Board) (t : List ℕ) (d : Diagram) : Type 0 where
  pub blanks : ℕ
  pub size : length d.board ≡ 64
  pub row_ok : IfSome d.passing IsPassable
  pub text : t ≡ (row_text 0 (cells d.board row left) ++ below d.board row) ++ (fields d.mover d.passing ++ replicate blanks blank)
  pub man_first : digit ≡ true → ManFirst (cells d.board row left)
  pub above : (q : ℕ) → 8 * row + 8 ≤ q → on d.board q ≡ on b q
  pub before : (q : ℕ) → 8 * row ≤ q → q < 8 * row + (8 - left) → on d.board q ≡ on b q

-- the squares to come are empty so far
pub record Open (row left : ℕ) (b : Board) : Type 0 where
  pub size : length b ≡ 64
  pub row_fits : row < 8
  pub left_fits : left ≤ 8
  pub below_none : (q : ℕ) → q < 8 * row → on b q ≡ None
  pub row_none : (q : ℕ) → 8 * row + (8 - left) ≤ q → q < 8 * row + 8 → on b q ≡ None

cons_is : (c k : ℕ) (t u : List ℕ) → c ≡ k → t ≡ u → c ∷ t ≡ k ∷ u
cons_is c k t u e f = ap₂ (λ (y : ℕ) (ys : List ℕ). y ∷ ys) e f

-- after the last row
last_row : (c : ℕ) (t : List ℕ) (digit : Bool) (b : Board) (d : Diagram) → c ≡ blank → length b ≡ 64 → Tail t b d → Rest 0 0 digit b (c ∷ t) d
unfolding row_text cells below ManFirst
last_row c t digit b d e h i = record {
  blanks = i.blanks;
  size = ap length i.board ∙ h;
  row_ok = i.row;
  text = cons_is c blank t _ e i.text;
  man_first = λ _. tt;
  above = λ q _. ap (λ (x : Board). on x q) i.board;
  before = λ q _ _. ap (λ (x : Board). on x q) i.board;
}

-- after a row that is not the last
next_row : (c : ℕ) (t : List ℕ) (row : ℕ) (digit : Bool) (b : Board) (d : Diagram) → c ≡ slash → Rest row 8 false b t d → Rest (suc row) 0 digit b (c ∷ t) d
unfolding row_text cells below ManFirst
next_row c t row digit b d e i = record {
  blanks = i.blanks;
  size = i.size;
  row_ok = i.row_ok;
  text = cons_is c slash t _ e i.text;
  man_first = λ _. tt;
  above = λ q h. i.above q (omega arith);
  before = λ q h _. i.above q (omega arith);
}

-- after a man
next_man : (c : ℕ) (t : List ℕ) (row n : ℕ) (digit : Bool) (b : Board) (x : Man) (d : Diagram)
    → Open row (suc n) b → c ≡ letter x.side x.kind
    → Rest row n false (set b (here row (suc n)) (Some x)) t d → Rest row (suc n) digit b (c ∷ t) d
unfolding row_text cells below ManFirst
next_man c t row n digit b x d o e i =
    let s = o.size in
    let r = o.row_fits in
    let l = o.left_fits in
    let at : 8 * row + (7 - n) ≡ here row (suc n) = omega arith in
    let in_board : here row (suc n) < length b = omega arith in
    let man : on d.board (8 * row + (7 - n)) ≡ Some x =
    i.before (8 * row + (7 - n)) (omega arith) (omega arith)
    ∙ ap (λ (q : ℕ). on (set b (here row (suc n)) (Some x)) q) at ∙ get_or-set_same b (here row (suc n)) (Some x) None in_board in
    let other : (q : ℕ) → (q ≡ here row (suc n) → ⊥) → on (set b (here row (suc n)) (Some x)) q ≡ on b q =
    λ q ne. get_or-set_other b (here row (suc n)) q (Some x) None ne in
    record {
      blanks = i.blanks;
      size = i.size;
      row_ok = i.row_ok;
      text = cons_is c (letter x.side x.kind) t _ e i.text
          ∙ ap (λ (y : Option Man). (row_text 0 (y ∷ cells d.board row n) ++ below d.board row)
          ++ (fields d.mover d.passing ++ replicate i.blanks blank)) (sym man);
      man_first = λ _. subst (λ (y : Option Man). ManFirst (y ∷ cells d.board row n)) (sym man) tt;
      above = λ q h. i.above q h ∙ other q (λ z. omega arith);
      before = λ q h k. i.before q h (omega arith) ∙ other q (λ z. omega arith);
    }

-- after a run of empty squares
next_run : (c : ℕ) (t : List ℕ) (row n k : ℕ) (digit : Bool) (b : Board) (d : Diagram)
    → Open row n b → c ≡ 48 + k → 0 < k → k ≤ n → digit ≡ false
    → Rest row (n - k) true b t d → Rest row n digit b (c ∷ t) d
next_run c t row n k digit b d o e h j f i =
    let l = o.left_fits in
    let cs = cells d.board row (n - k) in
    let split : cells d.board row n ≡ replicate k None ++ cs =
    empty-cells d.board row k n j l (λ q a z. i.before q (omega arith) z ∙ o.row_none q a (omega arith)) in
    let word : row_text 0 (cells d.board row n) ≡ (48 + k) ∷ row_text 0 cs =
    ap (row_text 0) split ∙ run-text k 0 cs ∙ ap (λ (m : ℕ). row_text m cs) (let z : 0 + k ≡ k = omega arith in z) ∙ number-text k cs h (i.man_first refl) in
    record {
      blanks = i.blanks;
      size = i.size;
      row_ok = i.row_ok;
      text = cons_is c (48 + k) t _ e i.text
          ∙ ap (λ (y : List ℕ). (y ++ below d.board row) ++ (fields d.mover d.passing ++ replicate i.blanks blank)) (sym word);
      man_first = λ g. (let z : false ≡ true = sym f ∙ g in let y : ◌≡◌ {A = ℕ} 0 1 = cc in absurd (omega arith));
      above = λ q g. i.above q g;
      before = λ q g m. i.before q g (omega arith);
    }

-- ---- the squares to come, after each

pub open_row : (row : ℕ) (b : Board) → Open (suc row) 0 b → Open row 8 b
open_row row b o = let r = o.row_fits in record {
  size = o.size;
  row_fits = omega arith;
  left_fits = omega arith;
  below_none = λ q h. o.below_none q (omega arith);
  row_none = λ q h k. o.below_none q (omega arith);
}

pub open_man : (row n : ℕ) (b : Board) (x : Option Man) → Open row (suc n) b → Open row n (set b (here row (suc n)) x)
open_man row n b x o =
    let r = o.row_fits in
    let l = o.left_fits in
    record {
      size = simp length-set o.size;
      row_fits = o.row_fits;
      left_fits = omega arith;
      below_none = λ q h. get_or-set_other b (here row (suc n)) q x None (λ z. omega arith) ∙ o.below_none q h;
      row_none = λ q h k. get_or-set_other b (here row (suc n)) q x None (λ z. omega arith) ∙ o.row_none q (omega arith) k;
    }

open_run : (row n k : ℕ) (b : Board) → k ≤ n → Open row n b → Open row (n - k) b
open_run row n k b h o =
    let r = o.row_fits in
    let l = o.left_fits in
    record {
      size = o.size;
      row_fits = o.row_fits;
      left_fits = omega arith;
      below_none = o.below_none;
      row_none = λ q g j. o.row_none q (omega arith) j;
    }

-- ---- reading from a square on

and_both : (u v : Bool) → (u && v) ≡ true → (u ≡ true) × (v ≡ true)
and_both true v e = (refl, e)
and_both false v e = let y : ◌≡◌ {A = ℕ} 0 1 = cc in absurd (omega arith)

not-true : (u : Bool) → not u ≡ true → u ≡ false
not-true true e = sym e
not-true false e = refl

leb_le : (m n : ℕ) → leb m n ≡ true → m ≤ n
leb_le m n e = grind (arith, nat_tests)

pub rows : (t : List ℕ) (row left : ℕ) (digit : Bool) (b : Board) (m : Side) (p : Option Square) (r : Reader) (d : Diagram)
    → Open row left b → led form (reader (Squares row left digit) b m p) t ≡ Some r → Gives r d → Rest row left digit b t d
rows [] row left digit b m p r d o e g = unended (reader (Squares row left digit) b m p) r d e g refl
rows (c ∷ t) zero zero digit b m p r d o e g =
    let w = stepped (reader (Squares 0 0 digit) b m p) c t r e in
    by_when (λ u. led form u t ≡ Some r → Rest 0 0 digit b (c ∷ t) d) (eqb c blank) _ w.0 w.1.0
    (λ z k. last_row c t digit b d (eqb-true c blank z) o.size (mover_tail t b m p r d k g)) w.1.1
rows (c ∷ t) (suc row) zero digit b m p r d o e g =
    let w = stepped (reader (Squares (suc row) 0 digit) b m p) c t r e in
    let q : eqb (suc row) 0 ≡ false = grind (arith, nat_tests) in
    let l : suc row - 1 ≡ row = omega arith in
    by_when (λ u. led form u t ≡ Some r → Rest (suc row) 0 digit b (c ∷ t) d) (eqb c slash) (reader (Squares (suc row - 1) 8 false) b m p) w.0
    (sym (ap (λ (v : Bool). cond v (when (eqb c blank) (reader Mover b m p)) (when (eqb c slash) (reader (Squares (suc row - 1) 8 false) b m p))) q) ∙ w.1.0)
    (λ z k. next_row c t row digit b d (eqb-true c slash z)
    (rows t row 8 false b m p r d (open_row row b o) (subst (λ (i : ℕ). led form (reader (Squares i 8 false) b m p) t ≡ Some r) l k) g)) w.1.1
rows (c ∷ t) row (suc n) digit b m p r d o e g =
    let w = stepped (reader (Squares row (suc n) digit) b m p) c t r e in
    let q : eqb (suc n) 0 ≡ false = grind (arith, nat_tests) in
    let l : suc n - 1 ≡ n = omega arith in
    by_given (λ u. led form u t ≡ Some r → Rest row (suc n) digit b (c ∷ t) d) (man_of c) _ _ w.0
    (sym (ap (λ (v : Bool). cond v (row_step row b m p c) (square_step row (suc n) digit b m p c)) q) ∙ w.1.0)
    (λ _ y. by_given (λ u. led form u t ≡ Some r → Rest row (suc n) digit b (c ∷ t) d) (run_of c) _ _ w.0 y
    (λ _ x. none w.0 x)
    (λ k z x. by_when (λ u. led form u t ≡ Some r → Rest row (suc n) digit b (c ∷ t) d) (not digit && leb k (suc n)) _ w.0 x
    (λ v f. let a = and_both (not digit) (leb k (suc n)) v in
    let fits : k ≤ suc n = leb_le k (suc n) a.1 in
    next_run c t row (suc n) k digit b d o (run_byte c k z).0 (run_byte c k z).1 fits (not-true digit a.0)
    (rows t row (suc n - k) true b m p r d (open_run row (suc n) k b fits o) f g))))
    (λ x z y. by_some (λ u. led form u t ≡ Some r → Rest row (suc n) digit b (c ∷ t) d) _ w.0 y
    (λ k. next_man c t row n digit b x d o (letter-of c x z)
    (rows t row n false (set b (here row (suc n)) (Some x)) m p r d (open_man row n b (Some x) o)
    (subst (λ (i : ℕ). led form (reader (Squares row i false) (set b (here row (suc n)) (Some x)) m p) t ≡ Some r) l k) g)))
    w.1.1
