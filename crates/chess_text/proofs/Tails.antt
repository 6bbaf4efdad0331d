-- What the end of a text says, from each state on.
use Rattle.std.proofs.Common.{◌≡◌, ℕ, suc, ◌+◌, ◌<◌, ◌≤◌, Bool, true, false, cond, eqb, ◌⊎◌, List, [], ◌∷◌, ◌++◌, replicate, IfSome, Some, None, Option, sym, refl, ap, ◌∙◌, subst, ap₂, inl, inr, ⊎_elim, arith}
use Rattle.std.proofs.lemmas.Bool.Decides.{nat_tests}
use Rattle.std.proofs.lemmas.Bool.{eqb-true}
use Rattle.board.specs.declared.square.Square.{Square}
use Rattle.form.specs.Forms.{given, led}
use Rattle.chess_attacks.specs.Letters.{letter}
use Rattle.chess_text.specs.Letters.{blank, dash, man_of, side_of, run_of, file_of, side_letter, man, case}
use Rattle.chess_attacks.specs.Men.{Squares as Board}
use Rattle.chess_text.specs.Diagrams.{passing_text, IsPassable}
use Rattle.board.specs.Squares.{square_at, file, row}
use Rattle.chess_text.specs.Reading.{square, reader, when, said, form}
use Rattle.chess_attacks.specs.declared.men.Man.{Man}
use Rattle.chess_attacks.specs.declared.men.Kind.{Kind}
use Rattle.chess_attacks.specs.declared.men.Kind.TheVariants.{King, Queen, Rook, Bishop, Knight, Pawn}
use Rattle.chess_attacks.specs.declared.men.Side.{Side}
use Rattle.chess_attacks.specs.declared.men.Side.TheVariants.{White, Black}
use Rattle.chess_moves.specs.declared.diagram.Diagram.{Diagram}
use Rattle.chess_text.specs.declared.reader.Reader.{Reader}
use Rattle.chess_text.specs.declared.reader.Awaits.{Awaits}
use Rattle.chess_text.specs.declared.reader.Awaits.TheVariants.{Mover, GapToRights, Rights, GapToPassing, Passing, PassingRow, Blanks}
use Rattle.chess_text.proofs.Squares.{at}
use Rattle.chess_text.specs.Steps.{none, by_when, by_some, by_given, by_cond}

-- ---- which bytes mean what

pick : (c : ℕ) (s : Side) (k : Kind) (o : Option Man) (x : Man)
    → case c s k o ≡ Some x → (o ≡ Some x → c ≡ letter x.side x.kind) → c ≡ letter x.side x.kind
pick c s k o x e f = at (eqb c (letter s k)) refl e
  where
    at : (t : Bool) → eqb c (letter s k) ≡ t → cond t (Some (man s k)) o ≡ Some x → c ≡ letter x.side x.kind
    at true z g = let y : man s k ≡ x = cc in eqb-true c (letter s k) z ∙ ap (λ (i : Man). letter i.side i.kind) y
    at false z g = f g

pub letter-of : (c : ℕ) (x : Man) → man_of c ≡ Some x → c ≡ letter x.side x.kind
unfolding man_of
letter-of c x e =
    pick c White King _ x e (λ e. pick c White Queen _ x e (λ e. pick c White Rook _ x e (λ e. pick c White Bishop _ x e
    (λ e. pick c White Knight _ x e (λ e. pick c White Pawn _ x e (λ e. pick c Black King _ x e (λ e. pick c Black Queen _ x e
    (λ e. pick c Black Rook _ x e (λ e. pick c Black Bishop _ x e (λ e. pick c Black Knight _ x e (λ e. pick c Black Pawn _ x e
    (none x))))))))))))

pub run_byte : (c n : ℕ) → run_of c ≡ Some n → (c ≡ 48 + n) × (0 < n) × (n ≤ 8)
unfolding run_of
run_byte c n e = grind (arith, nat_tests)

pub file_byte : (c f : ℕ) → file_of c ≡ Some f → (c ≡ 97 + f) × (f < 8)
unfolding file_of
file_byte c f e = grind (arith, nat_tests)

pub side_byte : (c : ℕ) (s : Side) → side_of c ≡ Some s → c ≡ side_letter s
unfolding side_of
side_byte c White e = grind (arith, nat_tests)
side_byte c Black e = grind (arith, nat_tests)

-- ---- one byte

pub stepped : (s : Reader) (c : ℕ) (t : List ℕ) (r : Reader) → led form s (c ∷ t) ≡ Some r
    → (u : Reader) × ((form.next s c ≡ Some u) × (led form u t ≡ Some r))
unfolding led
stepped s c t r e = at (form.next s c) e
  where
    at : (o : Option Reader) → given o None (λ u. led form u t) ≡ Some r → (u : Reader) × ((o ≡ Some u) × (led form u t ≡ Some r))
    at None g = none r g
    at (Some u) g = (u, (refl, g))

unfoldable pub Gives : Reader → Diagram → Type 0
Gives r d = said r.awaits r.board r.mover r.passing ≡ Some d

-- a text does not end in these states
pub unended : {P : Type 0} (s r : Reader) (d : Diagram) → led form s [] ≡ Some r → Gives r d → said s.awaits s.board s.mover s.passing ≡ None → P
unfolding led Gives
unended s r d e g z =
    let k : s ≡ r = cc in
    none d (sym z ∙ ap (λ (u : Reader). said u.awaits u.board u.mover u.passing) k ∙ g)

-- ---- the fields after the placement

-- what is left once the mover is known
pub record After (t : List ℕ) (b : Board) (m : Side) (d : Diagram) (front : Option Square → List ℕ) : Type 0 where
  pub blanks : ℕ
  pub board : d.board ≡ b
  pub mover : d.mover ≡ m
  pub row : IfSome d.passing IsPassable
  pub text : t ≡ front d.passing ++ replicate blanks blank

pub record Tail (t : List ℕ) (b : Board) (d : Diagram) : Type 0 where
  pub blanks : ℕ
  pub board : d.board ≡ b
  pub row : IfSome d.passing IsPassable
  pub text : t ≡ side_letter d.mover ∷ blank ∷ dash ∷ blank ∷ (passing_text d.passing ++ replicate blanks blank)

cons : (c k : ℕ) (t u : List ℕ) → eqb c k ≡ true → t ≡ u → c ∷ t ≡ k ∷ u
cons c k t u e f = ap₂ (λ (y : ℕ) (ys : List ℕ). y ∷ ys) (eqb-true c k e) f

blanks_tail : (t : List ℕ) (b : Board) (m : Side) (p : Option Square) (r : Reader) (d : Diagram)
    → led form (reader Blanks b m p) t ≡ Some r → Gives r d
    → (record { board = b; mover = m; passing = p } ≡ d) × ((n : ℕ) × (t ≡ replicate n blank))
unfolding led Gives
blanks_tail [] b m p r d e g =
    let k : reader Blanks b m p ≡ r = cc in
    let q : Some (record { board = b; mover = m; passing = p }) ≡ Some d = ap (λ (u : Reader). said u.awaits u.board u.mover u.passing) k ∙ g in
    (cc, (0, refl))
blanks_tail (c ∷ t) b m p r d e g =
    let w = stepped (reader Blanks b m p) c t r e in
    by_when (λ u. led form u t ≡ Some r → (record { board = b; mover = m; passing = p } ≡ d) × ((n : ℕ) × (c ∷ t ≡ replicate n blank))) (eqb c blank) _ w.0 w.1.0
    (λ z k. let i = blanks_tail t b m p r d k g in (i.0, (suc i.1.0, cons c blank t (replicate i.1.0 blank) z i.1.1))) w.1.1

-- after the en passant square
passing-here : (x t : List ℕ) (b : Board) (m : Side) (p : Option Square) (r : Reader) (d : Diagram) (front : Option Square → List ℕ)
    → IfSome p IsPassable → led form (reader Blanks b m p) t ≡ Some r → Gives r d
    → ((k : ℕ) → t ≡ replicate k blank → x ≡ front p ++ replicate k blank)
    → After x b m d front
passing-here x t b m p r d front h e g f =
    let i = blanks_tail t b m p r d e g in
    let q : d.passing ≡ p = ap (λ (x : Diagram). x.passing) (sym i.0) in
    record {
      blanks = i.1.0;
      board = ap (λ (x : Diagram). x.board) (sym i.0);
      mover = ap (λ (x : Diagram). x.mover) (sym i.0);
      row = subst (λ (o : Option Square). IfSome o IsPassable) (sym q) h;
      text = f i.1.0 i.1.1 ∙ ap (λ (o : Option Square). front o ++ replicate i.1.0 blank) (sym q);
    }

cons_is : (c k : ℕ) (t u : List ℕ) → c ≡ k → t ≡ u → c ∷ t ≡ k ∷ u
cons_is c k t u e f = ap₂ (λ (y : ℕ) (ys : List ℕ). y ∷ ys) e f

-- the row after the file f: the square is on row 3 or 6
square-here : (t : List ℕ) (f a c n : ℕ) (b : Board) (m : Side) (r : Reader) (d : Diagram)
    → f < 8 → (n ≡ 2) ⊎ (n ≡ 5) → a ≡ 97 + f → c ≡ 49 + n
    → led form (reader Blanks b m (square (square_at f n))) t ≡ Some r → Gives r d → After (a ∷ c ∷ t) b m d passing_text
square-here t f a c n b m r d h q l z e g =
    let s = at f n h (⊎_elim (λ (y : n ≡ 2). omega arith) (λ (y : n ≡ 5). omega arith) q) in
    let fs = s.file_is in
    let rs = s.row_is in
    passing-here (a ∷ c ∷ t) t b m (Some s.here) r d passing_text (subst (λ (i : ℕ). (i ≡ 2) ⊎ (i ≡ 5)) (sym rs) q)
    (subst (λ (o : Option Square). led form (reader Blanks b m o) t ≡ Some r) s.read e) g
    (λ k y. cons_is a (97 + file s.here.number) (c ∷ t) ((49 + row s.here.number) ∷ replicate k blank) (omega arith)
    (cons_is c (49 + row s.here.number) t (replicate k blank) (omega arith) y))

row_tail : (t : List ℕ) (f a : ℕ) (b : Board) (m : Side) (p : Option Square) (r : Reader) (d : Diagram)
    → f < 8 → a ≡ 97 + f → led form (reader (PassingRow f) b m p) t ≡ Some r → Gives r d → After (a ∷ t) b m d passing_text
row_tail [] f a b m p r d h l e g = unended (reader (PassingRow f) b m p) r d e g refl
row_tail (c ∷ t) f a b m p r d h l e g =
    let w = stepped (reader (PassingRow f) b m p) c t r e in
    by_cond (λ u. led form u t ≡ Some r → After (a ∷ c ∷ t) b m d passing_text) (eqb c 51) _ _ w.0 w.1.0
    (λ z y. by_some (λ u. led form u t ≡ Some r → After (a ∷ c ∷ t) b m d passing_text) _ w.0 y
    (λ k. square-here t f a c 2 b m r d h (inl refl) l (eqb-true c 51 z) k g))
    (λ _ y. by_when (λ u. led form u t ≡ Some r → After (a ∷ c ∷ t) b m d passing_text) (eqb c 54) _ w.0 y
    (λ z k. square-here t f a c 5 b m r d h (inr refl) l (eqb-true c 54 z) k g))
    w.1.1

passing_tail : (t : List ℕ) (b : Board) (m : Side) (p : Option Square) (r : Reader) (d : Diagram)
    → led form (reader Passing b m p) t ≡ Some r → Gives r d → After t b m d passing_text
passing_tail [] b m p r d e g = unended (reader Passing b m p) r d e g refl
passing_tail (c ∷ t) b m p r d e g =
    let w = stepped (reader Passing b m p) c t r e in
    by_cond (λ u. led form u t ≡ Some r → After (c ∷ t) b m d passing_text) (eqb c dash) _ _ w.0 w.1.0
    (λ z y. by_some (λ u. led form u t ≡ Some r → After (c ∷ t) b m d passing_text) _ w.0 y
    (λ k. passing-here (c ∷ t) t b m None r d passing_text tt k g (λ n q. cons c dash t (replicate n blank) z q)))
    (λ _ y. by_given (λ u. led form u t ≡ Some r → After (c ∷ t) b m d passing_text) (file_of c) _ _ w.0 y
    (λ _ x. none w.0 x)
    (λ f z x. by_some (λ u. led form u t ≡ Some r → After (c ∷ t) b m d passing_text) _ w.0 x
    (λ k. row_tail t f c b m p r d (file_byte c f z).1 (file_byte c f z).0 k g)))
    w.1.1

-- a state that awaits one byte
single : (w v : Awaits) (k : ℕ) (t : List ℕ) (b : Board) (m : Side) (p : Option Square) (r : Reader) (d : Diagram) (front : Option Square → List ℕ)
    → ((c : ℕ) → form.next (reader w b m p) c ≡ when (eqb c k) (reader v b m p)) → said w b m p ≡ None
    → ((x : List ℕ) → led form (reader v b m p) x ≡ Some r → After x b m d front)
    → led form (reader w b m p) t ≡ Some r → Gives r d → After t b m d (λ o. k ∷ front o)
single w v k [] b m p r d front n s f e g = unended (reader w b m p) r d e g s
single w v k (c ∷ t) b m p r d front n s f e g =
    let i = stepped (reader w b m p) c t r e in
    by_when (λ u. led form u t ≡ Some r → After (c ∷ t) b m d (λ o. k ∷ front o)) (eqb c k) (reader v b m p) i.0 (sym (n c) ∙ i.1.0)
    (λ z y. let j = f t y in
    record {
      blanks = j.blanks;
      board = j.board;
      mover = j.mover;
      row = j.row;
      text = cons c k t (front d.passing ++ replicate j.blanks blank) z j.text;
    })
    i.1.1

rights_tail : (t : List ℕ) (b : Board) (m : Side) (p : Option Square) (r : Reader) (d : Diagram)
    → led form (reader GapToRights b m p) t ≡ Some r → Gives r d → After t b m d (λ o. blank ∷ dash ∷ blank ∷ passing_text o)
rights_tail t b m p r d e g =
    single GapToRights Rights blank t b m p r d (λ o. dash ∷ blank ∷ passing_text o) (λ c. refl) refl
    (λ t e. single Rights GapToPassing dash t b m p r d (λ o. blank ∷ passing_text o) (λ c. refl) refl
    (λ t e. single GapToPassing Passing blank t b m p r d passing_text (λ c. refl) refl
    (λ t e. passing_tail t b m p r d e g) e g) e g) e g

pub mover_tail : (t : List ℕ) (b : Board) (m : Side) (p : Option Square) (r : Reader) (d : Diagram)
    → led form (reader Mover b m p) t ≡ Some r → Gives r d → Tail t b d
mover_tail [] b m p r d e g = unended (reader Mover b m p) r d e g refl
mover_tail (c ∷ t) b m p r d e g =
    let w = stepped (reader Mover b m p) c t r e in
    by_given (λ u. led form u t ≡ Some r → Tail (c ∷ t) b d) (side_of c) _ _ w.0 w.1.0
    (λ _ x. none w.0 x)
    (λ s z x. by_some (λ u. led form u t ≡ Some r → Tail (c ∷ t) b d) _ w.0 x
    (λ k. let j = rights_tail t b s p r d k g in
    record {
      blanks = j.blanks;
      board = j.board;
      row = j.row;
      text = cons_is c (side_letter d.mover) t _ (side_byte c s z ∙ ap side_letter (sym j.mover)) j.text;
    }))
    w.1.1
