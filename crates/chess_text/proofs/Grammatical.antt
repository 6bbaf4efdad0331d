-- The texts of diagrams are the texts of the grammar.
use Rattle.std.proofs.Common.{◌≡◌, ℕ, zero, suc, ◌+◌, ◌≤◌, Bool, true, false, List, [], ◌∷◌, ◌++◌, length, set, replicate, Some, None, Option, sym, refl, ap, ◌∙◌, subst, arith}
use Rattle.std.proofs.lemmas.List.{append_assoc, append-nil}
use Rattle.board.specs.declared.square.Square.{Square}
use Rattle.form.specs.Forms.{led}
use Rattle.chess_attacks.specs.Letters.{letter}
use Rattle.chess_text.specs.Letters.{blank, slash, man as the_man}
use Rattle.chess_attacks.specs.Men.{Squares as Board}
use Rattle.chess_text.specs.Diagrams.{cells, number, row_text, below, fields, placement, Texts}
use Rattle.chess_text.specs.Grammar.{Row, full, man, run, Rows, last, next, Fen, SameTexts}
use Rattle.chess_text.specs.Reading.{reader, here, empty, form}
use Rattle.chess_attacks.specs.declared.men.Man.{Man}
use Rattle.chess_attacks.specs.declared.men.Side.{Side}
use Rattle.chess_attacks.specs.declared.men.Side.TheVariants.{White}
use Rattle.chess_text.specs.declared.reader.Reader.{Reader}
use Rattle.chess_text.specs.declared.reader.Awaits.TheVariants.{Squares, Blanks}
use Rattle.chess_text.specs.Steps.{next_man, next_run, next_slash}
use Rattle.chess_text.proofs.Meaning.{ahead, fields-reached, stands}
use Rattle.chess_text.proofs.Rows.{cells-length}

-- ---- a row's text is a row of the grammar

resize : (d : Bool) (m n : ℕ) (t : List ℕ) → m ≡ n → Row d m t → Row d n t
resize d m n t e r = subst (λ (i : ℕ). Row d i t) e r

counted : (k : ℕ) (n : ℕ) (t : List ℕ) → k ≤ 8 → ((d : Bool) → Row d n t) → Row false (k + n) (number k ++ t)
counted zero n t h r = resize false n (0 + n) t (omega arith) (r false)
counted (suc k) n t h r = run (suc k) (omega arith) h (r true)

row_of : (cs : List (Option Man)) (k : ℕ) → k + length cs ≤ 8 → Row false (k + length cs) (row_text k cs)
unfolding row_text
row_of [] k h = subst (λ (t : List ℕ). Row false (k + 0) t) (append-nil (number k)) (counted k 0 [] (omega arith) (λ d. full))
row_of (None ∷ cs) k h = resize false (suc k + length cs) (k + suc (length cs)) (row_text (suc k) cs) (omega arith) (row_of cs (suc k) (omega arith))
row_of (Some x ∷ cs) k h =
    counted k (suc (length cs)) (letter x.side x.kind ∷ row_text 0 cs) (omega arith)
    (λ d. man x.side x.kind (resize false (0 + length cs) (length cs) (row_text 0 cs) (omega arith) (row_of cs 0 (omega arith))))

board-row : (b : Board) (row : ℕ) → Row false 8 (row_text 0 (cells b row 8))
board-row b row =
    let l = cells-length b row 8 in
    resize false (0 + length (cells b row 8)) 8 _ (omega arith) (row_of (cells b row 8) 0 (omega arith))

board-rows : (b : Board) (row : ℕ) → Rows row (row_text 0 (cells b row 8) ++ below b row)
unfolding below
board-rows b zero = subst (Rows 0) (sym (append-nil (row_text 0 (cells b 0 8)))) (last (board-row b 0))
board-rows b (suc row) = next (board-row b (suc row)) (board-rows b row)

to_grammar : (t : List ℕ) → Texts t → Fen t
to_grammar t w =
    let d = w.0 in
    let s = w.1 in
    record {
      board_text = placement d.board;
      rows = board-rows d.board 7;
      mover = d.mover;
      passing = d.passing;
      row = s.sound.row;
      blanks = s.blanks;
      text = s.text ∙ append_assoc (placement d.board) (fields d.mover d.passing) (replicate s.blanks blank);
    }

-- ---- what the grammar makes is read

-- from the state the text leads to the end, with some board
Leads : Reader → List ℕ → Side → Option Square → Type 0
Leads s t m p = (b : Board) × (led form s t ≡ Some (reader Blanks b m p))

on : (s u : Reader) (c : ℕ) (t : List ℕ) (m : Side) (p : Option Square) → form.next s c ≡ Some u → Leads u t m p → Leads s (c ∷ t) m p
unfolding Leads
on s u c t m p e f = (f.0, ahead s u c t (reader Blanks f.0 m p) e f.1)

row-led : {d : Bool} {n : ℕ} {t : List ℕ} → Row d n t → (row : ℕ) (u : List ℕ) (x : Board) (m : Side) (p : Option Square)
    → ((y : Board) (g : Bool) → Leads (reader (Squares row 0 g) y White None) u m p) → Leads (reader (Squares row n d) x White None) (t ++ u) m p
row-led {d} full row u x m p f = f x d
row-led {d} (man {n = n} s k r) row u x m p f =
    on _ _ (letter s k) _ m p (next_man row n d x White None (the_man s k))
    (row-led r row u (set x (here row (suc n)) (Some (the_man s k))) m p f)
row-led (run {n = n} zero h l r) row u x m p f = absurd (omega arith)
row-led (run {n = n} (suc k) h l r) row u x m p f =
    on _ _ (48 + suc k) _ m p (next_run row n k x White None (omega arith)) (row-led r row u x m p f)

rows-led : {n : ℕ} {t : List ℕ} → Rows n t → (u : List ℕ) (x : Board) (m : Side) (p : Option Square)
    → ((y : Board) (g : Bool) → Leads (reader (Squares 0 0 g) y White None) u m p) → Leads (reader (Squares n 8 false) x White None) (t ++ u) m p
rows-led (last r) u x m p f = row-led r 0 u x m p f
rows-led (next {n = n} {t = t} {u = v} r s) u x m p f =
    subst (λ (z : List ℕ). Leads (reader (Squares (suc n) 8 false) x White None) z m p) (sym (append_assoc t (slash ∷ v) u))
    (row-led r (suc n) (slash ∷ (v ++ u)) x m p (λ y g. on _ _ slash _ m p (next_slash n g y White None) (rows-led s u y m p f)))

from_grammar : (t : List ℕ) → Fen t → Texts t
unfolding Leads
from_grammar t w =
    let l : Leads (reader (Squares 7 8 false) empty White None) (w.board_text ++ (fields w.mover w.passing ++ replicate w.blanks blank)) w.mover w.passing =
    rows-led w.rows (fields w.mover w.passing ++ replicate w.blanks blank) empty w.mover w.passing
    (λ y g. (y, fields-reached w.blanks y g w.mover White w.passing None w.row)) in (
      record { board = l.0; mover = w.mover; passing = w.passing },
      stands t (record { board = l.0; mover = w.mover; passing = w.passing })
          (reader Blanks l.0 w.mover w.passing, (ap (led form form.first) w.text ∙ l.1, refl)),
    )

pub same-texts : SameTexts
same-texts t = (to_grammar t, from_grammar t)
