-- The texts that are read are the texts of diagrams, and each is read as its diagram.
use Rattle.std.proofs.Common.{◌≡◌, ℕ, zero, suc, ◌+◌, ◌^◌, ◌<◌, ◌≤◌, Bool, true, false, cond, ◌&&◌, ◌||◌, eqb, ltb, List, [], ◌∷◌, ◌++◌, map, replicate, Some, None, Option, sym, refl, ap, ◌∙◌, subst, ap₂, inl, inr, arith}
use mathlib.Core.Bool.{or-false}
use lib.Bits.{bit_and, bit_or, or_lt, and_le_l}
use lib.Pow.{pow-lt}
use Rattle.std.specs.List.{range_with_len}
use Rattle.std.proofs.lemmas.Bool.Decides.{nat_tests}
use Rattle.std.proofs.lemmas.Bool.{eqb-true, eq-eqb, ne_eqb, cases_eq, and_left, and_right, or_right}
use Rattle.std.proofs.lemmas.List.{append_assoc}
use Rattle.board.specs.Masks.{bit}
use Rattle.board.proofs.Bits.{bit-and, bit-or, bit-single, bit-none, bit_ext}
use Rattle.form.specs.Forms.{given, led, Says}
use Rattle.form.proofs.Departing.{never}
use Rattle.othello_rules.specs.Letters.{'X', 'O', dot, blank}
use Rattle.othello_rules.specs.Texts.{letter, mark, squares, Stands}
use Rattle.othello_rules.specs.Reading.{reader, past, said, diagram, form}
use Rattle.othello_rules.specs.declared.side.Side.{Side}
use Rattle.othello_rules.specs.declared.side.Side.TheVariants.{X, O}
use Rattle.othello_rules.specs.declared.diagram.Diagram.{Diagram}
use Rattle.othello_rules.specs.declared.reader.Reader.{Reader}
use Rattle.othello_rules.specs.declared.reader.Awaits.{Awaits}
use Rattle.othello_rules.specs.declared.reader.Awaits.TheVariants.{Square, Gap, Mover, Blanks}

-- a way that goes on takes one of the tests
by_test : {P : Type 0} (c : Bool) (v : Reader) (o : Option Reader) (k : Reader → Option Reader) (r : Reader)
    → given (cond c (Some v) o) None k ≡ Some r → (c ≡ true → k v ≡ Some r → P) → (given o None k ≡ Some r → P) → P
by_test true v o k r e f g = f refl e
by_test false v o k r e f g = g e

-- ---- the end of a text

-- what is left from each state on
pub record Ends (t : List ℕ) (x o : ℕ) (d : Diagram) (front : Side → List ℕ) : Type 0 where
  pub side : Side
  pub blanks : ℕ
  pub is : diagram side x o ≡ d
  pub text : t ≡ front side ++ replicate blanks blank

blanks_end : (t : List ℕ) (m : Side) (x o : ℕ) (r : Reader) (d : Diagram)
    → led form (reader (Blanks m) x o) t ≡ Some r → said r.awaits r.x r.o ≡ Some d
    → (diagram m x o ≡ d) × ((n : ℕ) × (t ≡ replicate n blank))
unfolding led
blanks_end [] m x o r d e s =
    let k : reader (Blanks m) x o ≡ r = cc in
    let q : Some (diagram m x o) ≡ Some d = ap (λ (u : Reader). said u.awaits u.x u.o) k ∙ s in
    (cc, (0, refl))
blanks_end (b ∷ t) m x o r d e s =
    by_test (eqb b blank) (reader (Blanks m) x o) None (λ u. led form u t) r e
    (λ c k. let i = blanks_end t m x o r d k s in
    (i.0, (suc i.1.0, ap₂ (λ (y : ℕ) (ys : List ℕ). y ∷ ys) (eqb-true b blank c) i.1.1)))
    (never r)

mover_end : (t : List ℕ) (x o : ℕ) (r : Reader) (d : Diagram)
    → led form (reader Mover x o) t ≡ Some r → said r.awaits r.x r.o ≡ Some d → Ends t x o d (λ m. letter m ∷ [])
unfolding led
mover_end [] x o r d e s =
    let k : reader Mover x o ≡ r = cc in
    never d (ap (λ (u : Reader). said u.awaits u.x u.o) k ∙ s)
mover_end (b ∷ t) x o r d e s =
    by_test (eqb b 'X') (reader (Blanks X) x o) _ (λ u. led form u t) r e (λ c k. ended X (eqb-true b 'X' c) (blanks_end t X x o r d k s))
    (λ f. by_test (eqb b 'O') (reader (Blanks O) x o) None (λ u. led form u t) r f (λ c k. ended O (eqb-true b 'O' c) (blanks_end t O x o r d k s)) (never r))
  where
    ended : (m : Side) → b ≡ letter m → (diagram m x o ≡ d) × ((n : ℕ) × (t ≡ replicate n blank)) → Ends (b ∷ t) x o d (λ m. letter m ∷ [])
    ended m c i = record { side = m; blanks = i.1.0; is = i.0; text = ap₂ (λ (y : ℕ) (ys : List ℕ). y ∷ ys) c i.1.1 }

gap_end : (t : List ℕ) (x o : ℕ) (r : Reader) (d : Diagram)
    → led form (reader Gap x o) t ≡ Some r → said r.awaits r.x r.o ≡ Some d → Ends t x o d (λ m. blank ∷ letter m ∷ [])
unfolding led
gap_end [] x o r d e s =
    let k : reader Gap x o ≡ r = cc in
    never d (ap (λ (u : Reader). said u.awaits u.x u.o) k ∙ s)
gap_end (b ∷ t) x o r d e s =
    by_test (eqb b blank) (reader Mover x o) None (λ u. led form u t) r e
    (λ c k. let i = mover_end t x o r d k s in
    record { side = i.side; blanks = i.blanks; is = i.is; text = ap₂ (λ (y : ℕ) (ys : List ℕ). y ∷ ys) (eqb-true b blank c) i.text })
    (never r)

-- ---- the squares

-- with n squares to come from s on
due : ℕ → ℕ → Awaits
due zero s = Gap
due (suc n) s = Square s

past-due : (n s : ℕ) → s + suc n ≡ 64 → past s ≡ due n (s + 1)
unfolding due
past-due zero s h = let e : ltb s 63 ≡ false = grind (arith, nat_tests) in ap (λ (b : Bool). cond b (Square (s + 1)) Gap) e
past-due (suc n) s h = let e : ltb s 63 ≡ true = grind (arith, nat_tests) in ap (λ (b : Bool). cond b (Square (s + 1)) Gap) e

-- no disc from s on
Clear : ℕ → ℕ → Type 0
Clear s w = (q : ℕ) → s ≤ q → bit w q ≡ false

-- what the rest of a text says from the square s on, where x and o hold the discs before it
record Rest (n s x o : ℕ) (t : List ℕ) (d : Diagram) : Type 0 where
  side : Side
  blanks : ℕ
  all_x : ℕ
  all_o : ℕ
  is : diagram side all_x all_o ≡ d
  text : t ≡ map (mark all_x all_o) (range_with_len s n) ++ (blank ∷ letter side ∷ replicate blanks blank)
  kept_x : (q : ℕ) → q < s → bit all_x q ≡ bit x q
  kept_o : (q : ℕ) → q < s → bit all_o q ≡ bit o q
  apart : (q : ℕ) → s ≤ q → (bit all_x q && bit all_o q) ≡ false
  fits_x : all_x < 2 ^ 64
  fits_o : all_o < 2 ^ 64

-- one more square at the front
one_more : (n s x o y p b : ℕ) (t : List ℕ) (d : Diagram)
    → ((q : ℕ) → q < s → bit y q ≡ bit x q) → ((q : ℕ) → q < s → bit p q ≡ bit o q)
    → mark y p s ≡ b → (bit y s && bit p s) ≡ false
    → Rest n (s + 1) y p t d → Rest (suc n) s x o (b ∷ t) d
one_more n s x o y p b t d kx ko m a i =
    let hx : bit i.all_x s ≡ bit y s = i.kept_x s (omega arith) in
    let ho : bit i.all_o s ≡ bit p s = i.kept_o s (omega arith) in
    record {
      side = i.side;
      blanks = i.blanks;
      all_x = i.all_x;
      all_o = i.all_o;
      is = i.is;
      text = ap₂ (λ (z : ℕ) (zs : List ℕ). z ∷ zs)
          (sym m ∙ ap₂ (λ (u v : Bool). cond u 'X' (cond v 'O' dot)) (sym hx) (sym ho)) i.text;
      kept_x = λ q h. i.kept_x q (omega arith) ∙ kx q h;
      kept_o = λ q h. i.kept_o q (omega arith) ∙ ko q h;
      apart = λ q h. elim (cases_eq q s) [
        | inl e ↦ ap (λ (k : ℕ). bit i.all_x k && bit i.all_o k) e ∙ ap₂ (λ (u v : Bool). u && v) hx ho ∙ a
        | inr l ↦ i.apart q (omega arith)
      ];
      fits_x = i.fits_x;
      fits_o = i.fits_o;
    }

-- a disc on s
here : (x s : ℕ) → bit (bit_or x (2 ^ s)) s ≡ true
here x s = bit-or x (2 ^ s) s ∙ or_right (bit x s) (bit (2 ^ s) s) (bit-single s s ∙ eq-eqb s s refl)

elsewhere : (x s q : ℕ) → (s ≡ q → ⊥) → bit (bit_or x (2 ^ s)) q ≡ bit x q
elsewhere x s q h = bit-or x (2 ^ s) q ∙ ap (λ (b : Bool). bit x q || b) (bit-single s q ∙ ne_eqb s q h) ∙ or-false (bit x q)

clear_disc : (x s : ℕ) → Clear s x → Clear (s + 1) (bit_or x (2 ^ s))
unfolding Clear
clear_disc x s c q h = elsewhere x s q (λ e. omega arith) ∙ c q (omega arith)

clear_none : (x s : ℕ) → Clear s x → Clear (s + 1) x
unfolding Clear
clear_none x s c q h = c q (omega arith)

clear-here : (x s : ℕ) → Clear s x → bit x s ≡ false
unfolding Clear
clear-here x s c = c s (omega arith)

clear_at : (x s q : ℕ) → Clear s x → s ≤ q → bit x q ≡ false
unfolding Clear
clear_at x s q c h = c q h

disc_fits : (x s : ℕ) → x < 2 ^ 64 → s < 64 → bit_or x (2 ^ s) < 2 ^ 64
disc_fits x s h k = or_lt 64 x (2 ^ s) h (pow-lt {j = 64} k)

marks : (u v : Bool) (a b : Bool) → u ≡ a → v ≡ b → cond u 'X' (cond v 'O' dot) ≡ cond a 'X' (cond b 'O' dot)
marks u v a b e f = ap₂ (λ (u v : Bool). cond u 'X' (cond v 'O' dot)) e f

rest : (n s x o : ℕ) (t : List ℕ) (r : Reader) (d : Diagram)
    → s + n ≡ 64 → Clear s x → Clear s o → x < 2 ^ 64 → o < 2 ^ 64
    → led form (reader (due n s) x o) t ≡ Some r → said r.awaits r.x r.o ≡ Some d → Rest n s x o t d
unfolding led due
rest zero s x o t r d h cx co hx ho e g =
    let i = gap_end t x o r d e g in
    record {
      side = i.side;
      blanks = i.blanks;
      all_x = x;
      all_o = o;
      is = i.is;
      text = i.text;
      kept_x = λ q l. refl;
      kept_o = λ q l. refl;
      apart = λ q l. and_left (bit x q) (bit o q) (clear_at x s q cx l);
      fits_x = hx;
      fits_o = ho;
    }
rest (suc n) s x o [] r d h cx co hx ho e g =
    let k : reader (Square s) x o ≡ r = cc in
    never d (ap (λ (u : Reader). said u.awaits u.x u.o) k ∙ g)
rest (suc n) s x o (b ∷ t) r d h cx co hx ho e g =
    let next : (y p : ℕ) → Clear (s + 1) y → Clear (s + 1) p → y < 2 ^ 64 → p < 2 ^ 64
    → led form (reader (past s) y p) t ≡ Some r → Rest n (s + 1) y p t d =
    λ y p cy cp hy hp k. rest n (s + 1) y p t r d (omega arith) cy cp hy hp
    (subst (λ (w : Awaits). led form (reader w y p) t ≡ Some r) (past-due n s h) k) g in
    by_test (eqb b 'X') (reader (past s) (bit_or x (2 ^ s)) o) _ (λ u. led form u t) r e
    (λ c k. one_more n s x o (bit_or x (2 ^ s)) o b t d (λ q l. elsewhere x s q (λ z. omega arith)) (λ q l. refl)
    (marks _ _ true (bit o s) (here x s) refl ∙ sym (eqb-true b 'X' c)) (and_right _ _ (clear-here o s co))
    (next (bit_or x (2 ^ s)) o (clear_disc x s cx) (clear_none o s co) (disc_fits x s hx (omega arith)) ho k))
    (λ f. by_test (eqb b 'O') (reader (past s) x (bit_or o (2 ^ s))) _ (λ u. led form u t) r f
    (λ c k. one_more n s x o x (bit_or o (2 ^ s)) b t d (λ q l. refl) (λ q l. elsewhere o s q (λ z. omega arith))
    (marks _ _ false true (clear-here x s cx) (here o s) ∙ sym (eqb-true b 'O' c)) (and_left _ _ (clear-here x s cx))
    (next x (bit_or o (2 ^ s)) (clear_none x s cx) (clear_disc o s co) hx (disc_fits o s ho (omega arith)) k))
    (λ f. by_test (eqb b dot) (reader (past s) x o) None (λ u. led form u t) r f
    (λ c k. one_more n s x o x o b t d (λ q l. refl) (λ q l. refl)
    (marks _ _ false false (clear-here x s cx) (clear-here o s co) ∙ sym (eqb-true b dot c)) (and_left _ _ (clear-here x s cx))
    (next x o (clear_none x s cx) (clear_none o s co) hx ho k))
    (never r)))

-- ---- what is read is the text of a diagram

-- no bit in both words, and the words have no bit in common
pub apart-word : (x o : ℕ) → x < 2 ^ 64 → ((q : ℕ) → q < 64 → (bit x q && bit o q) ≡ false) → bit_and x o ≡ 0
apart-word x o h a =
    bit_ext 64 (bit_and x o) 0 (omega (arith, and_le_l x o)) (omega arith) (λ q k. bit-and x o q ∙ a q k ∙ sym (bit-none q))

pub apart_bits : (x o q : ℕ) → bit_and x o ≡ 0 → (bit x q && bit o q) ≡ false
apart_bits x o q e = sym (bit-and x o q) ∙ ap (λ (w : ℕ). bit w q) e ∙ bit-none q

pub stands : (t : List ℕ) (d : Diagram) → Says form t d → Stands t d
unfolding due Clear squares
stands t d w =
    let i = rest 64 0 0 0 t w.0 d refl (λ q h. bit-none q) (λ q h. bit-none q) (omega arith) (omega arith) w.1.0 w.1.1 in
    subst (Stands t) i.is
    (record {
      sound = record {
        apart = apart-word i.all_x i.all_o i.fits_x (λ q h. i.apart q (omega arith));
        x_fits = i.fits_x;
        o_fits = i.fits_o;
      };
      blanks = i.blanks;
      text = i.text
          ∙ sym (append_assoc (squares i.all_x i.all_o) (blank ∷ letter i.side ∷ []) (replicate i.blanks blank));
    })

-- ---- each text of a diagram is read

Taken : Reader → List ℕ → Type 0
Taken s t = (r : Reader) × ((d : Diagram) × ((led form s t ≡ Some r) × (said r.awaits r.x r.o ≡ Some d)))

blanks-taken : (m : Side) (x o k : ℕ) → led form (reader (Blanks m) x o) (replicate k blank) ≡ Some (reader (Blanks m) x o)
unfolding led
blanks-taken m x o zero = refl
blanks-taken m x o (suc k) = blanks-taken m x o k

end_taken : (m : Side) (x o k : ℕ) → Taken (reader Gap x o) (blank ∷ letter m ∷ replicate k blank)
unfolding led Taken
end_taken X x o k = (reader (Blanks X) x o, (diagram X x o, (blanks-taken X x o k, refl)))
end_taken O x o k = (reader (Blanks O) x o, (diagram O x o, (blanks-taken O x o k, refl)))

square-taken : (u v : Bool) (s x o : ℕ) (t : List ℕ) → ((y p : ℕ) → Taken (reader (past s) y p) t)
    → Taken (reader (Square s) x o) (cond u 'X' (cond v 'O' dot) ∷ t)
unfolding led Taken
square-taken true v s x o t f = f (bit_or x (2 ^ s)) o
square-taken false true s x o t f = f x (bit_or o (2 ^ s))
square-taken false false s x o t f = f x o

taken : (n s x o a b k : ℕ) (m : Side) → s + n ≡ 64
    → Taken (reader (due n s) x o) (map (mark a b) (range_with_len s n) ++ (blank ∷ letter m ∷ replicate k blank))
unfolding due
taken zero s x o a b k m h = end_taken m x o k
taken (suc n) s x o a b k m h =
    square-taken (bit a s) (bit b s) s x o _
    (λ y p. subst (λ (w : Awaits). Taken (reader w y p) (map (mark a b) (range_with_len (s + 1) n) ++ (blank ∷ letter m ∷ replicate k blank)))
    (sym (past-due n s h)) (taken n (s + 1) y p a b k m (omega arith)))

-- ---- a text stands for one diagram

apart_lists : (n a : ℕ) (f g : ℕ → ℕ) (u v : List ℕ)
    → map f (range_with_len a n) ++ u ≡ map g (range_with_len a n) ++ v
    → ((q : ℕ) → a ≤ q → q < a + n → f q ≡ g q) × (u ≡ v)
apart_lists zero a f g u v e = (λ q h k. absurd (omega arith), e)
apart_lists (suc n) a f g u v e =
    let i = apart_lists n (a + 1) f g u v (cc) in
    let z : f a ≡ g a = cc in
    (λ q h k. elim (cases_eq q a) [ inl l ↦ ap f l ∙ z ∙ ap g (sym l) | inr l ↦ i.0 q (omega arith) (omega arith) ], i.1)

same-mark : (a b c d : Bool) → (a && b) ≡ false → (c && d) ≡ false
    → cond a 'X' (cond b 'O' dot) ≡ cond c 'X' (cond d 'O' dot) → (a ≡ c) × (b ≡ d)
same-mark a b c d p q e = grind (arith, nat_tests)

same-letter : (m k : Side) → letter m ≡ letter k → m ≡ k
same-letter X X e = refl
same-letter X O e = absurd (omega arith)
same-letter O X e = absurd (omega arith)
same-letter O O e = refl

joined-text : (t : List ℕ) (d : Diagram) (w : Stands t d)
    → t ≡ squares d.x d.o ++ (blank ∷ letter d.mover ∷ replicate w.blanks blank)
joined-text t d w = w.text ∙ append_assoc (squares d.x d.o) (blank ∷ letter d.mover ∷ []) (replicate w.blanks blank)

pub unique : (t : List ℕ) (d e : Diagram) → Stands t d → Stands t e → d ≡ e
unfolding squares
unique t d e v w =
    let i = apart_lists 64 0 (mark d.x d.o) (mark e.x e.o) _ _ (sym (joined-text t d v) ∙ joined-text t e w) in
    let m : d.mover ≡ e.mover = same-letter d.mover e.mover (let z = i.1 in cc) in
    let bits : (q : ℕ) → q < 64 → (bit d.x q ≡ bit e.x q) × (bit d.o q ≡ bit e.o q) =
    λ q h. same-mark _ _ _ _ (apart_bits d.x d.o q v.sound.apart) (apart_bits e.x e.o q w.sound.apart)
    (i.0 q (omega arith) (omega arith)) in
    let x : d.x ≡ e.x = bit_ext 64 _ _ v.sound.x_fits w.sound.x_fits (λ q h. (bits q h).0) in
    let o : d.o ≡ e.o = bit_ext 64 _ _ v.sound.o_fits w.sound.o_fits (λ q h. (bits q h).1) in
    ap (λ (k : Side). diagram k d.x d.o) m ∙ ap₂ (λ (y p : ℕ). diagram e.mover y p) x o

pub says : (t : List ℕ) (d : Diagram) → Stands t d → Says form t d
unfolding Taken squares due
says t d w =
    let k : Taken (reader (Square 0) 0 0) t =
    subst (Taken (reader (Square 0) 0 0)) (sym (joined-text t d w)) (taken 64 0 0 0 d.x d.o w.blanks d.mover refl) in
    let s : Says form t k.1.0 = (k.0, (k.1.1.0, k.1.1.1)) in
    subst (Says form t) (unique t k.1.0 d (stands t k.1.0 s) w) s
