-- Lines that are written into a buffer are read again, and nothing else is read as lines.
use Rattle.std.proofs.Common.{◌≡◌, ℕ, zero, suc, ◌+◌, ◌-◌, ◌*◌, ◌/◌, ◌%◌, ◌<◌, Bool, true, false, cond, ◌&&◌, eqb, leb, List, [], ◌∷◌, ◌++◌, length, get_or, take, drop, Some, None, Option, sym, refl, ap, ◌∙◌, append_assoc, arith, eq-eqb, eqb-true}
use Rattle.std.specs.List.{AllByRecursion}
use Rattle.std.proofs.Math.Seq.{take-add}
use Rattle.std.proofs.lemmas.Bool.{le-leb, leb-true}
use Rattle.std.proofs.lemmas.List.{take_at, drop_at}
use Rattle.solution_laws.specs.declared.sign.Sign.{Sign}
use Rattle.solution_laws.specs.declared.sign.Sign.TheVariants.{Chosen, Other, Reply}
use Rattle.solution_laws.specs.Lines.{Line, mark, bytes, all_bytes, sign_of, digit_of, line_from, line_of, before_them, lines_in, Fits, LinesAreRead, OnlyLinesAreRead}
use Rattle.solution_laws.proofs.Clash.{clash}

-- what is written is read

sign-back : (s : Sign) → sign_of (mark s) ≡ Some s
sign-back Chosen = refl
sign-back Other = refl
sign-back Reply = refl

digit-back : (d : ℕ) → d < 10 → digit_of (48 + d) ≡ Some d
digit-back d h =
    let low = le-leb 48 (48 + d) (omega arith) in
    let high = le-leb (48 + d) 57 (omega arith) in
    let less : 48 + d - 48 ≡ d = omega arith in
    simp (low, high) (ap Some less)

line-back : (l : Line) → Fits l → line_of (bytes l) ≡ Some l
line-back l f =
    let tens = digit-back (l.ply / 10) (omega (arith, f.0)) in
    let ones = digit-back (l.ply % 10) (omega arith) in
    let p : 10 * (l.ply / 10) + l.ply % 10 ≡ l.ply = omega arith in
    simp (tens, ones, sign-back l.sign, eq-eqb (length l.text) 5 f.1) (λ i. Some (record { ply = p i; sign = l.sign; text = l.text }))

read_back : (ls : List Line) (rest : List ℕ) → AllByRecursion Fits ls → lines_in (length ls) (all_bytes ls ++ rest) ≡ Some ls
read_back [] rest f = refl
read_back (l ∷ ls) rest f =
    let n : length (bytes l) ≡ 8 = omega (arith, f.0.1) in
    let e = append_assoc (bytes l) (all_bytes ls) rest in
    let t : take 8 ((bytes l ++ all_bytes ls) ++ rest) ≡ bytes l = ap (take 8) e ∙ take_at (bytes l) (all_bytes ls ++ rest) 8 n in
    let d : drop 8 ((bytes l ++ all_bytes ls) ++ rest) ≡ all_bytes ls ++ rest = ap (drop 8) e ∙ drop_at (bytes l) (all_bytes ls ++ rest) 8 n in
    let a : line_of (take 8 ((bytes l ++ all_bytes ls) ++ rest)) ≡ Some l = ap line_of t ∙ line-back l f.0 in
    let b : lines_in (length ls) (drop 8 ((bytes l ++ all_bytes ls) ++ rest)) ≡ Some ls = ap (lines_in (length ls)) d ∙ read_back ls rest f.1 in
    λ i. before_them (a i) (b i)

pub lines_are_read_lem : LinesAreRead
lines_are_read_lem ls before f = read_back ls (drop (8 * length ls) before) f

-- what is read was written

sign-some : (c : ℕ) (s : Sign) → sign_of c ≡ Some s → c ≡ mark s
sign-some c s h = go (eqb c 33) (eqb c 43) (eqb c 46) refl refl refl h
  where
    go : (u v w : Bool) → eqb c 33 ≡ u → eqb c 43 ≡ v → eqb c 46 ≡ w → cond u (Some Chosen) (cond v (Some Other) (cond w (Some Reply) None)) ≡ Some s → c ≡ mark s
    go true v w p q r e = let z : Chosen ≡ s = cc in eqb-true c 33 p ∙ ap mark z
    go false true w p q r e = let z : Other ≡ s = cc in eqb-true c 43 q ∙ ap mark z
    go false false true p q r e = let z : Reply ≡ s = cc in eqb-true c 46 r ∙ ap mark z
    go false false false p q r e = clash (cc)

digit-some : (c d : ℕ) → digit_of c ≡ Some d → (c ≡ 48 + d) × (d < 10)
digit-some c d h = go (leb 48 c) (leb c 57) refl refl h
  where
    go : (u v : Bool) → leb 48 c ≡ u → leb c 57 ≡ v → cond (u && v) (Some (c - 48)) None ≡ Some d → (c ≡ 48 + d) × (d < 10)
    go true true p q e = let low = leb-true 48 c p in let high = leb-true c 57 q in let z : c - 48 ≡ d = cc in (omega arith, omega arith)
    go true false p q e = clash (cc)
    go false v p q e = clash (cc)

-- what a line was read from
record Said (o o' : Option ℕ) (q : Option Sign) (x : List ℕ) (l : Line) : Type 0 where
  pub tens : ℕ
  pub ones : ℕ
  pub first : o ≡ Some tens
  pub second : o' ≡ Some ones
  pub third : q ≡ Some l.sign
  pub ply : l.ply ≡ 10 * tens + ones
  pub text : x ≡ l.text
  pub long : length l.text ≡ 5

said : (o o' : Option ℕ) (q : Option Sign) (text : List ℕ) (l : Line) → line_from o o' q text ≡ Some l → Said o o' q text l
said None o' q text l e = clash (cc)
said (Some a) None q text l e = clash (cc)
said (Some a) (Some b) None text l e = clash (cc)
said (Some a) (Some b) (Some s) text l e = go (eqb (length text) 5) refl e
  where
    go : (v : Bool) → eqb (length text) 5 ≡ v → cond v (Some (record { ply = 10 * a + b; sign = s; text = text })) None ≡ Some l → Said (Some a) (Some b) (Some s) text l
    go true p z =
        let k : ◌≡◌ {A = Line} (record { ply = 10 * a + b; sign = s; text = text }) l = cc in
        let x : text ≡ l.text = ap (λ (m : Line). m.text) k in
        record {
          tens = a;
          ones = b;
          first = refl;
          second = refl;
          third = ap (λ (m : Line). Some m.sign) k;
          ply = sym (ap (λ (m : Line). m.ply) k);
          text = x;
          long = sym (ap length x) ∙ eqb-true (length text) 5 p;
        }
    go false p z = clash (cc)

line-some : (bs : List ℕ) (l : Line) → line_of bs ≡ Some l → Fits l × (bs ≡ bytes l)
line-some bs l e = go bs (said (digit_of (get_or bs 0 0)) (digit_of (get_or bs 1 0)) (sign_of (get_or bs 2 0)) (drop 3 bs) l e)
  where
    go : (bs : List ℕ) → Said (digit_of (get_or bs 0 0)) (digit_of (get_or bs 1 0)) (sign_of (get_or bs 2 0)) (drop 3 bs) l → Fits l × (bs ≡ bytes l)
    go [] s = let z = s.first in clash (cc)
    go (a ∷ []) s = let z = s.second in clash (cc)
    go (a ∷ (b ∷ [])) s = let z = s.third in clash (cc)
    go (a ∷ (b ∷ (c ∷ xs))) s =
        let p = digit-some a s.tens s.first in
        let q = digit-some b s.ones s.second in
        let r = sign-some c l.sign s.third in
        let d = s.ply in
        let tens : a ≡ 48 + l.ply / 10 = omega (arith, p.0, p.1, q.1, d) in
        let ones : b ≡ 48 + l.ply % 10 = omega (arith, q.0, p.1, q.1, d) in
        ((omega (arith, p.1, q.1, d), s.long), λ i. tens i ∷ (ones i ∷ (r i ∷ s.text i)))

before-some : (o : Option Line) (q : Option (List Line)) (ls : List Line) → before_them o q ≡ Some ls
    → (l : Line) × (ms : List Line) × (o ≡ Some l) × (q ≡ Some ms) × (ls ≡ l ∷ ms)
before-some None q ls e = clash (cc)
before-some (Some l) None ls e = clash (cc)
before-some (Some l) (Some ms) ls e = (l, ms, refl, refl, cc)

pub only_lines_are_read : OnlyLinesAreRead
only_lines_are_read zero bs ls e = let z : ls ≡ [] = cc in rw z (refl, tt, refl)
only_lines_are_read (suc n) bs ls e =
    let s = before-some (line_of (take 8 bs)) (lines_in n (drop 8 bs)) ls e in
    let first = line-some (take 8 bs) s.0 s.2 in
    let rest = only_lines_are_read n (drop 8 bs) s.1 s.3 in
    let m : 8 * suc n ≡ 8 + 8 * n = omega arith in
    let taken : take (8 * suc n) bs ≡ bytes s.0 ++ all_bytes s.1 = ap (λ k. take k bs) m ∙ take-add 8 (8 * n) bs ∙ (λ i. first.1 i ++ rest.2 i) in
    rw s.4 (ap suc rest.0, (first.0, rest.1), taken)
