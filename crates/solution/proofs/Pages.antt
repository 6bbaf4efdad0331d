-- Lines written one after another.
use Rattle.std.proofs.Common.{◌≡◌, ◌≢◌, ℕ, zero, suc, ◌+◌, ◌-◌, ◌/◌, ◌<◌, ◌≤◌, Bool, true, false, cond, eqb, List, [], ◌∷◌, ◌++◌, length, get_or, take, drop, Ok, Err, Result, sym, refl, ap, ◌∙◌, subst, ap₂, append_assoc, append-nil, arith, length-append, drop-cons, eq-eqb, ne_eqb}
use lib.Seq.{take-append-le}
use Rattle.std.proofs.lemmas.List.{drop_all}
use Rattle.std.specs.Result.{IsErr}
use Rattle.solution_laws.proofs.Clash.{clash}
use Rattle.solution_laws.specs.Lines.{Line, keys, duals}
use Rattle.solution_laws.specs.Solution.{other_line, others_from}
use Rattle.solution.specs.declared.page.Page.{Page}
use Rattle.solution.specs.declared.page.Full.{Full}
use Rattle.solution.specs.Pages.{put, laid, room, Written, Writes, other_at}

laid-join : (a b : List Line) (n : ℕ) (buffer : List ℕ) → laid (a ++ b) n buffer ≡ laid b (n + length a) (laid a n buffer)
laid-join [] b n buffer = ap (λ (m : ℕ). laid b m buffer) (let e : n ≡ n + 0 = omega arith in e)
laid-join (l ∷ a) b n buffer =
    let e : (n + 1) + length a ≡ n + suc (length a) = omega arith in
    laid-join a b (n + 1) (put n l buffer) ∙ ap (λ (m : ℕ). laid b m (laid a (n + 1) (put n l buffer))) e

keys-join : (a b : List Line) → keys (a ++ b) ≡ keys a + keys b
keys-join [] b = omega arith
keys-join (l ∷ a) b = let h = keys-join a b in omega arith

duals-join : (a b : List Line) → duals (a ++ b) ≡ duals a + duals b
duals-join [] b = omega arith
duals-join (l ∷ a) b = let h = duals-join a b in omega arith

pub take_past : {A : Type 0} (a b : List A) (n : ℕ) → length a ≤ n → take n (a ++ b) ≡ a ++ take (n - length a) b
take_past [] b n l = ap (λ (m : ℕ). take m b) (let e : n ≡ n - 0 = omega arith in e)
take_past (x ∷ a) b zero l = absurd (omega arith)
take_past {A = A} (x ∷ a) b (suc n) l =
    let h = take_past a b n (omega arith) in
    let e : n - length a ≡ suc n - suc (length a) = omega arith in
    ap (λ (y : List A). x ∷ y) (h ∙ ap (λ (m : ℕ). a ++ take m b) e)

pub written_none : (p : Page) → Written [] p p
written_none p = record { same = refl; long = refl; shown = refl; lines = omega arith; keys = omega arith; duals = omega arith }

pub written-join : {p p' p'' : Page} (a b : List Line) → Written a p p' → Written b p' p'' → Written (a ++ b) p p''
written-join {p = p} a b v w = record {
  same = w.same ∙ v.same;
  long = w.long ∙ v.long;
  shown = w.shown ∙ ap₂ (laid b) v.lines v.shown ∙ sym (laid-join a b p.lines p.buffer.now);
  lines = omega (arith, v.lines, w.lines, length-append a b);
  keys = omega (arith, v.keys, w.keys, keys-join a b);
  duals = omega (arith, v.duals, w.duals, duals-join a b);
}

pub room_after : {p p' : Page} (a : List Line) → Written a p p' → room p' ≡ room p - length a
room_after {p = p} {p' = p'} a v =
    let e : length p'.buffer.now / 8 ≡ length p.buffer.now / 8 = ap (λ (n : ℕ). n / 8) v.long in
    omega (arith, v.lines)

pub writes-on : {p p' p'' : Page} (a b : List Line) → Writes a p (Ok tt) p' → Writes b p' (Ok tt) p'' → Writes (a ++ b) p (Ok tt) p''
writes-on a b v w = (omega (arith, v.0, w.0, room_after a v.1, length-append a b), written-join a b v.1 w.1)

pub writes-cut : {p p' p'' : Page} {e : Full} (a b : List Line) → Writes a p (Ok tt) p' → Writes b p' (Err e) p'' → Writes (a ++ b) p (Err e) p''
writes-cut {p = p} {p' = p'} {p'' = p''} a b v w =
    let e = room_after a v.1 in
    let j = written-join a (take (room p') b) v.1 w.1 in
    let k = take_past a b (room p) v.0 in
    (omega (arith, v.0, w.0, length-append a b), subst (λ (x : List Line). Written x p p'') (ap (λ (n : ℕ). a ++ take n b) e ∙ sym k) j)

pub writes-stop : {p p' : Page} {e : Full} (a b : List Line) → Writes a p (Err e) p' → Writes (a ++ b) p (Err e) p'
writes-stop {p = p} {p' = p'} a b v =
    let n : room p ≤ length a = omega (arith, v.0) in
    (omega (arith, v.0, length-append a b), subst (λ (x : List Line). Written x p p') (sym (take-append-le (room p) a b n)) v.1)

pub writes-err : {p p' : Page} {e : Full} (ls : List Line) (r : Result (Unit {0}) Full) → IsErr r → Writes ls p (Err e) p' → Writes ls p r p'
writes-err ls (Ok u) h w = clash (cc)
writes-err ls (Err d) h w = w

-- the lines with `+`, one move further
module _ (k j : ℕ) (ws : List Bool) (xs : List (List ℕ)) where
  pub others_after : ℕ → List Line
  others_after i = others_from k j i (drop i ws) (drop i xs)

  pub others_step : (i : ℕ) → i < length ws → i < length xs → others_after i ≡ other_at k j i ws xs ++ others_after (i + 1)
  unfolding others_after
  others_step i m n =
      ap₂ (others_from k j i) (drop-cons ws i false m) (drop-cons xs i [] n) ∙ go (get_or ws i false) (eqb i j) (suc i) (drop (suc i) ws) (drop (suc i) xs) ∙ rest
    where
      go : (w v : Bool) (h : ℕ) (us : List Bool) (bs : List (List ℕ))
          → cond w (cond v (others_from k j h us bs) (other_line k (get_or xs i []) ∷ others_from k j h us bs)) (others_from k j h us bs)
          ≡ cond w (cond v [] (other_line k (get_or xs i []) ∷ [])) [] ++ others_from k j h us bs
      go true true h us bs = refl
      go true false h us bs = refl
      go false v h us bs = refl

      rest : other_at k j i ws xs ++ others_from k j (suc i) (drop (suc i) ws) (drop (suc i) xs) ≡ other_at k j i ws xs ++ others_from k j (i + 1) (drop (i + 1) ws) (drop (i + 1) xs)
      rest = ap (λ (h : ℕ). other_at k j i ws xs ++ others_from k j h (drop h ws) (drop h xs)) (let e : suc i ≡ i + 1 = omega arith in e)

  -- the lines with `+`, before the move of number i
  pub record Adding (i : ℕ) (p p' : Page) : Type 0 where
    pub so_far : List Line
    pub rest : others_after 0 ≡ so_far ++ others_after i
    pub writes : Writes so_far p (Ok tt) p'

  pub adding_next : {p p' p'' : Page} (i : ℕ) → i < length ws → i < length xs
      → Adding i p p' → Writes (other_at k j i ws xs) p' (Ok tt) p'' → Adding (i + 1) p p''
  adding_next i m n d v =
      record {
        so_far = d.so_far ++ other_at k j i ws xs;
        rest = d.rest ∙ ap (λ (x : List Line). d.so_far ++ x) (others_step i m n) ∙ sym (append_assoc d.so_far (other_at k j i ws xs) (others_after (i + 1)));
        writes = writes-on d.so_far (other_at k j i ws xs) d.writes v;
      }

  others_all : others_after 0 ≡ others_from k j 0 ws xs
  unfolding others_after
  others_all = refl

  no_others : (i : ℕ) → length ws ≤ i → others_after i ≡ []
  unfolding others_after
  no_others i l = ap (λ (u : List Bool). others_from k j i u (drop i xs)) (drop_all i ws l)

  pub adding_stop : {p p' p'' : Page} {e : Full} (i : ℕ) → i < length ws → i < length xs
      → Adding i p p' → Writes (other_at k j i ws xs) p' (Err e) p'' → Writes (others_from k j 0 ws xs) p (Err e) p''
  adding_stop {p = p} {p'' = p''} {e = e} i m n d v =
      let a = writes-cut d.so_far (other_at k j i ws xs ++ others_after (i + 1)) d.writes (writes-stop (other_at k j i ws xs) (others_after (i + 1)) v) in
      subst (λ (x : List Line). Writes x p (Err e) p'') (ap (λ (x : List Line). d.so_far ++ x) (sym (others_step i m n)) ∙ sym d.rest ∙ others_all) a

  pub adding_end : {p p' : Page} (i : ℕ) → length ws ≤ i → Adding i p p' → Writes (others_from k j 0 ws xs) p (Ok tt) p'
  adding_end {p = p} {p' = p'} i l d =
      let e : d.so_far ++ [] ≡ others_from k j 0 ws xs = ap (λ (x : List Line). d.so_far ++ x) (sym (no_others i l)) ∙ sym d.rest ∙ others_all in
      subst (λ (x : List Line). Writes x p (Ok tt) p') (sym (append-nil d.so_far) ∙ e) d.writes

  -- no line with `+` for a move that does not win, nor for the chosen one
  pub other_none : (i : ℕ) → (get_or ws i false ≡ true → i ≡ j) → other_at k j i ws xs ≡ []
  other_none i h = go (get_or ws i false) (eqb i j) (λ e. eq-eqb i j (h e))
    where
      go : (w v : Bool) → (w ≡ true → v ≡ true) → cond w (cond v [] (other_line k (get_or xs i []) ∷ [])) [] ≡ []
      go true true h = refl
      go true false h = let z = h refl in cc
      go false v h = refl

  pub other_some : (i : ℕ) → get_or ws i false ≡ true → i ≢ j → other_at k j i ws xs ≡ other_line k (get_or xs i []) ∷ []
  other_some i e d = go (get_or ws i false) (eqb i j) e (ne_eqb i j d)
    where
      go : (w v : Bool) → w ≡ true → v ≡ false → cond w (cond v [] (other_line k (get_or xs i []) ∷ [])) [] ≡ other_line k (get_or xs i []) ∷ []
      go true true e d = cc
      go true false e d = refl
      go false v e d = cc
