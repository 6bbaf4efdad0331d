-- The place where reading stops is the place where the text departs from the form.
use Rattle.std.proofs.Common.{◌≡◌, ℕ, zero, suc, ◌+◌, ◌<◌, ◌≤◌, List, [], ◌∷◌, ◌++◌, length, get_or, take, Some, None, Ok, Err, Option, Result, sym, refl, ap, ◌∙◌, subst, inl, inr, add-zero, zero-add, arith, MatchResult}
use Rattle.std.specs.Option.{ok_or}
use Rattle.std.proofs.lemmas.Bool.{cases_order}
use Rattle.std.proofs.lemmas.List.{append_assoc, append-nil, take_all}
use Rattle.form.specs.Forms.{Begins, Departs, Form, given, led, Says, TextsOf, reading_from, reading, Lively}

-- a text after another
pub led-append : {S A : Type 0} (f : Form S A) (s : S) (x y : List ℕ) → led f s (x ++ y) ≡ given (led f s x) None (λ u. led f u y)
unfolding led
led-append f s [] y = refl
led-append f s (b ∷ x) y =
    elim (f.next s b) as (λ o. given o None (λ u. led f u (x ++ y)) ≡ given (given o None (λ u. led f u x)) None (λ u. led f u y))
    [ None ↦ refl | Some u ↦ led-append f u x y ]

pub led_on : {S A : Type 0} (f : Form S A) (s u : S) (x y : List ℕ) → led f s x ≡ Some u → led f s (x ++ y) ≡ led f u y
led_on {S} f s u x y e = led-append f s x y ∙ ap (λ (o : Option S). given o None (λ u. led f u y)) e

pub led-more : {S A : Type 0} (f : Form S A) (s u : S) (x : List ℕ) (b : ℕ) → led f s x ≡ Some u → led f s (x ++ b ∷ []) ≡ f.next u b
unfolding led
led-more {S} f s u x b e = led_on f s u x (b ∷ []) e ∙ at (f.next u b)
  where
    at : (o : Option S) → given o None (λ v. Some v) ≡ o
    at None = refl
    at (Some v) = refl

pub never : {S X : Type 0} (u : S) → None ≡ Some u → X
never u e = let z : ◌≡◌ {A = ℕ} 0 1 = cc in absurd (omega arith)

-- what reading gives, from what it has come to
module _ {S A : Type 0} (f : Form S A) where
  pub stopped : (n : ℕ) (s : S) (t : List ℕ) (u : S) (i : ℕ)
      → led f s (take i t) ≡ Some u → i < length t → f.next u (get_or t i 0) ≡ None → reading_from f n s t ≡ Err (n + i)
  unfolding led reading_from
  stopped n s [] u i e h z = absurd (omega arith)
  stopped n s (b ∷ t) u zero e h z =
      let k : s ≡ u = cc in
      ap (λ (o : Option S). given o (Err n) (λ v. reading_from f (suc n) v t)) (ap (λ (v : S). f.next v b) k ∙ z) ∙ ap Err (sym (add-zero n))
  stopped n s (b ∷ t) u (suc i) e h z =
      elim (f.next s b) as (λ o. given o None (λ v. led f v (take i t)) ≡ Some u → given o (Err n) (λ v. reading_from f (suc n) v t) ≡ Err (n + suc i))
      [ None ↦ never u | Some v ↦ λ k. stopped (suc n) v t u i k (omega arith) z ∙ ap Err (omega arith) ] e

  pub finished : (n : ℕ) (s : S) (t : List ℕ) (u : S)
      → led f s t ≡ Some u → reading_from f n s t ≡ given (f.content u) (Err (n + length t)) (λ a. Ok a)
  unfolding led reading_from
  finished n s [] u e =
      let k : s ≡ u = cc in
      ap (λ (v : S). given (f.content v) (Err n) (λ a. Ok a)) k ∙ ap (λ (m : ℕ). given (f.content u) (Err m) (λ a. Ok a)) (sym (add-zero n))
  finished n s (b ∷ t) u e =
      elim (f.next s b)
      as (λ o. given o None (λ v. led f v t) ≡ Some u
      → given o (Err n) (λ v. reading_from f (suc n) v t) ≡ given (f.content u) (Err (n + suc (length t))) (λ a. Ok a)) [
        | None ↦ never u
        | Some v ↦ λ k. finished (suc n) v t u k ∙ ap (λ (m : ℕ). given (f.content u) (Err m) (λ a. Ok a)) (omega arith)
      ] e

-- what more of a text is than its part before the place i
split : (t : List ℕ) (i m : ℕ) → i < m → i < length t → (y : List ℕ) × (take m t ≡ take i t ++ get_or t i 0 ∷ y)
split [] i m h k = absurd (omega arith)
split (b ∷ t) i zero h k = absurd (omega arith)
split (b ∷ t) zero (suc m) h k = (take m t, refl)
split (b ∷ t) (suc i) (suc m) h k = let r = split t i m (omega arith) (omega arith) in (r.0, ap (λ (x : List ℕ). b ∷ x) r.1)

module _ {S A : Type 0} (f : Form S A) (Fit : S → Type 0) (l : Lively f Fit) where
  begins : (x : List ℕ) (u : S) → led f f.first x ≡ Some u → Fit u → Begins (TextsOf f) x
  begins x u e h =
      let w = l.lives u h in
      (w.0, (w.1.1.0, (w.1.0, (led_on f f.first u x w.0 e ∙ w.1.1.1.0, w.1.1.1.1))))

  stuck : (x : List ℕ) (u : S) (b : ℕ) (y : List ℕ) → led f f.first x ≡ Some u → f.next u b ≡ None → Begins (TextsOf f) (x ++ b ∷ y) → ⊥
  unfolding led
  stuck x u b y e z w =
      never w.1.1.0
      (sym (ap (λ (o : Option S). given o None (λ v. led f v (y ++ w.0))) z)
      ∙ sym (led_on f f.first u x (b ∷ (y ++ w.0)) e)
      ∙ ap (led f f.first) (sym (append_assoc x (b ∷ y) w.0))
      ∙ w.1.1.1.0)

  -- a byte with which the state does not go on
  pub departs_at : (t : List ℕ) (i : ℕ) (u : S)
      → led f f.first (take i t) ≡ Some u → Fit u → i < length t → f.next u (get_or t i 0) ≡ None → Departs (TextsOf f) t i
  departs_at t i u e h k z =
      let further : (m : ℕ) → i < m → m ≤ length t → Begins (TextsOf f) (take m t) → ⊥ =
      λ m hm hl w. let r = split t i m hm k in stuck (take i t) u (get_or t i 0) r.0 e z (subst (Begins (TextsOf f)) r.1 w) in
      record {
        other = λ w. further (length t) k (omega arith)
            ([], subst (TextsOf f) (sym (append-nil (take (length t) t) ∙ take_all (length t) t (omega arith))) w);
        within = omega arith;
        so_far = begins (take i t) u e h;
        no_further = further;
      }

  -- the end of the text, where it may not end
  pub departs_end : (t : List ℕ) (u : S)
      → led f f.first t ≡ Some u → Fit u → f.content u ≡ None → Departs (TextsOf f) t (length t)
  departs_end t u e h z =
      record {
        other = λ w. clash w.0 w.1.0 w.1.1.0 w.1.1.1;
        within = omega arith;
        so_far = subst (Begins (TextsOf f)) (sym (take_all (length t) t (omega arith))) (begins t u e h);
        no_further = λ m hm hl w. omega arith;
      }
    where
      clash : (a : A) (s : S) → led f f.first t ≡ Some s → f.content s ≡ Some a → ⊥
      clash a s p q =
          let k : s ≡ u = cc in
          never a (sym z ∙ ap f.content (sym k) ∙ q)

  -- what reading gives at the end of the text
  pub read_end : (t : List ℕ) (u : S) → led f f.first t ≡ Some u → Fit u → (o : Option A) → f.content u ≡ o
      → (ok_or o (length t) ≡ reading f t) × MatchResult (ok_or o (length t)) (λ a. Says f t a) (λ n. Departs (TextsOf f) t n)
  read_end t u e h None z =
      (sym (finished f 0 f.first t u e ∙ ap (λ o. given o (Err (0 + length t)) (λ a. Ok a)) z ∙ ap Err (zero-add (length t))), departs_end t u e h z)
  read_end t u e h (Some a) z =
      (sym (finished f 0 f.first t u e ∙ ap (λ o. given o (Err (0 + length t)) (λ a. Ok a)) z), (u, (e, z)))

-- what a text says is read
pub reading_says : {S A : Type 0} (f : Form S A) (t : List ℕ) (a : A) → Says f t a → reading f t ≡ Ok a
reading_says f t a w =
    finished f 0 f.first t w.0 w.1.0 ∙ ap (λ o. given o (Err (0 + length t)) (λ b. Ok b)) w.1.1

-- what is read is what the text says
pub says_reading : {S A : Type 0} (f : Form S A) (t : List ℕ) (a : A) → reading f t ≡ Ok a → Says f t a
unfolding led reading_from
says_reading {S} {A} f t a e = from 0 f.first t e
  where
    failed : {X : Type 0} (n : ℕ) → Err n ≡ Ok a → X
    failed n k = let z : ◌≡◌ {A = ℕ} 0 1 = cc in absurd (omega arith)

    ends : (n : ℕ) (s : S) (o : Option A) → f.content s ≡ o → given o (Err n) (λ b. Ok b) ≡ Ok a → f.content s ≡ Some a
    ends n s None g k = failed n k
    ends n s (Some b) g k = g ∙ (let h : Some b ≡ Some a = cc in h)

    from : (n : ℕ) (s : S) (t : List ℕ) → reading_from f n s t ≡ Ok a → (u : S) × ((led f s t ≡ Some u) × (f.content u ≡ Some a))
    from n s [] k = (s, (refl, ends n s (f.content s) refl k))
    from n s (b ∷ t) k =
        elim (f.next s b)
        as (λ o. given o (Err n) (λ v. reading_from f (suc n) v t) ≡ Ok a → (u : S) × ((given o None (λ v. led f v t) ≡ Some u) × (f.content u ≡ Some a)))
        [ None ↦ failed n | Some v ↦ from (suc n) v t ] k

pub one_place : (P : List ℕ → Type 0) (t : List ℕ) (m n : ℕ) → Departs P t m → Departs P t n → m ≡ n
one_place P t m n d e =
    elim (cases_order m n) [
      | inl z ↦ z
      | inr (inl z) ↦ absurd (d.no_further n z e.within e.so_far)
      | inr (inr z) ↦ absurd (e.no_further m z d.within d.so_far)
    ]

-- what reading gives, in other words for what a text of the form says
module _ {S A : Type 0} (f : Form S A) (Stands : List ℕ → A → Type 0)
    (to : (t : List ℕ) (a : A) → Says f t a → Stands t a) (from : (t : List ℕ) (a : A) → Stands t a → Says f t a) where
  abbrev pub Texts : List ℕ → Type 0
  Texts t = (a : A) × Stands t a

  -- a text departs from the same texts at the same place
  departs_so : (t : List ℕ) (n : ℕ) → Departs (TextsOf f) t n → Departs Texts t n
  departs_so t n d = record {
    other = λ w. d.other (w.0, from t w.0 w.1);
    within = d.within;
    so_far = (d.so_far.0, (d.so_far.1.0, to (take n t ++ d.so_far.0) d.so_far.1.0 d.so_far.1.1));
    no_further = λ m h k w. d.no_further m h k (w.0, (w.1.0, from (take m t ++ w.0) w.1.0 w.1.1));
  }

  pub read_so : (t : List ℕ) (r : Result A ℕ) → r ≡ reading f t → MatchResult r (λ a. Says f t a) (λ n. Departs (TextsOf f) t n)
      → MatchResult r (λ a. Stands t a) (λ n. Departs Texts t n) × ((a : A) → Stands t a → r ≡ Ok a) × ((n : ℕ) → Departs Texts t n → r ≡ Err n)
  read_so t (Ok b) e m =
      (to t b m, (λ a w. e ∙ reading_says f t a (from t a w)), (λ n d. absurd (d.other (b, to t b m))))
  read_so t (Err k) e m =
      (departs_so t k m, (λ a w. e ∙ reading_says f t a (from t a w)), (λ n d. ap Err (one_place Texts t k n (departs_so t k m) d)))
