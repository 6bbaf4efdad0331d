-- Lists that are cut where n things fit.
use Rattle.std.proofs.Common.{◌≡◌, ℕ, ◌≤◌, List, ◌++◌, length, take, sym, ap, ◌∙◌, ⊎_elim, arith}
use Rattle.std.proofs.lemmas.Bool.{cases_lt}
use Rattle.std.proofs.lemmas.List.{take_all, take-append-le, length-take, append_assoc, take-take}

module _ {X : Type 0} (n : ℕ) where
  take_front : (xs ys : List X) → take n (take n xs ++ ys) ≡ take n (xs ++ ys)
  take_front xs ys =
      ⊎_elim
      (λ l. let s : length xs ≤ n = omega arith in ap (λ zs. take n (zs ++ ys)) (take_all n xs s))
      (λ (l : n ≤ length xs). let s : n ≤ length (take n xs) = simp length-take (omega arith) in
      take-append-le n (take n xs) ys s ∙ (take-take n n xs (omega arith) ∙ sym (take-append-le n xs ys l)))
      (cases_lt (length xs) n)

  pub cut_short : (es xs : List X) {l : List X} → l ≡ take n (es ++ xs) → length l ≤ n
  cut_short es xs e = let k = ap length e in let s = simp length-take at k in omega arith

  -- one more part of a list that is cut
  pub cut_more : (es xs ys : List X) {l r : List X} → l ≡ take n (es ++ xs) → r ≡ take n (l ++ ys) → r ≡ take n (es ++ (xs ++ ys))
  cut_more es xs ys e f =
      f ∙ (ap (λ zs. take n (zs ++ ys)) e ∙ (take_front (es ++ xs) ys ∙ ap (take n) (append_assoc es xs ys)))

  -- a full list stays as it is
  pub cut_full : (es xs ys : List X) {l : List X} → l ≡ take n (es ++ xs) → n ≤ length l → l ≡ take n (es ++ (xs ++ ys))
  cut_full es xs ys {l} e h =
      let size : length l ≡ length (take n (es ++ xs)) = ap length e in
      let long : n ≤ length (es ++ xs) = omega (arith, simp length-take at size) in
      e ∙ (sym (take-append-le n (es ++ xs) ys long) ∙ ap (take n) (append_assoc es xs ys))
