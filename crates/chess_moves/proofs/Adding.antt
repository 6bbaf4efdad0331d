-- Lists of moves that are added to.
use Rattle.std.proofs.Common.{◌≡◌, ℕ, ◌<◌, ◌≤◌, true, false, eqb, List, [], ◌∷◌, ◌++◌, length, take, sym, ap, ◌∙◌, arith}
use Rattle.std.proofs.lemmas.Bool.{eqb-true}
use Rattle.std.proofs.lemmas.Bool.Decides.{nat_tests}
use Rattle.std.proofs.lemmas.List.{take_all, append-nil, length_push}
use Rattle.chess_moves.specs.declared.step.Move.{Move}
use Rattle.chess_moves.specs.Moves.{Adds}
use Rattle.chess_moves.proofs.Cut.{cut_short, cut_more, cut_full}

module _ {n : ℕ} where
  pub adds_none : (l : List Move) → Adds n l [] l
  adds_none l = record { list = λ h. sym (ap (take n) (append-nil l) ∙ take_all n l h) }

  -- by the test of whether the list is full
  pub adds_push : {l r : List Move} (v : Move) → length l ≤ n → false ≡ eqb (length l) n → r ≡ l ++ v ∷ [] → Adds n l (v ∷ []) r
  adds_push {l} v h f e =
      let room : length l < n = grind (arith, nat_tests) in
      record { list = λ _. e ∙ sym (take_all n (l ++ v ∷ []) (simp length_push (omega arith))) }

  pub adds_more : {l xs ys m r : List Move} → Adds n l xs m → Adds n m ys r → Adds n l (xs ++ ys) r
  adds_more {l} {xs} {ys} h k =
      record { list = λ s. cut_more n l xs ys (h.list s) (k.list (cut_short n l xs (h.list s))) }

  pub adds_full : {l xs m : List Move} (ys : List Move) → Adds n l xs m → true ≡ eqb (length m) n → Adds n l (xs ++ ys) m
  adds_full {l} {xs} {m} ys h f =
      let full : length m ≡ n = eqb-true (length m) n (sym f) in
      record { list = λ s. cut_full n l xs ys (h.list s) (omega arith) }

  pub adds_as : {l xs ys r : List Move} → xs ≡ ys → Adds n l xs r → Adds n l ys r
  adds_as {l} e h = record { list = λ s. h.list s ∙ ap (λ zs. take n (l ++ zs)) e }

  -- what is added to an empty list
  pub adds_first : {l vs r : List Move} → l ≡ [] → Adds n l vs r → r ≡ take n vs
  adds_first {l} {vs} e h = h.list (omega (arith, ap length e)) ∙ ap (λ xs. take n (xs ++ vs)) e
