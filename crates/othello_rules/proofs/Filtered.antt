-- The squares that pass a test, gathered in rising order.
use Rattle.std.proofs.Common.{◌≡◌, ℕ, ◌+◌, ◌≤◌, Bool, true, false, cond, ◌||◌, List, [], ◌∷◌, ◌++◌, map, length, filter, sym, refl, ap, ◌∙◌, ap₂, append-nil, arith}
use Rattle.std.specs.List.{range_with_len, list_any}
use Rattle.std.proofs.lemmas.List.FromFn.{filter_of_map_range_with_len_more}
use Rattle.std.proofs.lemmas.List.{map-id, map_push, length-append}
use Rattle.board.specs.declared.square.Square.{Square}
use Rattle.othello_rules.specs.Rules.{any}
use Rattle.othello_rules.specs.Lists.{number_of}

kept_push : (p : ℕ → Bool) (k : ℕ) → filter p (range_with_len 0 (k + 1)) ≡ filter p (range_with_len 0 k) ++ cond (p k) (k ∷ []) []
kept_push p k =
    ap (filter p) (sym (map-id (range_with_len 0 (k + 1))))
    ∙ filter_of_map_range_with_len_more p (λ (x : ℕ). x) 0 k k (omega arith)
    ∙ ap (λ (l : List ℕ). filter p l ++ cond (p k) (k ∷ []) []) (map-id (range_with_len 0 k))

-- xs are the squares below k that pass
pub record Kept (p : ℕ → Bool) (k : ℕ) (xs : List Square) : Type 0 where
  pub numbers : map number_of xs ≡ filter p (range_with_len 0 k)
  pub room : length xs ≤ k

-- one square more, which passes or does not
module _ (p : ℕ → Bool) (k m : ℕ) (xs : List Square) (i : Kept p k xs) (e : m ≡ k + 1) where
  pub kept_yes : (s : Square) → s.number ≡ k → true ≡ p s.number → Kept p m (xs ++ s ∷ [])
  kept_yes s f t = record {
    numbers = map_push number_of xs s
        ∙ ap₂ (λ (l : List ℕ) (q : ℕ). l ++ q ∷ []) i.numbers f
        ∙ ap (λ (b : Bool). filter p (range_with_len 0 k) ++ cond b (k ∷ []) []) (t ∙ ap p f)
        ∙ sym (kept_push p k)
        ∙ ap (λ (j : ℕ). filter p (range_with_len 0 j)) (sym e);
    room = let h = i.room in omega (arith, length-append xs (s ∷ []));
  }

  pub kept_no : (s : Square) → s.number ≡ k → false ≡ p s.number → Kept p m xs
  kept_no s f t = record {
    numbers = i.numbers
        ∙ sym (append-nil (filter p (range_with_len 0 k)))
        ∙ ap (λ (b : Bool). filter p (range_with_len 0 k) ++ cond b (k ∷ []) []) (t ∙ ap p f)
        ∙ sym (kept_push p k)
        ∙ ap (λ (j : ℕ). filter p (range_with_len 0 j)) (sym e);
    room = let h = i.room in omega arith;
  }

-- where one passes, there is some that passes
pub any-filter : (p : ℕ → Bool) (xs : List ℕ) → any (filter p xs) ≡ list_any p xs
unfolding any
any-filter p [] = refl
any-filter p (x ∷ xs) = elim (p x) as (λ b. any (cond b (x ∷ filter p xs) (filter p xs)) ≡ (b || list_any p xs))
    [ true ↦ refl | false ↦ any-filter p xs ]
