-- Counts over the squares of a board.
use Rattle.std.proofs.Common.{◌≡◌, ℕ, zero, suc, ◌+◌, ◌<◌, ◌≤◌, Bool, cond, List, length, take, set, None, sum_by, Option, sym, refl, ap, ◌∙◌, add-one, arith}
use Rattle.std.proofs.lemmas.List.Sums.{sum_by-set, sum_by_more, length-filter}
use Rattle.std.proofs.lemmas.List.{take_all}
use Rattle.std.specs.Fn.{CalledAt}
use Rattle.std.specs.Iterator.{Drains}
use Rattle.std.specs.Iterator.Adapters.{filter_source, filter_callee, filter_steps}
use Rattle.std.specs.declared.iter.Filter.{Filter}
use Rattle.std.proofs.lemmas.Iterator.{YieldsList}
use Rattle.std.proofs.lemmas.Iterator.Consumers.{count_from_yields_List, YieldsList-from_filter}
use denote.Ref.{Bor}
use denote.Param.Members.{Mut}
use Rattle.chess_attacks.specs.declared.men.Man.{Man}
use Rattle.chess_attacks.specs.Men.{Squares, on}
use Rattle.chess_moves.specs.Count.{tally}

module _ (p : Option Man → Bool) where
  abbrev pub unit : Option Man → ℕ
  unit o = cond (p o) 1 0

  -- a count is a sum over the list
  tally_sum : (b : Squares) (n : ℕ) → n ≤ length b → tally p b n ≡ sum_by unit (take n b)
  unfolding tally
  tally_sum b zero h = refl
  tally_sum b (suc n) h =
      let more : sum_by unit (take (n + 1) b) ≡ sum_by unit (take n b) + unit (on b n) = sum_by_more unit b n None h in
      ap (λ x. x + unit (on b n)) (tally_sum b n (omega arith)) ∙ (sym more ∙ ap (λ i. sum_by unit (take i b)) (add-one n))

  tally_all : (b : Squares) (n : ℕ) → length b ≡ n → tally p b n ≡ sum_by unit b
  tally_all b n h = tally_sum b n (omega arith) ∙ ap (sum_by unit) (take_all n b (omega arith))

  -- and what is counted of the items of an iterator over the list after a filter by the test
  pub tally_counted : {S A F : Type 0} {steps : S → Option A → S → Type 0} {v : A → Option Man} (b : Squares) {s : Filter S F} (g : Mut F (Bor A × Unit {0}) Bool) {f : F} (n : ℕ)
      → ((xs : List A) × Drains (filter_steps steps g) s xs × (n ≡ length xs))
      → YieldsList steps v (filter_source s) b → filter_callee s ≡ f
      → ((x : A) (r : Bool) (q : F) → CalledAt g f x r q → (q ≡ f) × (r ≡ p (v x)))
      → length b ≡ 64 → n ≡ tally p b 64
  tally_counted b {s} g n h y k t l =
      count_from_yields_List s n h (YieldsList-from_filter g p y k t)
      ∙ (length-filter p b ∙ sym (tally_all b 64 l))

  -- what a square held before and holds after makes up for the difference
  pub tally_set : (b : Squares) (n s : ℕ) (o : Option Man) → length b ≡ n → length (set b s o) ≡ n → s < n → tally p (set b s o) n + unit (on b s) ≡ tally p b n + unit o
  tally_set b n s o e e' l =
      omega (arith, tally_all b n e, tally_all (set b s o) n e', sum_by-set unit b s o None (omega arith))
