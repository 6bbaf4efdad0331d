-- The slots of an array that was just made, after a store and after a clear.
use Rattle.std.specs.Prelude.{◌≡◌, ℕ, ◌<◌, ◌≤◌, Bool, true, false, cond, nat_lt, List, length, get_or, replicate, ◌==◌, slice_index_or, slice_set, refl}
use Rattle.std.proofs.Common.{arith, sym, subst, ap, ◌∙◌, get_or-set_same, get_or-set_other}
use Rattle.std.proofs.Math.Path.{fun_ext}
use borrow.Author.Tests.{eqb-true, eqb-false}
use Rattle.std.proofs.lemmas.Bool.{ltb-true, ltb-false}
use Rattle.std.proofs.lemmas.List.{get_or-replicate, get_or_default, get_or_past, length-replicate}
use Rattle.table.specs.declared.pair.Pair.{Pair}
use Rattle.table.specs.Pairs.{Code}
use Rattle.table.specs.Slots.{slot_of}
use Rattle.table.specs.Kept.{slot_within}
use Rattle.table_tests.specs.declared.two_ways.Slot.{Slot}
use Rattle.table_tests.specs.Ways.{after_store, after_clear, empty, empty_slots, in_slots, stored, cleared}

pub after_making : (n : ℕ) → in_slots (replicate n empty) ≡ empty_slots
after_making n = fun_ext (λ i. go i (nat_lt i n) refl)
  where
    go : (i : ℕ) (b : Bool) → nat_lt i n ≡ b → get_or (replicate n empty) i empty ≡ empty
    go i true q = get_or-replicate n i empty empty (ltb-true i n q)
    go i false q = get_or_past (replicate n empty) i empty (let e = length-replicate n empty in let l = ltb-false i n q in omega arith)

pub after_storing : (xs : List Slot) (i : ℕ) (d : Slot) (c : Code) (p : Pair) → length xs ≡ 512 → i ≡ slot_of c
    → in_slots (slice_set xs i (after_store (slice_index_or xs i d) c p)) ≡ stored (in_slots xs) c p
after_storing xs i d c p full at = fun_ext (λ k. go k (slot_of c == k) refl)
  where
    within : i < length xs
    within = omega (arith, slot_within c)

    here : Slot
    here = after_store (slice_index_or xs i d) c p

    go : (k : ℕ) (b : Bool) → (slot_of c == k) ≡ b → in_slots (slice_set xs i here) k ≡ cond b (after_store (in_slots xs k) c p) (in_slots xs k)
    go k true q =
        subst (λ j. in_slots (slice_set xs i here) j ≡ after_store (in_slots xs j) c p) (at ∙ eqb-true (slot_of c) k q)
        (get_or-set_same xs i here empty within ∙ ap (λ s. after_store s c p) (get_or_default xs i d empty within))
    go k false q = let n = eqb-false (slot_of c) k q in get_or-set_other xs i k here empty (λ e. n (sym (e ∙ at)))

-- the slots below `n` are cleared
pub record ClearedBelow (n : ℕ) (old new : List Slot) : Type 0 where
  pub below : (i : ℕ) → i < n → in_slots new i ≡ after_clear (in_slots old i)
  pub above : (i : ℕ) → n ≤ i → in_slots new i ≡ in_slots old i

pub after_clearing : (n : ℕ) (xs ys : List Slot) → length xs ≤ n → ClearedBelow n xs ys → in_slots ys ≡ cleared (in_slots xs)
after_clearing n xs ys full h = fun_ext (λ i. go i (nat_lt i n) refl)
  where
    go : (i : ℕ) (b : Bool) → nat_lt i n ≡ b → in_slots ys i ≡ after_clear (in_slots xs i)
    go i true q = h.below i (ltb-true i n q)
    go i false q =
        let l = ltb-false i n q in
        let e = get_or_past xs i empty (omega arith) in
        h.above i l ∙ e ∙ ap after_clear (sym e)
