-- What the slots of the newest policy show after a store, a clear and a making.
use Rattle.std.specs.Prelude.{◌≡◌, ℕ, ◌<◌, ◌≤◌, Bool, true, false, cond, ◌⊎◌, List, length, get_or, replicate, Some, None, fold, Option, ◌==◌, ◌≢◌, slice_index_or, slice_set, refl}
use Rattle.std.proofs.Common.{arith, sym, ap, ◌∙◌, inl, inr, get_or-set_same, get_or-set_other}
use Rattle.std.proofs.Math.Path.{fun_ext}
use borrow.Author.Tests.{eqb-true, eqb-false}
use Rattle.std.specs.Str.{bytes_eq}
use Rattle.std.proofs.lemmas.List.{get_or-replicate}
use Rattle.std.proofs.lemmas.Slice.Eq.{bytes_eq-Decides}
use Rattle.std.proofs.lemmas.Nat.{and_le_r}
use Rattle.table.specs.declared.pair.Pair.{Pair}
use Rattle.table.specs.declared.newest.Slot.{Slot}
use Rattle.table.specs.Pairs.{Code, Shown, nothing}
use Rattle.table.specs.Slots.{mixed, slot_of, kept_in, empty, in_slots, newest}

pub same_self : (c : Code) → bytes_eq c c ≡ true
same_self c = (bytes_eq-Decides c c).1 refl

pub refuted : (b : Bool) → (b ≢ true) → b ≡ false
refuted true n = absurd (n refl)
refuted false n = refl

pub same_apart : (c d : Code) → (c ≢ d) → bytes_eq c d ≡ false
same_apart c d n = refuted (bytes_eq c d) (λ e. n ((bytes_eq-Decides c d).0 e))

pub slot_within : (c : Code) → slot_of c < 512
unfolding slot_of
slot_within c = omega (arith, and_le_r (fold mixed 0 c) 511)

pub put_same : (xs : List Slot) (s : Slot) (i j : ℕ) → i < length xs → i ≡ j → slice_index_or (slice_set xs i s) j empty ≡ s
put_same xs s i j h e = ap (λ k. get_or (slice_set xs i s) k empty) (sym e) ∙ get_or-set_same xs i s empty h

pub own_code : (h : Shown) (c : Code) (p : Pair) → newest h c p c ≡ Some p
own_code h c p = rw (same_self c)

pub other_code : (h : Shown) (c d : Code) (p : Pair) → (c ≢ d) → (newest h c p d ≡ h d) ⊎ (newest h c p d ≡ None)
other_code h c d p n =
    rw (same_apart c d n)
    (elim (slot_of c == slot_of d) as (λ b. (cond b None (h d) ≡ h d) ⊎ (cond b None (h d) ≡ None)) [ true ↦ inr refl | false ↦ inl refl ])

module _ (xs : List Slot) (c : Code) (p : Pair) (full : length xs ≡ 512) where
  abbrev there : Slot
  there = record { code = c; pair = Some p }

  by_slot : (d : Code) (b : Bool) → (slot_of c == slot_of d) ≡ b → in_slots (slice_set xs (slot_of c) there) d ≡ newest (in_slots xs) c p d
  by_slot d true q =
      let e = eqb-true (slot_of c) (slot_of d) q in
      let h : slot_of c < length xs = omega (arith, slot_within c) in
      ap (λ s. kept_in s d) (put_same xs there (slot_of c) (slot_of d) h e) ∙ rw q
  by_slot d false q =
      let n = eqb-false (slot_of c) (slot_of d) q in
      ap (λ s. kept_in s d) (get_or-set_other xs (slot_of c) (slot_of d) there empty (λ e. n (sym e)))
      ∙ rw (same_apart c d (λ e. n (ap slot_of e)), q)

  pub after_store : in_slots (slice_set xs (slot_of c) there) ≡ newest (in_slots xs) c p
  after_store = fun_ext (λ d. by_slot d (slot_of c == slot_of d) refl)

none_kept : (b : Bool) (o : Option Pair) → o ≡ None → cond b o None ≡ None
none_kept true o e = e
none_kept false o e = refl

pub all_clear : (xs : List Slot) (n : ℕ) → 512 ≤ n → ((k : ℕ) → k < n → (get_or xs k empty).pair ≡ None) → in_slots xs ≡ nothing
all_clear xs n e h = fun_ext (λ c.
    none_kept (bytes_eq (get_or xs (slot_of c) empty).code c) (get_or xs (slot_of c) empty).pair (h (slot_of c) (omega (arith, slot_within c))))

-- `n` is 512, and no numeral, since a list of 512 slots would be written out
pub new_clear : (s : Slot) (n : ℕ) → 512 ≤ n → s.pair ≡ None → in_slots (replicate n s) ≡ nothing
new_clear s n m q = all_clear (replicate n s) n m (λ k h. ap (λ (t : Slot). t.pair) (get_or-replicate n k s empty h) ∙ q)
