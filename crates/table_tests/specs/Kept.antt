-- What slots of two ways show after a store and a clear.
use Rattle.std.specs.Prelude.{◌≡◌, ◌⊎◌, Bool, true, false, cond, Some, None, Option, is_some, ◌==◌, ◌≢◌, refl}
use Rattle.std.specs.Option.{option_or}
use Rattle.std.specs.Str.{bytes_eq}
use Rattle.std.proofs.Common.{sym, subst, ap, ◌∙◌, inl, inr}
use Rattle.std.proofs.lemmas.Bool.{eq-eqb}
use Rattle.std.proofs.lemmas.Slice.Eq.{bytes_eq-Decides}
use Rattle.table.specs.declared.pair.Pair.{Pair}
use Rattle.table.specs.Pairs.{Code}
use Rattle.table.specs.Slots.{slot_of}
use Rattle.table.specs.Kept.{same_self, same_apart}
use Rattle.table_tests.specs.declared.two_ways.Entry.{Entry}
use Rattle.table_tests.specs.declared.two_ways.Slot.{Slot}
use Rattle.table_tests.specs.declared.two_ways.Way.{Way}
use Rattle.table_tests.specs.declared.two_ways.Way.TheVariants.{First, Second}
use Rattle.table_tests.specs.Ways.{other, in_way, pair_in, newer, older, shown_by, put, after_store, after_clear, Slots, shows, stored, cleared}

-- one slot

shown_put : (s : Slot) (w : Way) (e : Entry) (c : Code) → shown_by (put s w e) c ≡ option_or (pair_in (Some e) c) (pair_in (in_way s (other w)) c)
shown_put s First e c = refl
shown_put s Second e c = refl

own_shown : (s : Slot) (c : Code) (p : Pair) → shown_by (after_store s c p) c ≡ Some p
own_shown s c p = shown_put s _ (record { code = c; pair = p }) c ∙ rw (same_self c)

other_twice : (w : Way) → other (other w) ≡ w
other_twice First = refl
other_twice Second = refl

-- a way with the pair of one code has none of another
none_of_other : (o : Option Entry) (c d : Code) → (c ≢ d) → is_some (pair_in o c) ≡ true → pair_in o d ≡ None
none_of_other None c d n h = refl
none_of_other (Some e) c d n h = go (bytes_eq e.code c) refl h
  where
    go : (b : Bool) → bytes_eq e.code c ≡ b → is_some (cond b (Some e.pair) None) ≡ true → pair_in (Some e) d ≡ None
    go true q t = rw (same_apart e.code d (λ i. n (sym ((bytes_eq-Decides e.code c).0 q) ∙ i)))
    go false q t = absurd (cc)

other_shown : (s : Slot) (c d : Code) (p : Pair) → (c ≢ d) → (shown_by (after_store s c p) d ≡ shown_by s d) ⊎ (shown_by (after_store s c p) d ≡ None)
other_shown s c d p n = by_way (is_some (pair_in (newer s) c)) refl
  where
    left : (w : Way) → shown_by (put s w (record { code = c; pair = p })) d ≡ pair_in (in_way s (other w)) d
    left w = shown_put s w (record { code = c; pair = p }) d ∙ rw (same_apart c d n)

    of_newer : (o : Option Pair) → (o ≡ option_or o (pair_in (older s) d)) ⊎ (o ≡ None)
    of_newer None = inr refl
    of_newer (Some q) = inl refl

    by_way : (b : Bool) → is_some (pair_in (newer s) c) ≡ b
        → (shown_by (put s (cond b s.last (other s.last)) (record { code = c; pair = p })) d ≡ shown_by s d)
        ⊎ (shown_by (put s (cond b s.last (other s.last)) (record { code = c; pair = p })) d ≡ None)
    by_way true q =
        inl (left s.last ∙ ap (λ (o : Option Pair). option_or o (pair_in (older s) d)) (sym (none_of_other (newer s) c d n q)))
    by_way false q =
        subst (λ (o : Option Pair). (o ≡ shown_by s d) ⊎ (o ≡ None))
        (sym (left (other s.last) ∙ ap (λ (w : Way). pair_in (in_way s w) d) (other_twice s.last))) (of_newer (pair_in (newer s) d))

none_shown : (s : Slot) (c : Code) → shown_by (after_clear s) c ≡ None
none_shown s c = go s.last
  where
    go : (w : Way) → option_or (pair_in (in_way (after_clear s) w) c) (pair_in (in_way (after_clear s) (other w)) c) ≡ None
    go First = refl
    go Second = refl

-- all slots

pub own_code : (s : Slots) (c : Code) (p : Pair) → shows (stored s c p) c ≡ Some p
own_code s c p = rw (eq-eqb (slot_of c) (slot_of c) refl) (own_shown (s (slot_of c)) c p)

pub other_code : (s : Slots) (c d : Code) (p : Pair) → (c ≢ d) → (shows (stored s c p) d ≡ shows s d) ⊎ (shows (stored s c p) d ≡ None)
other_code s c d p n = go (slot_of c == slot_of d)
  where
    go : (b : Bool) → (shown_by (cond b (after_store (s (slot_of d)) c p) (s (slot_of d))) d ≡ shows s d)
        ⊎ (shown_by (cond b (after_store (s (slot_of d)) c p) (s (slot_of d))) d ≡ None)
    go true = other_shown (s (slot_of d)) c d p n
    go false = inl refl

pub none_left : (s : Slots) (c : Code) → shows (cleared s) c ≡ None
none_left s c = none_shown (s (slot_of c)) c
