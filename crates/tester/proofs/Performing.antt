-- A loop that performs calls.
use Rattle.std.proofs.Common.{◌≡◌, ℕ, ◌+◌, ◌<◌, min, List, [], ◌∷◌, ◌++◌, length, get_or, take, drop, set, sym, refl, ap, ◌∙◌, subst, arith, get_or-take}
use Rattle.std.proofs.Math.Logic.{∥∥₁_map}
use Rattle.std.proofs.lemmas.List.{take_more, take_more_set, drop-drop, drop-set-lt}
use Rattle.game.specs.declared.game.Game as game
use Rattle.table.specs.declared.Table as table
use Rattle.tester.specs.declared.reply.Reply.{Reply}
use Rattle.tester.specs.declared.call.Call.{Call}
use Rattle.tester.specs.Calls.{Stand, Lent, Does, Event, Calls, none, then, Reached}
use Rattle.tester.specs.Claims.{EveryListStands, Each}
use Rattle.tester.specs.Performed as performed
use Rattle.tester.specs.Performed.{asked, Replied, next, Performed}
use Rattle.tester.proofs.Lists.{joined}
use Rattle.tester.proofs.Outright.{all_right}

-- before the call of number i
pub record Underway {G T : Type 0} (g : game.Ghosts G) (h : table.Ghosts T) (cs : List Call) (s : Stand h) (l : Lent) (rs : List Reply) (i : ℕ) (s' : Stand h) (l' : Lent) (rs' : List Reply) : Type 0 where
  pub events : List Event
  pub replied : Replied (take i cs) (take i rs') l events l'
  pub rest : drop i rs' ≡ drop i rs
  pub run : Calls g h s events s'

-- one call more

abbrev event : Call → Lent → Reply → Lent → Event
event c l a k = record { call = asked c; lent = l; reply = a; left = k }

also_replied : {cs : List Call} {rs : List Reply} {es : List Event} {l l' : Lent} (c : Call) (a : Reply) (k : Lent) → Replied cs rs l es l'
    → Replied (cs ++ (c ∷ [])) (rs ++ (a ∷ [])) l (es ++ (event c l' a k ∷ [])) k
also_replied c a k performed.none = next refl performed.none
also_replied c a k (next e r) = next e (also_replied c a k r)

module _ {G T : Type 0} (g : game.Ghosts G) (h : table.Ghosts T) (cs : List Call) (s : Stand h) (l : Lent) (rs : List Reply) where
  pub turn : (most i : ℕ) (d : Call) (a : Reply) (s' s'' : Stand h) (l' k : Lent) (rs' : List Reply) → i < most → i < length cs → i < length rs'
      → Underway g h cs s l rs i s' l' rs' → Does g h s' (asked (get_or (take most cs) i d)) l' a k s'' → Underway g h cs s l rs (i + 1) s'' k (set rs' i a)
  turn most i d a s' s'' l' k rs' o m n u e =
      let c = get_or cs i d in
      let es = u.events ++ (event c l' a k ∷ []) in
      let p = take_more cs i d m in
      let q = take_more_set rs' i a n in
      record {
        events = es;
        replied = subst (λ (x : Type 0). x) (λ j. Replied (sym p j) (sym q j) l es k) (also_replied c a k u.replied);
        rest = drop-set-lt (i + 1) rs' i a (omega arith) ∙ sym (drop-drop 1 i rs') ∙ ap (drop 1) u.rest ∙ drop-drop 1 i rs;
        run = joined u.run (then {e = event c l' a k} (rw get_or-take at e) none);
      }

  -- what holds of a whole list holds of its end
  end : {s s' s'' : Stand h} {es fs : List Event} (p : Calls g h s es s') (q : Calls g h s' fs s'') → Each (joined p q) → Each q
  end none q e = e
  end (then d p) q e = end p q e.3

  pub over : EveryListStands g h → ∥ Reached g h s ∥₁ → (n : ℕ) (s' : Stand h) (l' : Lent) (rs' : List Reply) → n ≡ min (length cs) (length rs) → Underway g h cs s l rs n s' l' rs' → Performed g h cs s l rs n s' l' rs'
  over every reached n s' l' rs' e u = record {
    many = e;
    events = u.events;
    replied = u.replied;
    rest = u.rest;
    run = u.run;
    right = all_right g h u.run (∥∥₁_map reached (λ x. end x.2 u.run (every x.0 (x.1 ++ u.events) s' (joined x.2 u.run))));
  }
