-- A loop that performs rounds, and why they could have gone no other way.
use Rattle.std.proofs.Common.{◌≡◌, ℕ, suc, ◌+◌, ◌<◌, ◌≤◌, List, [], ◌∷◌, ◌++◌, length, get_or, take, drop, set, sym, refl, ap, ◌∙◌, subst, arith, drop-cons}
use Rattle.std.proofs.lemmas.List.{take_more, take_more_set, take_all, drop-drop, drop-set-lt}
use Rattle.game.specs.declared.game.Game as game
use Rattle.table.specs.declared.Table as table
use Rattle.tester.specs.declared.round.Round.{Round}
use Rattle.tester.specs.Calls.{Stand, made, Does, Event, Calls}
use Rattle.tester.specs.Calls as calls
use Rattle.tester.specs.Claims.{EveryListStands, OneWay, RecordsAreNotRead, AsksAlike, AnswersAlike}
use Rattle.tester.specs.Claims as claims
use Rattle.tester.proofs.Lists.{joined}
use Rattle.tester.specs.Rounds.{event, events, Stays, AllStay, none, then, PerformedOne, PerformedAll}

-- one round more

stay_more : {xs ys : List Round} (x y : Round) → AllStay xs ys → Stays x y → AllStay (xs ++ (x ∷ [])) (ys ++ (y ∷ []))
stay_more x y none k = then k none
stay_more x y (then j r) k = then j (stay_more x y r k)

events_more : {xs ys : List Round} (x y : Round) → AllStay xs ys → events (xs ++ (x ∷ [])) (ys ++ (y ∷ [])) ≡ events xs ys ++ (event x y ∷ [])
events_more x y none = refl
events_more {xs = a ∷ ps} {ys = b ∷ qs} x y (then j r) = ap (λ (es : List Event). event a b ∷ es) (events_more x y r)

-- lists that ask alike go alike
alike : {G T : Type 0} (g : game.Ghosts G) (h : table.Ghosts T) → RecordsAreNotRead g h → {s s' t : Stand h} {es fs : List Event} → Calls g h s es s' → Calls g h s fs t → AsksAlike es fs
    → AnswersAlike es fs × (s' ≡ t)
alike g h unread calls.none calls.none claims.none = (claims.none, refl)
alike g h unread calls.none (calls.then k q) a = elim a [ ]
alike g h unread (calls.then d p) calls.none a = elim a [ ]
alike g h unread {s = s} {t = t} (calls.then {s' = u} {e = e} d p) (calls.then {s' = v} {e = f} {es = fs} k q) (claims.then c n b a) =
    let same = subst (λ x. Does g h s x f.lent f.reply f.left v) (sym c) k in
    let o = unread s e.call e.lent f.lent e.reply f.reply e.left f.left u v n b d same in
    let z = alike g h unread p (subst (λ (x : Stand h). Calls g h x fs t) (sym o.2) q) a in
    (claims.then o.0 o.1 z.0, z.1)

module _ {G T : Type 0} (g : game.Ghosts G) (h : table.Ghosts T) (taken : h.storing.Standing) (xs : List Round) where
  -- before the round of number i
  pub record Going (i : ℕ) (s : Stand h) (ys : List Round) : Type 0 where
    pub rest : drop i ys ≡ drop i xs
    pub stay : AllStay (take i xs) (take i ys)
    pub run : Calls g h (made g h taken) (events (take i xs) (take i ys)) s

  pub begin : (s : Stand h) → s ≡ made g h taken → Going 0 s xs
  begin s e = record { rest = refl; stay = none; run = subst (λ (t : Stand h). Calls g h (made g h taken) [] t) (sym e) calls.none }

  pub turn : (i : ℕ) (d y : Round) (ys : List Round) (s s' : Stand h) → i < length xs → i < length ys → Going i s ys → PerformedOne g h s (get_or ys i d) y s' → Going (i + 1) s' (set ys i y)
  turn i d y ys s s' m n u p =
      let x = get_or ys i d in
      let first : drop i xs ≡ get_or xs i d ∷ drop (suc i) xs = drop-cons xs i d m in
      let left : drop i ys ≡ x ∷ drop (suc i) ys = drop-cons ys i d n in
      let rest = u.rest in
      let same : get_or xs i d ≡ x = cc in
      let before : take (i + 1) xs ≡ take i xs ++ (x ∷ []) = take_more xs i d m ∙ ap (λ (z : Round). take i xs ++ (z ∷ [])) same in
      let after : take (i + 1) (set ys i y) ≡ take i ys ++ (y ∷ []) = take_more_set ys i y n in
      record {
        rest = drop-set-lt (i + 1) ys i y (omega arith) ∙ sym (drop-drop 1 i ys) ∙ ap (drop 1) rest ∙ drop-drop 1 i xs;
        stay = subst (λ (w : Type 0). w) (λ j. AllStay (sym before j) (sym after j)) (stay_more x y u.stay p.stays);
        run = subst (λ (es : List Event). Calls g h (made g h taken) es s') (sym (events_more x y u.stay) ∙ λ j. events (sym before j) (sym after j))
            (joined u.run (calls.then {e = event x y} p.does calls.none));
      }

  -- after the last round
  pub end : EveryListStands g h → OneWay g h → RecordsAreNotRead g h → (n : ℕ) (ys : List Round) (s : Stand h) → length xs ≤ n → length ys ≤ n → Going n s ys → PerformedAll g h taken xs ys s
  end every one unread n ys s l m u =
      let whole : (take n xs ≡ xs) × (take n ys ≡ ys) = (take_all n xs l, take_all n ys m) in
      let run = subst (λ (es : List Event). Calls g h (made g h taken) es s) (λ j. events (whole.0 j) (whole.1 j)) u.run in
      record {
        stay = subst (λ (w : Type 0). w) (λ j. AllStay (whole.0 j) (whole.1 j)) u.stay;
        run = run;
        right = every taken (events xs ys) s run;
        one_way = one;
        alone = λ es t other a. alike g h unread run other a;
      }
