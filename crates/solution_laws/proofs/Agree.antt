-- A solution has one part and one table after it.
use Rattle.std.proofs.Common.{◌≡◌, ℕ, suc, ◌+◌, ◌-◌, ◌<◌, ◌≤◌, Bool, true, false, List, [], ◌∷◌, length, get_or, take, Some, None, Option, sym, refl, ap, ◌∙◌, subst, codes, arith}
use Rattle.game.specs.declared.state.State.TheVariants.{Attacker, Defender}
use Rattle.game.specs.Tree.{Tree, Moves, none, move, nowhere, state, moves, next, words}
use Rattle.search_laws.specs.declared.answer.Answer.{Answer}
use Rattle.table.specs.Storings.{Storing}
use Rattle.search_laws.specs.Words as verdicts
use Rattle.search_laws.specs.Words.{value_word}
use Rattle.search_laws.specs.Claims.{TrialsAgree}
use Rattle.solution_laws.specs.declared.ending.Ending.{Ending}
use Rattle.solution_laws.specs.Solution.{cost, AllTried, no_more, tried, Stops, spent, later, best, reply_line, wins, Part, no_line, then, Solves, won, not_won, stopped, no_win, full, win, defends, Replies, no_reply, no_room, last, reply}
use Rattle.solution_laws.specs.Claims.{SolutionsAgree}
use Rattle.solution_laws.specs.Words.{word}
use Rattle.solution_laws.proofs.Endings.{one_ending}
use Rattle.solution_laws.proofs.Clash.{clash}

one_value : (w w' : Bool) → value_word w ≡ value_word w' → w ≡ w'
one_value true true e = refl
one_value true false e = absurd (cc)
one_value false true e = absurd (cc)
one_value false false e = refl

not-spent : (w : Bool) → value_word w ≡ codes "spent" → ⊥
not-spent true e = absurd (cc)
not-spent false e = absurd (cc)

-- parts that wrote no line, of one word and sum
no_lines : (e f : Ending) {w : List ℕ} {m n : ℕ} → word e ≡ w → word f ≡ w → m ≡ n → no_line e m ≡ no_line f n
no_lines e f p q s = λ i. no_line (one_ending e f p q i) (s i)

one_choice : (o o' : Option ℕ) (j j' : ℕ) → o ≡ o' → o ≡ Some j → o' ≡ Some j' → j ≡ j'
one_choice o o' j j' e p q = cc

module _ (S : Storing) (agree : TrialsAgree S) (b : ℕ) where
  tried_agree : {standing : S.Standing} {m : Moves} {ws : List Bool} {n : ℕ} {h : S.Standing} → AllTried S b standing m ws n h
      → {ws' : List Bool} {n' : ℕ} {h' : S.Standing} → AllTried S b standing m ws' n' h' → (ws ≡ ws') × (n ≡ n') × (h ≡ h')
  tried_agree no_more no_more = (refl, refl, refl)
  tried_agree {standing = standing} (tried {standing' = k} {t = t} {m = m} {w = w} {a = a} r v more) (tried {standing' = k'} {standing'' = h'} {w = w'} {ws = ws'} {a = a'} {n = n'} r' v' more') =
      let e = agree standing t b a a' k k' r r' in
      let q = one_value w w' (sym v ∙ ap (λ (x : Answer). verdicts.word x.verdict) e.0 ∙ v') in
      let ih = tried_agree more (subst (λ (x : S.Standing). AllTried S b x m ws' n' h') (sym e.1) more') in
      (λ i. q i ∷ ih.0 i, λ i. cost (e.0 i) + ih.1 i, ih.2)

  stops_agree : {standing : S.Standing} {m : Moves} {n : ℕ} {h : S.Standing} → Stops S b standing m n h → {n' : ℕ} {h' : S.Standing} → Stops S b standing m n' h' → (n ≡ n') × (h ≡ h')
  stops_agree {standing = standing} (spent {standing' = k} {t = t} {a = a} r v) (spent {standing' = k'} {a = a'} r' v') =
      let e = agree standing t b a a' k k' r r' in (ap cost e.0, e.1)
  stops_agree {standing = standing} (spent {standing' = k} {t = t} {a = a} r v) (later {standing' = k'} {a = a'} w' r' v' more') =
      let e = agree standing t b a a' k k' r r' in
      let z : ⊥ = not-spent w' (sym v' ∙ ap (λ (x : Answer). verdicts.word x.verdict) (sym e.0) ∙ v) in elim z [ ]
  stops_agree {standing = standing} (later {standing' = k} {t = t} {a = a} w r v more) (spent {standing' = k'} {a = a'} r' v') =
      let e = agree standing t b a a' k k' r r' in
      let z : ⊥ = not-spent w (sym v ∙ ap (λ (x : Answer). verdicts.word x.verdict) e.0 ∙ v') in elim z [ ]
  stops_agree {standing = standing} (later {standing' = k} {t = t} {m = m} {a = a} w r v more) (later {standing' = k'} {standing'' = h'} {a = a'} {n = n'} w' r' v' more') =
      let e = agree standing t b a a' k k' r r' in
      let ih = stops_agree more (subst (λ (x : S.Standing). Stops S b x m n' h') (sym e.1) more') in
      (λ i. cost (e.0 i) + ih.0 i, ih.1)

  not_both : {standing : S.Standing} {m : Moves} {ws : List Bool} {n : ℕ} {h : S.Standing} → AllTried S b standing m ws n h → {n' : ℕ} {h' : S.Standing} → Stops S b standing m n' h' → ⊥
  not_both no_more x = elim x [ ]
  not_both {standing = standing} (tried {standing' = k} {t = t} {w = w} {a = a} r v more) (spent {standing' = k'} {a = a'} r' v') =
      let e = agree standing t b a a' k k' r r' in not-spent w (sym v ∙ ap (λ (x : Answer). verdicts.word x.verdict) e.0 ∙ v')
  not_both {standing = standing} (tried {standing' = k} {t = t} {m = m} {w = w} {a = a} r v more) (later {standing' = k'} {standing'' = h'} {a = a'} {n = n'} w' r' v' more') =
      let e = agree standing t b a a' k k' r r' in not_both more (subst (λ (x : S.Standing). Stops S b x m n' h') (sym e.1) more')

  -- what comes at an attacker's position
  data Attack (k : ℕ) (i : Option ℕ) (t : Tree) (standing : S.Standing) (room : ℕ) : Part → S.Standing → Type 0 where
    at_stop : {n : ℕ} {standing' : S.Standing} {e : Ending} → Stops S b standing (moves t) n standing' → word e ≡ codes "spent" → Attack k i t standing room (no_line e n) standing'
    at_none : {n : ℕ} {standing' : S.Standing} {ws : List Bool} {e : Ending} → AllTried S b standing (moves t) ws n standing' → best i ws ≡ None → word e ≡ codes "done" → Attack k i t standing room (no_line e n) standing'
    at_full : {n j : ℕ} {standing' : S.Standing} {ws : List Bool} {e : Ending} → AllTried S b standing (moves t) ws n standing' → best i ws ≡ Some j → room < length (wins k j ws (words t)) → word e ≡ codes "cut"
        → Attack k i t standing room (record { ending = e; lines = take room (wins k j ws (words t)); sum = n }) standing'
    at_win : {n j : ℕ} {standing' standing'' : S.Standing} {ws : List Bool} {p : Part} → AllTried S b standing (moves t) ws n standing' → best i ws ≡ Some j → length (wins k j ws (words t)) ≤ room
        → Solves S b (suc k) None (get_or (next t) j nowhere) standing' (room - length (wins k j ws (words t))) p standing''
        → Attack k i t standing room (then (wins k j ws (words t)) n p) standing''

  attack : {k : ℕ} {i : Option ℕ} {t : Tree} {standing : S.Standing} {room : ℕ} {p : Part} {h : S.Standing} → Solves S b k i t standing room p h → state t ≡ Attacker → Attack k i t standing room p h
  attack (won e d) s = clash (cc)
  attack (not_won e d) s = clash (cc)
  attack (stopped e st d) s = at_stop st d
  attack (no_win e tr o d) s = at_none tr o d
  attack (full e tr o l d) s = at_full tr o l d
  attack (win e tr o l more) s = at_win tr o l more
  attack (defends e rs) s = clash (cc)

  replies_of : {k : ℕ} {i : Option ℕ} {t : Tree} {standing : S.Standing} {room : ℕ} {p : Part} {h : S.Standing} → Solves S b k i t standing room p h → state t ≡ Defender → Replies S b k (moves t) standing room p h
  replies_of (won e d) s = clash (cc)
  replies_of (not_won e d) s = clash (cc)
  replies_of (stopped e st d) s = clash (cc)
  replies_of (no_win e tr o d) s = clash (cc)
  replies_of (full e tr o l d) s = clash (cc)
  replies_of (win e tr o l more) s = clash (cc)
  replies_of (defends e rs) s = rs

  ended : {k : ℕ} {i : Option ℕ} {t : Tree} {standing : S.Standing} {room : ℕ} {p : Part} {h : S.Standing} → Solves S b k i t standing room p h → (state t ≡ Attacker → ⊥) → (state t ≡ Defender → ⊥)
      → (f : Ending) → word f ≡ codes "done" → (no_line f 0 ≡ p) × (standing ≡ h)
  ended (won {e = g} e d) x y f c = (no_lines f g c d refl, refl)
  ended (not_won {e = g} e d) x y f c = (no_lines f g c d refl, refl)
  ended (stopped e st d) x y f c = let z : ⊥ = x e in elim z [ ]
  ended (no_win e tr o d) x y f c = let z : ⊥ = x e in elim z [ ]
  ended (full e tr o l d) x y f c = let z : ⊥ = x e in elim z [ ]
  ended (win e tr o l more) x y f c = let z : ⊥ = x e in elim z [ ]
  ended (defends e rs) x y f c = let z : ⊥ = y e in elim z [ ]

  stop_agree : {k : ℕ} {i : Option ℕ} {t : Tree} {standing : S.Standing} {room : ℕ} {p : Part} {h h₁ : S.Standing} {n : ℕ} (f : Ending) → Stops S b standing (moves t) n h₁ → word f ≡ codes "spent"
      → Attack k i t standing room p h → (no_line f n ≡ p) × (h₁ ≡ h)
  stop_agree f s c (at_stop {e = g} s' d) = let e = stops_agree s s' in (no_lines f g c d e.0, e.1)
  stop_agree f s c (at_none tr o d) = let z : ⊥ = not_both tr s in elim z [ ]
  stop_agree f s c (at_full tr o l d) = let z : ⊥ = not_both tr s in elim z [ ]
  stop_agree f s c (at_win tr o l more) = let z : ⊥ = not_both tr s in elim z [ ]

  none_agree : {k : ℕ} {i : Option ℕ} {t : Tree} {standing : S.Standing} {room : ℕ} {p : Part} {h h₁ : S.Standing} {n : ℕ} {ws : List Bool} (f : Ending) → AllTried S b standing (moves t) ws n h₁ → best i ws ≡ None → word f ≡ codes "done"
      → Attack k i t standing room p h → (no_line f n ≡ p) × (h₁ ≡ h)
  none_agree f tr o c (at_stop s' d) = let z : ⊥ = not_both tr s' in elim z [ ]
  none_agree f tr o c (at_none {e = g} tr' o' d) = let e = tried_agree tr tr' in (no_lines f g c d e.1, e.2)
  none_agree {i = i} f tr o c (at_full tr' o' l d) = let e = tried_agree tr tr' in let q = ap (best i) e.0 in clash (cc)
  none_agree {i = i} f tr o c (at_win tr' o' l more) = let e = tried_agree tr tr' in let q = ap (best i) e.0 in clash (cc)

  full_agree : {k : ℕ} {i : Option ℕ} {t : Tree} {standing : S.Standing} {room : ℕ} {p : Part} {h h₁ : S.Standing} {n j : ℕ} {ws : List Bool} (f : Ending) → AllTried S b standing (moves t) ws n h₁ → best i ws ≡ Some j
      → room < length (wins k j ws (words t)) → word f ≡ codes "cut" → Attack k i t standing room p h
      → (◌≡◌ {A = Part} (record { ending = f; lines = take room (wins k j ws (words t)); sum = n }) p) × (h₁ ≡ h)
  full_agree f tr o l c (at_stop s' d) = let z : ⊥ = not_both tr s' in elim z [ ]
  full_agree {i = i} f tr o l c (at_none tr' o' d) = let e = tried_agree tr tr' in let q = ap (best i) e.0 in clash (cc)
  full_agree {k = k} {i = i} {t = t} {room = room} {j = j} {ws = ws} f tr o l c (at_full {j = j'} {ws = ws'} {e = g} tr' o' l' d) =
      let e = tried_agree tr tr' in
      let q = one_choice (best i ws) (best i ws') j j' (ap (best i) e.0) o o' in
      (λ x. record { ending = one_ending f g c d x; lines = take room (wins k (q x) (e.0 x) (words t)); sum = e.1 x }, e.2)
  full_agree {k = k} {i = i} {t = t} {j = j} {ws = ws} f tr o l c (at_win {j = j'} {ws = ws'} tr' o' l' more) =
      let e = tried_agree tr tr' in
      let q = one_choice (best i ws) (best i ws') j j' (ap (best i) e.0) o o' in
      let r : length (wins k j ws (words t)) ≡ length (wins k j' ws' (words t)) = λ x. length (wins k (q x) (e.0 x) (words t)) in
      let z : ⊥ = omega (arith, l, l', r) in elim z [ ]

  win_agree : {k : ℕ} {i : Option ℕ} {t : Tree} {standing : S.Standing} {room : ℕ} {p : Part} {h h₁ h₂ : S.Standing} {n j : ℕ} {ws : List Bool} {q : Part} → AllTried S b standing (moves t) ws n h₁ → best i ws ≡ Some j
      → length (wins k j ws (words t)) ≤ room
      → ((p' : Part) (h' : S.Standing) → Solves S b (suc k) None (get_or (next t) j nowhere) h₁ (room - length (wins k j ws (words t))) p' h' → (q ≡ p') × (h₂ ≡ h'))
      → Attack k i t standing room p h → (then (wins k j ws (words t)) n q ≡ p) × (h₂ ≡ h)
  win_agree tr o l ih (at_stop s' d) = let z : ⊥ = not_both tr s' in elim z [ ]
  win_agree {i = i} tr o l ih (at_none tr' o' d) = let e = tried_agree tr tr' in let q = ap (best i) e.0 in clash (cc)
  win_agree {k = k} {i = i} {t = t} {j = j} {ws = ws} tr o l ih (at_full {j = j'} {ws = ws'} tr' o' l' d) =
      let e = tried_agree tr tr' in
      let q = one_choice (best i ws) (best i ws') j j' (ap (best i) e.0) o o' in
      let r : length (wins k j ws (words t)) ≡ length (wins k j' ws' (words t)) = λ x. length (wins k (q x) (e.0 x) (words t)) in
      let z : ⊥ = omega (arith, l, l', r) in elim z [ ]
  win_agree {k = k} {i = i} {t = t} {room = room} {j = j} {ws = ws} tr o l ih (at_win {j = j'} {standing'' = h''} {ws = ws'} {p = p'} tr' o' l' more) =
      let e = tried_agree tr tr' in
      let q = one_choice (best i ws) (best i ws') j j' (ap (best i) e.0) o o' in
      let more' = subst (λ (x : Type 0). x) (λ x. Solves S b (suc k) None (get_or (next t) (sym q x) nowhere) (sym e.2 x) (room - length (wins k (sym q x) (sym e.0 x) (words t))) p' h'') more in
      let f = ih p' h'' more' in
      (λ x. then (wins k (q x) (e.0 x) (words t)) (e.1 x) (f.0 x), f.1)

  -- how a reply goes, by its first move
  data Reply (k : ℕ) (x : List ℕ) (t : Tree) (m : Moves) (standing : S.Standing) (room : ℕ) : Part → S.Standing → Type 0 where
    r_none : {e : Ending} → room ≡ 0 → word e ≡ codes "cut" → Reply k x t m standing room (no_line e 0) standing
    r_last : {standing' : S.Standing} {p : Part} → 0 < room → Solves S b (suc k) None t standing (room - 1) p standing' → (word p.ending ≡ codes "done" → ⊥) → Reply k x t m standing room (then (reply_line k x ∷ []) 0 p) standing'
    r_on : {standing' standing'' : S.Standing} {p q : Part} → 0 < room → Solves S b (suc k) None t standing (room - 1) p standing' → word p.ending ≡ codes "done"
        → Replies S b k m standing' (room - suc (length p.lines)) q standing'' → Reply k x t m standing room (then (reply_line k x ∷ p.lines) p.sum q) standing''

  reply_of : {k : ℕ} {x : List ℕ} {t : Tree} {m : Moves} {standing : S.Standing} {room : ℕ} {p : Part} {h : S.Standing} → Replies S b k (move x t m) standing room p h → Reply k x t m standing room p h
  reply_of (no_room z d) = r_none z d
  reply_of (last z s e) = r_last z s e
  reply_of (reply z s e rs) = r_on z s e rs

  last_agree : {k : ℕ} {x : List ℕ} {t : Tree} {m : Moves} {standing : S.Standing} {room : ℕ} {p : Part} {h h₁ : S.Standing} {q : Part} → 0 < room
      → ((p' : Part) (h' : S.Standing) → Solves S b (suc k) None t standing (room - 1) p' h' → (q ≡ p') × (h₁ ≡ h')) → (word q.ending ≡ codes "done" → ⊥)
      → Reply k x t m standing room p h → (then (reply_line k x ∷ []) 0 q ≡ p) × (h₁ ≡ h)
  last_agree z ih e (r_none z' d) = absurd (omega arith)
  last_agree {k = k} {x = x} z ih e (r_last {standing' = h'} {p = p'} z' s e') = let f = ih p' h' s in (ap (then (reply_line k x ∷ []) 0) f.0, f.1)
  last_agree z ih e (r_on {standing' = h'} {p = p'} z' s e' rs) = let f = ih p' h' s in let y : ⊥ = e (ap (λ (a : Part). word a.ending) f.0 ∙ e') in elim y [ ]

  on_agree : {k : ℕ} {x : List ℕ} {t : Tree} {m : Moves} {standing : S.Standing} {room : ℕ} {p : Part} {h h₁ h₂ : S.Standing} {q q₂ : Part} → 0 < room
      → ((p' : Part) (h' : S.Standing) → Solves S b (suc k) None t standing (room - 1) p' h' → (q ≡ p') × (h₁ ≡ h')) → word q.ending ≡ codes "done"
      → ((p' : Part) (h' : S.Standing) → Replies S b k m h₁ (room - suc (length q.lines)) p' h' → (q₂ ≡ p') × (h₂ ≡ h'))
      → Reply k x t m standing room p h → (then (reply_line k x ∷ q.lines) q.sum q₂ ≡ p) × (h₂ ≡ h)
  on_agree z ih e ih₂ (r_none z' d) = absurd (omega arith)
  on_agree z ih e ih₂ (r_last {standing' = h'} {p = p'} z' s e') = let f = ih p' h' s in let y : ⊥ = e' (ap (λ (a : Part). word a.ending) (sym f.0) ∙ e) in elim y [ ]
  on_agree {k = k} {x = x} {m = m} {room = room} z ih e ih₂ (r_on {standing' = h'} {standing'' = h''} {p = p'} {q = p''} z' s e' rs) =
      let f = ih p' h' s in
      let rs' = subst (λ (y : Type 0). y) (λ i. Replies S b k m (sym f.1 i) (room - suc (length (sym f.0 i).lines)) p'' h'') rs in
      let f₂ = ih₂ p'' h'' rs' in
      (λ i. then (reply_line k x ∷ (f.0 i).lines) (f.0 i).sum (f₂.0 i), f₂.1)

  none_left : {k : ℕ} {standing : S.Standing} {room : ℕ} {p : Part} {h : S.Standing} (f : Ending) → word f ≡ codes "done" → Replies S b k none standing room p h → (no_line f 0 ≡ p) × (standing ≡ h)
  none_left f c (no_reply {e = g} d) = (no_lines f g c d refl, refl)

  cut_agree : {k : ℕ} {x : List ℕ} {t : Tree} {m : Moves} {standing : S.Standing} {room : ℕ} {p : Part} {h : S.Standing} (f : Ending) → room ≡ 0 → word f ≡ codes "cut" → Reply k x t m standing room p h → (no_line f 0 ≡ p) × (standing ≡ h)
  cut_agree f z c (r_none {e = g} z' d) = (no_lines f g c d refl, refl)
  cut_agree f z c (r_last z' s e) = absurd (omega arith)
  cut_agree f z c (r_on z' s e rs) = absurd (omega arith)

  mutual
    solves_agree : {k : ℕ} {i : Option ℕ} {t : Tree} {standing : S.Standing} {room : ℕ} {p : Part} {h : S.Standing} → Solves S b k i t standing room p h
        → (p' : Part) (h' : S.Standing) → Solves S b k i t standing room p' h' → (p ≡ p') × (h ≡ h')
    solves_agree (won {e = f} e d) p' h' s = ended s (λ a. clash (cc)) (λ a. clash (cc)) f d
    solves_agree (not_won {e = f} e d) p' h' s = ended s (λ a. clash (cc)) (λ a. clash (cc)) f d
    solves_agree (stopped {e = f} e st d) p' h' s = stop_agree f st d (attack s e)
    solves_agree (no_win {e = f} e tr o d) p' h' s = none_agree f tr o d (attack s e)
    solves_agree (full {e = f} e tr o l d) p' h' s = full_agree f tr o l d (attack s e)
    solves_agree (win e tr o l more) p' h' s = win_agree tr o l (λ q k x. solves_agree more q k x) (attack s e)
    solves_agree (defends e rs) p' h' s = replies_agree rs p' h' (replies_of s e)

    replies_agree : {k : ℕ} {m : Moves} {standing : S.Standing} {room : ℕ} {p : Part} {h : S.Standing} → Replies S b k m standing room p h
        → (p' : Part) (h' : S.Standing) → Replies S b k m standing room p' h' → (p ≡ p') × (h ≡ h')
    replies_agree (no_reply {e = f} d) p' h' s = none_left f d s
    replies_agree (no_room {e = f} z d) p' h' s = cut_agree f z d (reply_of s)
    replies_agree (last z more e) p' h' s = last_agree z (λ q k x. solves_agree more q k x) e (reply_of s)
    replies_agree (reply z more e rs) p' h' s = on_agree z (λ q k x. solves_agree more q k x) e (λ q k x. replies_agree rs q k x) (reply_of s)

pub solutions_agree_lem : (S : Storing) → TrialsAgree S → SolutionsAgree S
solutions_agree_lem S agree standing t b i room p p' h h' s s' = solves_agree S agree b s p' h' s'
