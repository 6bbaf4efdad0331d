-- A solution keeps a sound table sound, its attacker's lines are for winning moves, and each key has a line.
use Rattle.std.proofs.Common.{◌≡◌, ℕ, suc, ◌<◌, Bool, true, false, List, [], ◌∷◌, ◌++◌, map, length, get_or, take, Some, None, Option, sym, refl, ap, ◌∙◌, subst, codes, arith}
use Rattle.std.specs.List.{AllByRecursion}
use Rattle.std.proofs.ByRecursion.{All-get_or}
use Rattle.std.proofs.lemmas.List.{get_or-map, length-map}
use Rattle.game.specs.declared.state.State.TheVariants.{Attacker}
use Rattle.game.specs.Rules.{Rules}
use Rattle.game.specs.Tree.{Tree, Reading, Moves, nowhere, state, moves, successors, texts, next, words, minimax}
use Rattle.table.specs.Storings.{Storing}
use Rattle.search_laws.specs.Words as verdicts
use Rattle.search_laws.specs.Words.{value_word}
use Rattle.search_laws.specs.Claims.{Sound, TrialsAreRight}
use Rattle.solution_laws.specs.Lines.{Line}
use Rattle.solution_laws.specs.Solution.{AllTried, no_more, tried, Stops, spent, later, chosen_line, reply_line, others_from, wins, Part, Solves, won, not_won, stopped, no_win, full, win, defends, Replies, no_reply, no_room, last, reply}
use Rattle.solution_laws.specs.Words.{word}
use Rattle.solution_laws.specs.Claims.{by_text, last_at, reached, KeysHaveLines, SolutionsAreRight}
use Rattle.solution_laws.proofs.Clash.{clash}
use Rattle.solution_laws.proofs.Texts.{Distinct, by-text-at, length-texts}
use Rattle.solution_laws.proofs.Choice.{true_below, best-wins, best_none}
use Rattle.solution_laws.proofs.Reached.{Deep, deep-join, deep-less, reached-deep, reached-next, RightFrom, right-join, attacks_win, Winning, AllWinning, winning_deep, winning_take, winning_right}
use Rattle.solution_laws.proofs.Wins.{others_winning, no_lead, has_join, has_win}

module _ (positions : Tree → Type 0) (closed : (t : Tree) → positions t → AllByRecursion positions (next t)) (distinct : (t : Tree) → positions t → Distinct (moves t))
    (S : Storing) (right : TrialsAreRight positions S) (b : ℕ) where
  -- all moves tried from a sound table: the ones that win are the ones that minimax says
  tried_right : {standing : S.Standing} {m : Moves} {ws : List Bool} {n : ℕ} {standing' : S.Standing} → AllTried S b standing m ws n standing'
      → AllByRecursion positions (successors m) → Sound positions (S.shows standing) → Sound positions (S.shows standing') × (ws ≡ map minimax (successors m))
  tried_right no_more l s = (s, refl)
  tried_right {standing = standing} (tried {standing' = h} {x = x} {t = t} {m = m} {w = w} {a = a} r v more) l s =
      let f = right standing t b a h s l.0 r in
      let k = tried_right more l.1 f.0 in
      let e : w ≡ minimax t = value w v f.1 f.2 in
      (k.0, λ i. e i ∷ k.1 i)
    where
      value : (w : Bool) → verdicts.word a.verdict ≡ value_word w → (verdicts.word a.verdict ≡ codes "won" → minimax t ≡ true) → (verdicts.word a.verdict ≡ codes "not-won" → minimax t ≡ false) → w ≡ minimax t
      value true e p q = sym (p e)
      value false e p q = sym (q e)

  stops_sound : {standing : S.Standing} {m : Moves} {n : ℕ} {standing' : S.Standing} → Stops S b standing m n standing' → AllByRecursion positions (successors m) → Sound positions (S.shows standing) → Sound positions (S.shows standing')
  stops_sound {standing = standing} (spent {standing' = h} {t = t} {a = a} r v) l s = (right standing t b a h s l.0 r).0
  stops_sound {standing = standing} (later {standing' = h} {t = t} {a = a} w r v more) l s =
      stops_sound more l.1 (right standing t b a h s l.0 r).0

  -- the attacker's lines at a position
  winning_at : (t : Tree) → positions t → (i : ℕ) → get_or (map minimax (next t)) i false ≡ true → Winning t (get_or (words t) i [])
  winning_at t pt i e =
      let l = true_below (map minimax (next t)) i e in
      let n = length-map (next t) minimax in
      let k : i < length (next t) = omega arith in
      (get_or (next t) i nowhere, by-text-at (moves t) (distinct t pt) i k, sym (get_or-map minimax (next t) i nowhere false k) ∙ e)

  wins_winning : (n : ℕ) (t : Tree) (j : ℕ) (ws : List Bool) → positions t → ws ≡ map minimax (next t) → get_or ws j false ≡ true
      → AllWinning n t (wins (suc n) j ws (words t))
  wins_winning n t j ws pt e g =
      let h : (a : ℕ) → get_or ws a false ≡ true → Winning t (get_or (words t) a []) =
      λ a z. winning_at t pt a (ap (λ (l : List Bool). get_or l a false) (sym e) ∙ z) in
      (refl, h j g, others_winning n j t 0 ws (words t) h)

  -- a part of a solution: the table stays sound, its lines are of ply n + 1 and more, and its attacker's lines are for winning moves
  pub record Fine (start : Tree) (above : List Line) (n : ℕ) (p : Part) (standing' : S.Standing) : Type 0 where
    pub sound : Sound positions (S.shows standing')
    pub deep : Deep n p.lines
    pub fine : RightFrom start above p.lines

  mutual
    solves_fine : {k : ℕ} {i : Option ℕ} {t : Tree} {standing : S.Standing} {room : ℕ} {p : Part} {standing' : S.Standing} → Solves S b k i t standing room p standing'
        → (start : Tree) (above : List Line) (n : ℕ) → k ≡ suc n → positions t → Sound positions (S.shows standing) → reached start above n ≡ Some t
        → Fine start above n p standing'
    solves_fine (won e d) start above n q pt s r = record { sound = s; deep = tt; fine = tt }
    solves_fine (not_won e d) start above n q pt s r = record { sound = s; deep = tt; fine = tt }
    solves_fine {t = t} (stopped e st d) start above n q pt s r = record { sound = stops_sound st (closed t pt) s; deep = tt; fine = tt }
    solves_fine {t = t} (no_win e tr be d) start above n q pt s r = record { sound = (tried_right tr (closed t pt) s).0; deep = tt; fine = tt }
    solves_fine {k = k} {i = i} {t = t} {room = room} (full {j = j} {ws = ws} e tr be l d) start above n q pt s r =
        let f = tried_right tr (closed t pt) s in
        let w = wins_winning n t j ws pt f.1 (best-wins i ws j be) in
        let w' = subst (λ (k : ℕ). AllWinning n t (wins k j ws (words t))) (sym q) w in
        let v = winning_take n t room (wins k j ws (words t)) w' in
        record { sound = f.0; deep = winning_deep n t (take room (wins k j ws (words t))) v; fine = winning_right start above n t (take room (wins k j ws (words t))) r v }
    solves_fine {k = k} {i = i} {t = t} {room = room} (win {standing' = h} {j = j} {ws = ws} {p = p} e tr be l more) start above n q pt s r =
        let f = tried_right tr (closed t pt) s in
        let g = best-wins i ws j be in
        let ls = wins k j ws (words t) in
        let w = wins_winning n t j ws pt f.1 g in
        let w' = subst (λ (k : ℕ). AllWinning n t (wins k j ws (words t))) (sym q) w in
        let lt = true_below ws j g in
        let ln = ap length f.1 ∙ length-map (next t) minimax in
        let lj : j < length (next t) = omega arith in
        let u = get_or (next t) j nowhere in
        let nl = subst (λ (k : ℕ). last_at (suc n) (others_from k j 0 ws (words t)) ≡ None) (sym q) (no_lead n j t 0 ws (words t)) in
        let r' = reached-next start above (chosen_line k (get_or (words t) j [])) (others_from k j 0 ws (words t)) n t u r
        (by-text-at (moves t) (distinct t pt) j lj) q refl (winning_deep n t ls w') nl in
        let m = solves_fine more start (above ++ ls) (suc n) (ap suc q) (All-get_or positions (next t) j nowhere lj (closed t pt)) f.0 r' in
        record {
          sound = m.sound;
          deep = deep-join n ls p.lines (winning_deep n t ls w') (deep-less n p.lines m.deep);
          fine = right-join start above ls p.lines (winning_right start above n t ls r w') m.fine;
        }
    solves_fine {t = t} (defends e rs) start above n q pt s r =
        replies_fine rs start above n t q s r (closed t pt) (λ i l. by-text-at (moves t) (distinct t pt) i l)

    replies_fine : {k : ℕ} {m : Moves} {standing : S.Standing} {room : ℕ} {p : Part} {standing' : S.Standing} → Replies S b k m standing room p standing'
        → (start : Tree) (above : List Line) (n : ℕ) (t : Tree) → k ≡ suc n → Sound positions (S.shows standing) → reached start above n ≡ Some t
        → AllByRecursion positions (successors m) → ((i : ℕ) → i < length (successors m) → by_text (get_or (texts m) i []) (moves t) ≡ Some (get_or (successors m) i nowhere))
        → Fine start above n p standing'
    replies_fine (no_reply c) start above n t q s r l d = record { sound = s; deep = tt; fine = tt }
    replies_fine (no_room z c) start above n t q s r l d = record { sound = s; deep = tt; fine = tt }
    replies_fine {k = k} (last {x = x} {t = u} {p = p} z more e) start above n t q s r l d =
        let y = reply_line k x in
        let r' = reached-next start above y [] n t u r (d 0 (omega arith)) q refl (omega arith, tt) refl in
        let m = solves_fine more start (above ++ (y ∷ [])) (suc n) (ap suc q) l.0 s r' in
        record {
          sound = m.sound;
          deep = (omega arith, deep-less n p.lines m.deep);
          fine = (λ h. clash (cc), m.fine);
        }
    replies_fine {k = k} (reply {x = x} {t = u} {p = p} {q = p'} z more e rs) start above n t q s r l d =
        let y = reply_line k x in
        let r' = reached-next start above y [] n t u r (d 0 (omega arith)) q refl (omega arith, tt) refl in
        let m = solves_fine more start (above ++ (y ∷ [])) (suc n) (ap suc q) l.0 s r' in
        let dy : Deep n (y ∷ p.lines) = (omega arith, deep-less n p.lines m.deep) in
        let fy : RightFrom start above (y ∷ p.lines) = (λ h. clash (cc), m.fine) in
        let r'' = reached-deep start above (y ∷ p.lines) n dy ∙ r in
        let rest = replies_fine rs start (above ++ (y ∷ p.lines)) n t q m.sound r'' l.1 (λ i o. d (suc i) (omega arith)) in
        record {
          sound = rest.sound;
          deep = deep-join n (y ∷ p.lines) p'.lines dy rest.deep;
          fine = right-join start above (y ∷ p.lines) p'.lines fy rest.fine;
        }

  keys_in : {k : ℕ} {i : Option ℕ} {t : Tree} {standing : S.Standing} {room : ℕ} {p : Part} {standing' : S.Standing} → Solves S b k i t standing room p standing'
      → k ≡ 1 → state t ≡ Attacker → positions t → Sound positions (S.shows standing) → word p.ending ≡ codes "done" → KeysHaveLines t p.lines
  keys_in (won e c) q a pt s d i l w = clash (cc)
  keys_in (not_won e c) q a pt s d i l w = clash (cc)
  keys_in (stopped e st c) q a pt s d i l w = absurd (cc)
  keys_in {i = o} {t = t} (no_win {ws = ws} e tr be c) q a pt s d i l w =
      let f = tried_right tr (closed t pt) s in
      let z = best_none o ws be i (ap (λ (x : List Bool). get_or x i false) f.1 ∙ get_or-map minimax (next t) i nowhere false l ∙ w) in
      elim z [ ]
  keys_in (full e tr be r c) q a pt s d i l w = absurd (cc)
  keys_in {k = k} {t = t} (win {j = j} {ws = ws} {p = p} e tr be r more) q a pt s d i l w =
      let f = tried_right tr (closed t pt) s in
      let n = length-texts (moves t) in
      let h = has_win k j ws (words t) i (ap (λ (x : List Bool). get_or x i false) f.1 ∙ get_or-map minimax (next t) i nowhere false l ∙ w) (omega arith) in
      let g = has_join k (get_or (words t) i []) (wins k j ws (words t)) p.lines h in
      (g.0, g.1, g.2, g.3, g.4 ∙ q, g.5, g.6)
  keys_in (defends e rs) q a pt s d i l w = clash (cc)

pub solutions_are_right_lem : {start : Tree} {positions : Tree → Type 0} {depth width : ℕ} {reading : List ℕ → ℕ → Reading} → Rules start positions depth width reading
    → (S : Storing) → TrialsAreRight positions S → SolutionsAreRight positions S
solutions_are_right_lem {positions = positions} rules S right standing t b i room p standing' s pt a sol =
    let f = solves_fine positions rules.closed rules.distinct S right b sol t [] 0 refl pt s refl in
    record { sound = f.sound; attacks_win = attacks_win t p.lines f.fine; keys_have_lines = λ e. keys_in positions rules.closed rules.distinct S right b sol refl a pt s e }
