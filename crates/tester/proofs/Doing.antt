-- What the game, the search and the solution say of their calls is what the rules say.
use Rattle.std.proofs.Common.{◌≡◌, ℕ, ◌<◌, ◌≤◌, List, [], ◌∷◌, length, get_or, Ok, Err, Result, sym, refl, ◌∙◌, subst, MatchResult}
use Rattle.game.specs.Tree.{position, refused, nowhere, next}
use Rattle.game.specs.declared.decline.Decline.{Decline}
use Rattle.game.specs.Declines.{number}
use Rattle.game.specs.declared.decline.SetDecline.{SetDecline}
use Rattle.game.specs.declared.game.Game as game
use Rattle.table.specs.declared.Table as table
use Rattle.table.specs.declared.pair.Pair.{Pair}
use Rattle.search_laws.specs.declared.answer.Answer.{Answer}
use Rattle.search_laws.specs.Calls.{Tried}
use Rattle.solution.specs.declared.answer.Solution.{Solution}
use Rattle.solution.specs.Calls.{Answered}
use Rattle.tester.specs.declared.reply.Reply.{Reply}
use Rattle.tester.specs.declared.reply.Reply.TheVariants.{Done, Declined}
use Rattle.tester.specs.Calls.{Stand, at, Asked, set, play, take_back, trial, solution, clear, Lent, no_loan, Does, sets, not_set, plays, not_played, takes_back, not_taken_back, tries, not_tried, solves, not_solved, clears}
use Rattle.tester.specs.Replies.{set_reply, move_reply, trial_reply, solution_reply}

module _ {G T : Type 0} (g : game.Ghosts G) (h : table.Ghosts T) where
  -- another name for where the call leaves the tester
  moved : {s t s' : Stand h} {c : Asked} {l l' : Lent} {r : Reply} → t.current ≡ s'.current → t.earlier ≡ s'.earlier → t.standing ≡ s'.standing → Does g h s c l r l' t → Does g h s c l r l' s'
  moved {s = s} {t = t} {s' = s'} {c = c} {l = l} {l' = l'} {r = r} p q e d =
      let f : t ≡ s' = λ i. record { current = p i; earlier = q i; standing = e i } in subst (λ (u : Stand h). Does g h s c l r l' u) f d

  -- the calls that keep the table
  module _ (x x' : G) (y : T) where
    pub set_does : (text : List ℕ) (aim : ℕ) (r : Result (Unit {0}) SetDecline)
        → MatchResult r (λ _. (g.reading text aim ≡ position (g.current x')) × (g.earlier x' ≡ []))
        (λ e. (g.reading text aim ≡ refused (number e.cause) e.place) × (g.current x' ≡ g.current x) × (g.earlier x' ≡ g.earlier x))
        → Does g h (at g h x y) (set text aim) no_loan (set_reply r) no_loan (at g h x' y)
    set_does text aim (Ok u) k = moved refl (sym k.1) refl (sets k.0)
    set_does text aim (Err d) k = moved (sym k.1) (sym k.2) refl (not_set k.0)

    pub play_does : (i : ℕ) (r : Result (Unit {0}) Decline)
        → MatchResult r (λ _. (i < length (next (g.current x))) × (g.current x' ≡ get_or (next (g.current x)) i nowhere) × (g.earlier x' ≡ g.current x ∷ g.earlier x))
        (λ e. (length (next (g.current x)) ≤ i) × (g.current x' ≡ g.current x) × (g.earlier x' ≡ g.earlier x) × (number e ≡ 5))
        → Does g h (at g h x y) (play i) no_loan (move_reply r) no_loan (at g h x' y)
    play_does i (Ok u) k = moved (sym k.1) (sym k.2) refl (plays k.0)
    play_does i (Err d) k = moved (sym k.1) (sym k.2) refl (not_played k.3 k.0)

    pub back_does : (r : Result (Unit {0}) Decline)
        → MatchResult r (λ _. g.earlier x ≡ g.current x' ∷ g.earlier x') (λ e. (g.earlier x ≡ []) × (g.current x' ≡ g.current x) × (g.earlier x' ≡ []) × (number e ≡ 6))
        → Does g h (at g h x y) take_back no_loan (move_reply r) no_loan (at g h x' y)
    back_does (Ok u) k = takes_back k
    back_does (Err d) k = moved (sym k.1) (k.0 ∙ sym k.2) refl (not_taken_back k.3 k.0)

  pub clear_does : (x : G) (y y' : T) → h.standing y' ≡ h.storing.cleared (h.standing y) → Does g h (at g h x y) clear no_loan Done no_loan (at g h x y')
  clear_does x y y' e = moved refl refl (sym e) clears

  -- the calls that keep the path
  module _ (x x' : G) (y y' : T) (at_it : g.current x' ≡ g.current x) (path : g.earlier x' ≡ g.earlier x) where
    pub trial_does : (b : ℕ) (rs rs' : List Pair) (buffer : List ℕ) (r : Result Answer Decline) → Tried h.storing (h.standing y) (g.current x) b rs r (h.standing y') rs'
        → Does g h (at g h x y) (trial b) (record { records = rs; buffer = buffer }) (trial_reply r) (record { records = rs'; buffer = buffer }) (at g h x' y')
    trial_does b rs rs' buffer (Ok a) k = moved (sym at_it) (sym path) refl (tries k.1 k.0 k.2)
    trial_does b rs rs' buffer (Err d) k =
        subst (λ (z : List Pair). Does g h (at g h x y) (trial b) (record { records = rs; buffer = buffer }) (Declined d) (record { records = z; buffer = buffer }) (at g h x' y')) (sym k.2)
        (moved (sym at_it) (sym path) (sym k.1) (not_tried k.0))

    pub solution_does : (i b : ℕ) (rs rs' : List Pair) (buffer buffer' : List ℕ) (r : Result Solution Decline)
        → Answered h.storing (h.standing y) (g.current x) i b rs buffer r (h.standing y') rs' buffer'
        → Does g h (at g h x y) (solution i b) (record { records = rs; buffer = buffer }) (solution_reply r) (record { records = rs'; buffer = buffer' }) (at g h x' y')
    solution_does i b rs rs' buffer buffer' (Ok a) k = moved (sym at_it) (sym path) refl (solves k.1 k.0 k.2)
    solution_does i b rs rs' buffer buffer' (Err d) k =
        let e : ◌≡◌ {A = Lent} (record { records = rs; buffer = buffer }) (record { records = rs'; buffer = buffer' }) = λ j. record { records = sym k.2 j; buffer = sym k.3 j } in
        subst (λ (l : Lent). Does g h (at g h x y) (solution i b) (record { records = rs; buffer = buffer }) (Declined d) l (at g h x' y')) e
        (moved (sym at_it) (sym path) (sym k.1) (not_solved k.0))

-- a call goes the same way whatever else it is lent
module _ {G T : Type 0} {g : game.Ghosts G} {h : table.Ghosts T} {s : Stand h} where
  pub set_lent : {x : List ℕ} {aim : ℕ} {k k' : Lent} {r : Reply} {s' : Stand h} (l : Lent) → Does g h s (set x aim) k r k' s' → Does g h s (set x aim) l r l s'
  set_lent l (sets e) = sets e
  set_lent l (not_set e) = not_set e

  pub play_lent : {i : ℕ} {k k' : Lent} {r : Reply} {s' : Stand h} (l : Lent) → Does g h s (play i) k r k' s' → Does g h s (play i) l r l s'
  play_lent l (plays e) = plays e
  play_lent l (not_played n e) = not_played n e

  pub back_lent : {k k' : Lent} {r : Reply} {s' : Stand h} (l : Lent) → Does g h s take_back k r k' s' → Does g h s take_back l r l s'
  back_lent l (takes_back e) = takes_back e
  back_lent l (not_taken_back n e) = not_taken_back n e

  pub clear_lent : {k k' : Lent} {r : Reply} {s' : Stand h} (l : Lent) → Does g h s clear k r k' s' → Does g h s clear l r l s'
  clear_lent l clears = clears

  pub trial_lent : {b : ℕ} {k k' : Lent} {r : Reply} {s' : Stand h} (buffer : List ℕ) → Does g h s (trial b) k r k' s'
      → Does g h s (trial b) (record { records = k.records; buffer = buffer }) r (record { records = k'.records; buffer = buffer }) s'
  trial_lent buffer (tries n d t) = tries n d t
  trial_lent buffer (not_tried e) = not_tried e

-- the same call and reply by another name
pub renamed : {G T : Type 0} {g : game.Ghosts G} {h : table.Ghosts T} {s s' : Stand h} {l l' : Lent} {c c' : Asked} {r r' : Reply} → c ≡ c' → r ≡ r' → Does g h s c' l r' l' s' → Does g h s c l r l' s'
renamed {g = g} {h = h} {s = s} {s' = s'} {l = l} {l' = l'} p q d = subst (λ (x : Type 0). x) (λ i. Does g h s (sym p i) l (sym q i) l' s') d
