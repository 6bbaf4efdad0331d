-- A move is listed exactly when it is legal.
use Rattle.std.proofs.Common.{◌≡◌, ℕ, zero, suc, ◌+◌, ◌<◌, ◌≤◌, Bool, true, false, cond, not, ◌&&◌, ◌||◌, eqb, ◌⊎◌, List, [], ◌∷◌, ◌++◌, Some, None, Decides, Option, sym, refl, ap, ◌∙◌, subst, inl, inr, ⊎_elim, arith}
use Rattle.std.specs.List.{ContainsAt as Has, AllByRecursion}
use Rattle.std.proofs.ByRecursion.{All-append, has_append_left, has_append_right}
use Rattle.std.proofs.lemmas.Bool.{and_parts, and_from, or_cases, or_left, or_right, eqb-true, eq-eqb, not-true, not_from_false, false≢true, cases_lt}
use Rattle.std.proofs.lemmas.Bool.Decides.{not_from_Decides}
use Rattle.board.specs.Squares.{row, away}
use Rattle.board.specs.Masks.{member}
use Rattle.chess_attacks.specs.declared.men.Man.{Man}
use Rattle.chess_attacks.specs.declared.men.Kind.TheVariants.{Pawn}
use Rattle.chess_attacks.specs.declared.men.Side.{Side}
use Rattle.chess_attacks.specs.Men.{Squares, on, given, other, same_side, is_pawn, of}
use Rattle.chess_attacks.specs.Lists.{line, checked}
use Rattle.chess_attacks.specs.Commands.{Reached, Commands, Checked}
use Rattle.chess_attacks.proofs.Sides.{side-true, side_same, pawn_kind}
use Rattle.chess_attacks.proofs.Meaning.{line_run, run_line, decides_commands, checked_means}
use Rattle.chess_moves.specs.declared.diagram.Diagram.{Diagram}
use Rattle.chess_moves.specs.declared.step.Move.{Move}
use Rattle.chess_moves.specs.declared.step.Promotion.{Promotion}
use Rattle.chess_moves.specs.declared.step.Promotion.TheVariants.{Queen, Rook, Bishop, Knight}
use Rattle.chess_moves.specs.Pawns.{forward, start_row, last_row, stride, at_end, is_passing, square}
use Rattle.chess_moves.specs.After.{after}
use Rattle.chess_moves.specs.Moves.{empty, reach_of, steps_of, goes, a_move, one, tries, moves_to, moves_from, legal_moves, passing_of}
use Rattle.chess_moves.specs.Legal.{Holds, Ahead, Goes, AtEnd, Becomes, Legal}
use Rattle.chess_moves.specs.Legal.Goes.{officer, step, two_step, capture, en_passant}
use Rattle.chess_moves.proofs.Numbers.{square-number, move-is}
use Rattle.chess_moves.proofs.Parts.{one_is, tries_is, to_more, to-rest, from_more, from-rest, of_man}

-- tests of what stands on a square
module _ (b : Squares) (a : Side) (t : ℕ) where
  holds_from : (o : Option Man) → on b t ≡ o → of a o ≡ true → Holds b a t
  holds_from None e h = absurd (false≢true h)
  holds_from (Some m) e h = record { man = m; there = e; of_side = side_same m.side a h }

  pub holds_means : Decides (of a (on b t)) (Holds b a t)
  holds_means = (holds_from (on b t) refl, λ h. ap (of a) h.there ∙ side-true h.man.side a h.of_side)

pub empty-none : (o : Option Man) → empty o ≡ true → o ≡ None
empty-none None h = refl
empty-none (Some m) h = absurd (false≢true h)

pub passing_from : (e : Option ℕ) (t : ℕ) → is_passing e t ≡ true → e ≡ Some t
passing_from None t h = absurd (false≢true h)
passing_from (Some s) t h = ap Some (eqb-true s t h)

pub passing_to : (e : Option ℕ) (t : ℕ) → e ≡ Some t → is_passing e t ≡ true
passing_to e t h = ap (λ o. is_passing o t) h ∙ eq-eqb t t refl

-- a pawn's steps
module _ (b : Squares) (e : Option ℕ) (m : Man) (f t : ℕ) (f-in : f < 64) (p : m.kind ≡ Pawn) (clear : on b t ≡ None) where
  abbrev a : Side
  a = m.side

  stride_two : (x : Bool) → eqb (row f) (start_row a) ≡ x → 2 ≤ cond x 2 1 → row f ≡ start_row a
  stride_two true h l = eqb-true (row f) (start_row a) h
  stride_two false h l = absurd (let z : ⊥ = omega arith in z)

  stride_most : (x : Bool) → cond x 2 1 ≤ 2
  stride_most true = omega arith
  stride_most false = omega arith

  by_distance : (r : Reached b (forward a) f (stride a f) t) → (r.distance < 2) ⊎ (2 ≤ r.distance) → Goes b e m f t
  by_distance r (inl l) =
      let one : r.distance ≡ 1 = omega (arith, r.some, l) in
      step p (record { OnBoard = omega (arith, r.OnBoard); target = r.target ∙ ap (away (forward a) f) one }) clear
  by_distance r (inr l) =
      let two : r.distance ≡ 2 = omega (arith, r.in_range, stride_most (eqb (row f) (start_row a))) in
      two_step p (stride_two (eqb (row f) (start_row a)) refl (omega (arith, r.in_range, two))) (r.clear 1 (omega arith) (omega arith))
      (record { OnBoard = omega (arith, r.OnBoard, two); target = r.target ∙ ap (away (forward a) f) two }) clear

  pub stepping : member t (line b (forward a) f (stride a f)) ≡ true → Goes b e m f t
  stepping h = let r = line_run b (forward a) f f-in (stride a f) t h in by_distance r (cases_lt r.distance 2)

stride-some : (x : Bool) → 1 ≤ cond x 2 1
stride-some true = omega arith
stride-some false = omega arith

module _ (b : Squares) (a : Side) (f t : ℕ) (f-in : f < 64) where
  one_step : Ahead a f t 1 → member t (line b (forward a) f (stride a f)) ≡ true
  one_step h =
      run_line b (forward a) f f-in (stride a f) t
      (record { distance = 1; some = omega arith; in_range = stride-some (eqb (row f) (start_row a)); OnBoard = h.OnBoard; target = h.target; clear = λ k x y. absurd (let z : ⊥ = omega arith in z) })

  two_steps : row f ≡ start_row a → on b (away (forward a) f 1) ≡ None → Ahead a f t 2 → member t (line b (forward a) f (stride a f)) ≡ true
  two_steps r c h =
      let far : stride a f ≡ 2 = ap (λ x. cond x 2 1) (eq-eqb (row f) (start_row a) r) in
      run_line b (forward a) f f-in (stride a f) t
      (record {
        distance = 2;
        some = omega arith;
        in_range = omega (arith, far);
        OnBoard = h.OnBoard;
        target = h.target;
        clear = λ k x y. let same : k ≡ 1 = omega arith in ap (λ n. on b (away (forward a) f n)) same ∙ c;
      })

-- the test of going says how a man goes
module _ (b : Squares) (e : Option ℕ) (m : Man) (f t : ℕ) (f-in : f < 64) where
  abbrev reaches : Bool
  reaches = reach_of b m f t

  abbrev pawn_goes : Bool → Bool
  pawn_goes s = (s && empty (on b t)) || (reaches && (of (other m.side) (on b t) || is_passing e t))

  abbrev officer_goes : Bool
  officer_goes = reaches && not (of m.side (on b t))

  commanded : reaches ≡ true → Commands b m f t
  commanded = (decides_commands b m f f-in t).0

  pawn_takes : m.kind ≡ Pawn → (reaches && (of (other m.side) (on b t) || is_passing e t)) ≡ true → Goes b e m f t
  pawn_takes p h =
      let r = and_parts reaches (of (other m.side) (on b t) || is_passing e t) h in
      ⊎_elim
      (λ x. capture p (commanded r.0) ((holds_means b (other m.side) t).0 x))
      (λ y. en_passant p (commanded r.0) (passing_from e t y))
      (or_cases (of (other m.side) (on b t)) (is_passing e t) r.1)

  pawn_steps : (x : Bool) → is_pawn m.kind ≡ x → m.kind ≡ Pawn → (member t (cond x (line b (forward m.side) f (stride m.side f)) []) && empty (on b t)) ≡ true → Goes b e m f t
  pawn_steps true q p h =
      let r = and_parts (member t (line b (forward m.side) f (stride m.side f))) (empty (on b t)) h in
      stepping b e m f t f-in p (empty-none (on b t) r.1) r.0
  pawn_steps false q p h = absurd (false≢true (sym q ∙ ap is_pawn p))

  goes_by : (x : Bool) → is_pawn m.kind ≡ x → cond x (pawn_goes (steps_of b m f t)) officer_goes ≡ true → Goes b e m f t
  goes_by true q h =
      let p = pawn_kind m.kind q in
      ⊎_elim (pawn_steps (is_pawn m.kind) refl p) (pawn_takes p)
      (or_cases (steps_of b m f t && empty (on b t)) (reaches && (of (other m.side) (on b t) || is_passing e t)) h)
  goes_by false q h =
      let r = and_parts reaches (not (of m.side (on b t))) h in
      officer (λ p. false≢true (sym q ∙ ap is_pawn p)) (commanded r.0)
      (not_from_Decides (of m.side (on b t)) (holds_means b m.side t) (not-true (of m.side (on b t)) r.1))

  -- and the other way
  reaching : Commands b m f t → reaches ≡ true
  reaching = (decides_commands b m f f-in t).1

  no_own : (x : Bool) → of m.side (on b t) ≡ x → (Holds b m.side t → ⊥) → x ≡ false
  no_own true h n = absurd (n ((holds_means b m.side t).0 h))
  no_own false h n = refl

  abbrev test : Bool → Bool
  test x = cond x (pawn_goes (steps_of b m f t)) officer_goes

  a_pawn : m.kind ≡ Pawn → pawn_goes (steps_of b m f t) ≡ true → test (is_pawn m.kind) ≡ true
  a_pawn p h = ap test (ap is_pawn p) ∙ h

  no_pawn : (x : Bool) → is_pawn m.kind ≡ x → (m.kind ≡ Pawn → ⊥) → x ≡ false
  no_pawn true q n = absurd (n (pawn_kind m.kind q))
  no_pawn false q n = refl

  a_step : m.kind ≡ Pawn → member t (line b (forward m.side) f (stride m.side f)) ≡ true → on b t ≡ None → test (is_pawn m.kind) ≡ true
  a_step p h c =
      a_pawn p (or_left (steps_of b m f t && empty (on b t)) (reaches && (of (other m.side) (on b t) || is_passing e t))
      (and_from (steps_of b m f t) (empty (on b t)) (ap (λ x. member t (cond x (line b (forward m.side) f (stride m.side f)) [])) (ap is_pawn p) ∙ h) (ap empty c)))

  a_take : m.kind ≡ Pawn → Commands b m f t → (of (other m.side) (on b t) || is_passing e t) ≡ true → test (is_pawn m.kind) ≡ true
  a_take p c h =
      a_pawn p (or_right (steps_of b m f t && empty (on b t)) (reaches && (of (other m.side) (on b t) || is_passing e t))
      (and_from reaches (of (other m.side) (on b t) || is_passing e t) (reaching c) h))

  goes_to : Goes b e m f t → goes b e m (reach_of b m f) (steps_of b m f) t ≡ true
  goes_to (officer n c h) =
      ap test (no_pawn (is_pawn m.kind) refl n)
      ∙ and_from reaches (not (of m.side (on b t))) (reaching c) (not_from_false (of m.side (on b t)) (no_own (of m.side (on b t)) refl h))
  goes_to (step p h c) = a_step p (one_step b m.side f t f-in h) c
  goes_to (two_step p r x h c) = a_step p (two_steps b m.side f t f-in r x h) c
  goes_to (capture p c h) = a_take p c (or_left (of (other m.side) (on b t)) (is_passing e t) ((holds_means b (other m.side) t).1 h))
  goes_to (en_passant p c h) = a_take p c (or_right (of (other m.side) (on b t)) (is_passing e t) (passing_to e t h))

  pub goes_means : Decides (goes b e m (reach_of b m f) (steps_of b m f) t) (Goes b e m f t)
  goes_means = (goes_by (is_pawn m.kind) refl, goes_to)

-- the test of promotion says when a pawn is at its end
at_end-from : (m : Man) (t : ℕ) → at_end m t ≡ true → AtEnd m t
at_end-from m t h =
    let r = and_parts (is_pawn m.kind) (eqb (row t) (last_row m.side)) h in
    (pawn_kind m.kind r.0, eqb-true (row t) (last_row m.side) r.1)

at_end-to : (m : Man) (t : ℕ) → AtEnd m t → at_end m t ≡ true
at_end-to m t h = and_from (is_pawn m.kind) (eqb (row t) (last_row m.side)) (ap is_pawn h.0) (eq-eqb (row t) (last_row m.side) h.1)

-- a legal move by the numbers of its squares
pub record Allowed (d : Diagram) (f t : ℕ) (k : Option Promotion) : Type 0 where
  pub man : Man
  pub there : on d.board f ≡ Some man
  pub ours : man.side ≡ d.mover
  pub way : Goes d.board (passing_of d) man f t
  pub turns : Becomes man t k
  pub safe : Checked (after d.board (passing_of d) man f t k) d.mover → ⊥

allowed_legal : (d : Diagram) (v : Move) → Allowed d v.from.number v.to.number v.promotion → Legal d v
allowed_legal d v h = record { man = h.man; there = h.there; ours = h.ours; way = h.way; turns = h.turns; safe = h.safe }

legal-at : (d : Diagram) (f t : ℕ) (k : Option Promotion) → f < 64 → t < 64 → Allowed d f t k → Legal d (a_move f t k)
legal-at d f t k f-in t-in h =
    allowed_legal d (a_move f t k)
    (subst (λ (x : ℕ). Allowed d x (square t).number k) (sym (square-number f f-in)) (subst (λ (y : ℕ). Allowed d f y k) (sym (square-number t t-in)) h))

-- the moves from f to t that are listed are legal
module _ (d : Diagram) (m : Man) (f t : ℕ) (f-in : f < 64) (t-in : t < 64) (there : on d.board f ≡ Some m) (ours : m.side ≡ d.mover) where
  abbrev One : Option Promotion → List Move
  One k = one d.board (passing_of d) m f t k

  abbrev is_in_check : Option Promotion → Bool
  is_in_check k = checked (after d.board (passing_of d) m f t k) m.side

  unchecked : (k : Option Promotion) → is_in_check k ≡ false → Checked (after d.board (passing_of d) m f t k) d.mover → ⊥
  unchecked k h c =
      not_from_Decides (is_in_check k) (checked_means (after d.board (passing_of d) m f t k) m.side) h
      (subst (Checked (after d.board (passing_of d) m f t k)) (sym ours) c)

  module _ (way : Goes d.board (passing_of d) m f t) where
    one_by : (k : Option Promotion) → Becomes m t k → (x : Bool) → is_in_check k ≡ x → AllByRecursion (Legal d) (cond x [] (a_move f t k ∷ []))
    one_by k h true c = tt
    one_by k h false c = (legal-at d f t k f-in t-in (record { man = m; there = there; ours = ours; way = way; turns = h; safe = unchecked k c }), tt)

    one_legal : (k : Option Promotion) → Becomes m t k → AllByRecursion (Legal d) (One k)
    unfolding one
    one_legal k h = one_by k h (is_in_check k) refl

    tries_by : (x : Bool) → at_end m t ≡ x → AllByRecursion (Legal d) (cond x (One (Some Queen) ++ (One (Some Rook) ++ (One (Some Bishop) ++ One (Some Knight)))) (One None))
    tries_by true h =
        let end = at_end-from m t h in
        All-append (Legal d) (One (Some Queen)) _ (one_legal (Some Queen) end)
        (All-append (Legal d) (One (Some Rook)) _ (one_legal (Some Rook) end)
        (All-append (Legal d) (One (Some Bishop)) _ (one_legal (Some Bishop) end) (one_legal (Some Knight) end)))
    tries_by false h = one_legal None (λ end. false≢true (sym h ∙ at_end-to m t end))

    tries_legal : AllByRecursion (Legal d) (tries d.board (passing_of d) m f t)
    unfolding tries
    tries_legal = tries_by (at_end m t) refl

  to_by : (x : Bool) → goes d.board (passing_of d) m (reach_of d.board m f) (steps_of d.board m f) t ≡ x → AllByRecursion (Legal d) (cond x (tries d.board (passing_of d) m f t) [])
  to_by true h = tries_legal ((goes_means d.board (passing_of d) m f t f-in).0 h)
  to_by false h = tt

  -- and a legal one is listed
  listed_one : (k : Option Promotion) → is_in_check k ≡ false → Has (One k) (a_move f t k)
  listed_one k c = subst (λ (xs : List Move). Has xs (a_move f t k)) (one_is d.board (passing_of d) m f t k false (sym c)) (0, omega arith, λ _. refl)

  not_checked : (k : Option Promotion) → (Checked (after d.board (passing_of d) m f t k) d.mover → ⊥) → (x : Bool) → is_in_check k ≡ x → x ≡ false
  not_checked k n true c = absurd (n (subst (Checked (after d.board (passing_of d) m f t k)) ours ((checked_means (after d.board (passing_of d) m f t k) m.side).0 c)))
  not_checked k n false c = refl

  among_four : AtEnd m t → (k : Promotion) → Has (One (Some k)) (a_move f t (Some k)) → Has (One (Some Queen) ++ (One (Some Rook) ++ (One (Some Bishop) ++ One (Some Knight)))) (a_move f t (Some k))
  among_four end Queen h = has_append_left (One (Some Queen)) _ _ h
  among_four end Rook h = has_append_right (One (Some Queen)) _ _ (has_append_left (One (Some Rook)) _ _ h)
  among_four end Bishop h = has_append_right (One (Some Queen)) _ _ (has_append_right (One (Some Rook)) _ _ (has_append_left (One (Some Bishop)) _ _ h))
  among_four end Knight h = has_append_right (One (Some Queen)) _ _ (has_append_right (One (Some Rook)) _ _ (has_append_right (One (Some Bishop)) _ _ h))

  not_end : (x : Bool) → at_end m t ≡ x → (AtEnd m t → ⊥) → x ≡ false
  not_end true h n = absurd (n (at_end-from m t h))
  not_end false h n = refl

  listed_try : (k : Option Promotion) → Becomes m t k → Has (One k) (a_move f t k) → Has (tries d.board (passing_of d) m f t) (a_move f t k)
  listed_try None n h =
      subst (λ (xs : List Move). Has xs (a_move f t None))
      (tries_is d.board (passing_of d) m f t false (sym (not_end (at_end m t) refl n))) h
  listed_try (Some k) end h =
      subst (λ (xs : List Move). Has xs (a_move f t (Some k)))
      (tries_is d.board (passing_of d) m f t true (sym (at_end-to m t end))) (among_four end k h)

  abbrev His : ℕ → List Move
  His n = moves_to d.board (passing_of d) m (reach_of d.board m f) (steps_of d.board m f) f n

  listed_to : (k : Option Promotion) → Goes d.board (passing_of d) m f t → Has (tries d.board (passing_of d) m f t) (a_move f t k) → Has (His 64) (a_move f t k)
  listed_to k way h =
      let r = to-rest d.board (passing_of d) m (reach_of d.board m f) (steps_of d.board m f) f (t + 1) (omega arith) in
      let here : His (t + 1) ≡ His t ++ tries d.board (passing_of d) m f t
      = to_more d.board (passing_of d) m f (reach_of d.board m f) (steps_of d.board m f) t t (t + 1) true refl refl (sym ((goes_means d.board (passing_of d) m f t f-in).1 way)) in
      subst (λ (xs : List Move). Has xs (a_move f t k)) (sym r.1)
      (has_append_left (His (t + 1)) r.0 (a_move f t k)
      (subst (λ (xs : List Move). Has xs (a_move f t k)) (sym here) (has_append_right (His t) (tries d.board (passing_of d) m f t) (a_move f t k) h)))

  listed_from : (k : Option Promotion) → Has (His 64) (a_move f t k) → Has (legal_moves d) (a_move f t k)
  listed_from k h =
      let r = from-rest d.board d.mover (passing_of d) (f + 1) (omega arith) in
      let here : moves_from d.board d.mover (passing_of d) (f + 1) ≡ moves_from d.board d.mover (passing_of d) f ++ His 64
      = from_more d.board d.mover (passing_of d) f f (f + 1) refl refl
      ∙ ap (λ xs. moves_from d.board d.mover (passing_of d) f ++ xs) (of_man d.board d.mover (passing_of d) f m true there (side-true m.side d.mover ours)) in
      subst (λ (xs : List Move). Has xs (a_move f t k)) (sym r.1)
      (has_append_left (moves_from d.board d.mover (passing_of d) (f + 1)) r.0 (a_move f t k)
      (subst (λ (xs : List Move). Has xs (a_move f t k)) (sym here) (has_append_right (moves_from d.board d.mover (passing_of d) f) (His 64) (a_move f t k) h)))

module _ (d : Diagram) where
  module _ (m : Man) (f : ℕ) (f-in : f < 64) (there : on d.board f ≡ Some m) (ours : m.side ≡ d.mover) where
    to_legal : (n : ℕ) → n ≤ 64 → AllByRecursion (Legal d) (moves_to d.board (passing_of d) m (reach_of d.board m f) (steps_of d.board m f) f n)
    unfolding moves_to
    to_legal zero h = tt
    to_legal (suc n) h =
        All-append (Legal d) (moves_to d.board (passing_of d) m (reach_of d.board m f) (steps_of d.board m f) f n) _ (to_legal n (omega arith))
        (to_by d m f n f-in h there ours (goes d.board (passing_of d) m (reach_of d.board m f) (steps_of d.board m f) n) refl)

  man_legal : (m : Man) (f : ℕ) → f < 64 → on d.board f ≡ Some m → (x : Bool) → same_side m.side d.mover ≡ x
      → AllByRecursion (Legal d) (cond x (moves_to d.board (passing_of d) m (reach_of d.board m f) (steps_of d.board m f) f 64) [])
  man_legal m f l e true h = to_legal m f l e (side_same m.side d.mover h) 64 (omega arith)
  man_legal m f l e false h = tt

  square_legal : (f : ℕ) → f < 64 → (o : Option Man) → on d.board f ≡ o
      → AllByRecursion (Legal d) (given o [] (λ m. cond (same_side m.side d.mover) (moves_to d.board (passing_of d) m (reach_of d.board m f) (steps_of d.board m f) f 64) []))
  square_legal f l None h = tt
  square_legal f l (Some m) h = man_legal m f l h (same_side m.side d.mover) refl

  from_legal : (n : ℕ) → n ≤ 64 → AllByRecursion (Legal d) (moves_from d.board d.mover (passing_of d) n)
  unfolding moves_from
  from_legal zero h = tt
  from_legal (suc n) h = All-append (Legal d) (moves_from d.board d.mover (passing_of d) n) _ (from_legal n (omega arith)) (square_legal n h (on d.board n) refl)

  pub listed_legal : AllByRecursion (Legal d) (legal_moves d)
  listed_legal = from_legal 64 (omega arith)

  pub legal_listed : (v : Move) → Legal d v → Has (legal_moves d) v
  legal_listed v h =
      let f = v.from.number in
      let t = v.to.number in
      let k = v.promotion in
      let f-in = v.from.ok in
      let t-in = v.to.ok in
      let one = listed_one d h.man f t f-in t-in h.there h.ours k (not_checked d h.man f t f-in t-in h.there h.ours k h.safe _ refl) in
      subst (Has (legal_moves d)) (sym (move-is v.from v.to k))
      (listed_from d h.man f t f-in t-in h.there h.ours k
      (listed_to d h.man f t f-in t-in h.there h.ours k h.way
      (listed_try d h.man f t f-in t-in h.there h.ours k h.turns one)))
