-- A legal move keeps the rules of a position.
use Rattle.std.proofs.Common.{◌≡◌, ℕ, ◌+◌, ◌<◌, ◌≤◌, Bool, true, false, cond, not, ◌&&◌, eqb, ◌≢◌, ◌⊎◌, length, set, Some, None, Option, sym, refl, ap, ◌∙◌, subst, inl, inr, ⊎_elim, arith, get_or-set_other, get_or-set_same}
use Rattle.std.proofs.lemmas.List.{length-set}
use Rattle.std.proofs.lemmas.Bool.{and_parts, false≢true, cases_eq}
use Rattle.board.specs.Squares.{file, row, away}
use Rattle.chess_attacks.specs.declared.men.Man.{Man}
use Rattle.chess_attacks.specs.declared.men.Kind.{Kind}
use Rattle.chess_attacks.specs.declared.men.Kind.TheVariants.{Pawn}
use Rattle.chess_attacks.specs.declared.men.Side.{Side}
use Rattle.chess_attacks.specs.declared.men.Side.TheVariants.{White, Black}
use Rattle.chess_attacks.specs.Men.{Squares, on, given, other, same_side, is_king, is_pawn, of, king_of}
use Rattle.chess_attacks.specs.Commands.{Commands, Attacked, Checked}
use Rattle.chess_attacks.specs.Lists.{beside, numbered}
use Rattle.chess_attacks.proofs.Sides.{side-true, side_same, other-twice, king_is, pawn_kind}
use Rattle.chess_moves.specs.declared.diagram.Diagram.{Diagram}
use Rattle.chess_moves.specs.declared.step.Move.{Move}
use Rattle.chess_moves.specs.declared.step.Promotion.{Promotion}
use Rattle.chess_moves.specs.declared.step.Promotion.TheVariants.{Queen as ToQueen, Rook as ToRook, Bishop as ToBishop, Knight as ToKnight}
use Rattle.chess_moves.specs.Pawns.{forward, last_row, kind_of, becoming, is_passing, en_passant, two_rows, squared, passes}
use Rattle.chess_moves.specs.After.{moved, less_passed, after, played}
use Rattle.chess_moves.specs.Moves.{passing_of}
use Rattle.chess_moves.specs.Count.{men, kings, tally}
use Rattle.chess_moves.specs.Legal.{Holds, Goes, Becomes, Legal}
use Rattle.chess_moves.specs.Legal.Goes.{officer, step, two_step, capture, en_passant as takes_passing}
use Rattle.chess_moves.proofs.Legality.{holds_means, passing_from}
use Rattle.chess_moves.proofs.Numbers.{numbered_is}
use Rattle.chess_rules.specs.Lawful.{went_to, pawn_of, Passed, EnPassant, Lawful}
use Rattle.chess_rules.specs.Keeping.{MovesKeep}
use Rattle.chess_rules.proofs.Tallies.{unit, tally_set}
use Rattle.chess_rules.proofs.Paths.{pawn-rows, between, Over, stepped-over, over-beside, over-within, over-apart, over_end, new_passed, back_step, went_in, went_off}

-- the rules of a board, with the side to move and the square that a pawn has just passed
pub record Ruled (b : Squares) (a : Side) (e : Option ℕ) : Type 0 where
  pub whole : length b ≡ 64
  pub one_king : (c : Side) → kings b c ≡ 1
  pub few_men : (c : Side) → men b c ≤ 16
  pub inner_pawns : (s : ℕ) (m : Man) → s < 64 → on b s ≡ Some m → m.kind ≡ Pawn → (0 < row s) × (row s < 7)
  pub quiet : Checked b (other a) → ⊥
  pub passing : EnPassant b a e

either_side : (P : Side → Type 0) (a : Side) → P a → P (other a) → (c : Side) → P c
either_side P White h k White = h
either_side P White h k Black = k
either_side P Black h k White = k
either_side P Black h k Black = h

same-other : (a : Side) → same_side (other a) a ≡ false
same-other White = refl
same-other Black = refl

-- a man of the other side is none of this one
other-not : (a : Side) (o : Option Man) → of (other a) o ≡ true → of a o ≡ false
other-not a None h = refl
other-not a (Some m) h = ap (λ (c : Side). same_side c a) (side_same m.side (other a) h) ∙ same-other a

own_king : (a : Side) (o : Option Man) → of a o ≡ false → king_of a o ≡ false
own_king a None h = refl
own_king a (Some m) h = ap (λ x. x && is_king m.kind) h

and_false : (x : Bool) → (x && false) ≡ false
and_false true = refl
and_false false = refl

-- neither a pawn nor what it becomes is a king, and what it becomes is no pawn
promoted_king : (k : Promotion) → is_king (kind_of k) ≡ false
promoted_king ToQueen = refl
promoted_king ToRook = refl
promoted_king ToBishop = refl
promoted_king ToKnight = refl

promoted_pawn : (k : Promotion) → is_pawn (kind_of k) ≡ false
promoted_pawn ToQueen = refl
promoted_pawn ToRook = refl
promoted_pawn ToBishop = refl
promoted_pawn ToKnight = refl

-- a square after one was cleared
cleared : (c : Squares) (u s : ℕ) → s < length c → (on (set c u None) s ≡ None) ⊎ (on (set c u None) s ≡ on c s)
cleared c u s h = go (cases_eq s u)
  where
    go : (s ≡ u) ⊎ (s ≡ u → ⊥) → (on (set c u None) s ≡ None) ⊎ (on (set c u None) s ≡ on c s)
    go (inl e) = inl (rw (← e, get_or-set_same) refl)
    go (inr n) = inr (let ne : s ≢ u = n in rw get_or-set_other refl)

-- the pawn that passed is off the board
pub record Removed (a : Side) (t : ℕ) (m x : Squares) : Type 0 where
  pub at : ℕ
  pub in_board : at < 64
  pub not_to : at ≢ t
  pub pawn : on m at ≡ pawn_of (other a)
  pub is : x ≡ set m at None

module _ (b : Squares) (e : Option ℕ) (m : Man) (f t : ℕ) (q : Option Promotion)
    (law : Ruled b m.side e) (f-in : f < 64) (t-in : t < 64) (there : on b f ≡ Some m)
    (way : Goes b e m f t) (turns : Becomes m t q) where
  abbrev a : Side
  a = m.side

  abbrev M : Squares
  M = moved b m f t q

  abbrev X : Squares
  X = after b e m f t q

  own : of a (on b f) ≡ true
  own = ap (of a) there ∙ side-true a a refl

  -- an en passant square is empty
  passed_at : (e : Option ℕ) → EnPassant b a e → e ≡ Some t → Passed b a t
  passed_at e p h = subst (EnPassant b a) h p

  no_holds : (c : Side) → (Holds b c t → ⊥) → (x : Bool) → of c (on b t) ≡ x → x ≡ false
  no_holds c n true h = absurd (n ((holds_means b c t).0 h))
  no_holds c n false h = refl

  not_own : Goes b e m f t → of a (on b t) ≡ false
  not_own (officer n c h) = no_holds a h (of a (on b t)) refl
  not_own (step p h c) = ap (of a) c
  not_own (two_step p r x h c) = ap (of a) c
  not_own (capture p c h) = other-not a (on b t) ((holds_means b (other a) t).1 h)
  not_own (takes_passing p c h) = ap (of a) (passed_at e law.passing h).clear

  -- to take a king, the side that has just moved would have left it attacked
  hit : Commands b m f t → (x : Bool) → king_of (other a) (on b t) ≡ x → x ≡ false
  hit c true h =
      let attack : Attacked b t (other (other a)) = record { from = f; inside = f-in; man = m; there = there; of_side = sym (other-twice a); commands = c } in
      absurd (law.quiet (record { at = t; inside = t-in; there = king_is (other a) (on b t) h; attacked = attack }))
  hit c false h = refl

  not_king : Goes b e m f t → king_of (other a) (on b t) ≡ false
  not_king (officer n c h) = hit c (king_of (other a) (on b t)) refl
  not_king (step p h c) = ap (king_of (other a)) c
  not_king (two_step p r x h c) = ap (king_of (other a)) c
  not_king (capture p c h) = hit c (king_of (other a) (on b t)) refl
  not_king (takes_passing p c h) = hit c (king_of (other a) (on b t)) refl

  no_king : (c : Side) → king_of c (on b t) ≡ false
  no_king = either_side (λ c. king_of c (on b t) ≡ false) a (own_king a (on b t) (not_own way)) (not_king way)

  apart_squares : f ≢ t
  apart_squares same = false≢true (sym (not_own way) ∙ (ap (λ s. of a (on b s)) (sym same) ∙ own))

  -- the board after the move is the moved one, perhaps less a pawn
  removed : Passed b a t → less_passed M a t ≡ X → Removed a t M X
  removed p z =
      let off = went_off a t p.on_row in
      let not-from : went_to a t ≢ f = λ w. false≢true (sym (same-other a) ∙ (sym (ap (of a) p.pawn) ∙ (ap (λ s. of a (on b s)) w ∙ own))) in
      record {
        at = went_to a t;
        in_board = went_in a t;
        not_to = off;
        pawn = get_or-set_other (set b f None) t (went_to a t) _ None off ∙ (get_or-set_other b f (went_to a t) None None not-from ∙ p.pawn);
        is = sym z ∙ ap (λ (o : Option ℕ). given o M (λ s. set M s None)) (back_step a t p.on_row);
      }

  after_is : (x : Bool) → en_passant e m f t ≡ x → cond x (less_passed M a t) M ≡ X
  unfolding after
  after_is x h = ap (λ y. cond y (less_passed M a t) M) (sym h)

  view_by : (x : Bool) → en_passant e m f t ≡ x → (X ≡ M) ⊎ Removed a t M X
  view_by true h =
      let p = and_parts (is_pawn m.kind) (not (eqb (file f) (file t)) && is_passing e t) h in
      let s = and_parts (not (eqb (file f) (file t))) (is_passing e t) p.1 in
      inr (removed (passed_at e law.passing (passing_from e t s.1)) (after_is true h))
  view_by false h = inl (sym (after_is false h))

  view : (X ≡ M) ⊎ Removed a t M X
  view = view_by (en_passant e m f t) refl

  size : length b ≡ 64
  size = law.whole

  size_F : length (set b f None) ≡ 64
  size_F = simp length-set size

  size_M : length M ≡ 64
  size_M = simp length-set size

  size_by : (X ≡ M) ⊎ Removed a t M X → length X ≡ 64
  size_by (inl z) = ap length z ∙ size_M
  size_by (inr r) = ap length r.is ∙ simp length-set size

  moved_to : on M t ≡ Some (becoming m q)
  moved_to = get_or-set_same (set b f None) t _ None (omega (arith, size_F))

  moved_from : on M f ≡ None
  moved_from = get_or-set_other (set b f None) t f _ None apart_squares ∙ get_or-set_same b f None None (omega (arith, size))

  moved_off : (s : ℕ) → s < 64 → s ≢ t → (on M s ≡ None) ⊎ (on M s ≡ on b s)
  moved_off s l n =
      let e = get_or-set_other (set b f None) t s (Some (becoming m q)) None n in
      ⊎_elim (λ x. inl (e ∙ x)) (λ y. inr (e ∙ y)) (cleared b f s (omega (arith, size)))

  after_to_by : (X ≡ M) ⊎ Removed a t M X → on X t ≡ Some (becoming m q)
  after_to_by (inl z) = ap (λ (c : Squares). on c t) z ∙ moved_to
  after_to_by (inr r) = ap (λ (c : Squares). on c t) r.is ∙ (get_or-set_other M r.at t None None (λ w. r.not_to (sym w)) ∙ moved_to)

  after_to : on X t ≡ Some (becoming m q)
  after_to = after_to_by view

  after_same : (s : ℕ) → s < 64 → (X ≡ M) ⊎ Removed a t M X → (on X s ≡ None) ⊎ (on X s ≡ on M s)
  after_same s l (inl z) = inr (ap (λ (c : Squares). on c s) z)
  after_same s l (inr r) =
      let e : on X s ≡ on (set M r.at None) s = ap (λ (c : Squares). on c s) r.is in
      ⊎_elim (λ x. inl (e ∙ x)) (λ y. inr (e ∙ y)) (cleared M r.at s (omega (arith, size_M)))

  after_none : (s : ℕ) → s < 64 → on M s ≡ None → on X s ≡ None
  after_none s l h = ⊎_elim (λ x. x) (λ y. y ∙ h) (after_same s l view)

  after_off : (s : ℕ) → s < 64 → s ≢ t → (on X s ≡ None) ⊎ (on X s ≡ on b s)
  after_off s l n =
      ⊎_elim inl (λ y. ⊎_elim (λ x. inl (y ∙ x)) (λ z. inr (y ∙ z)) (moved_off s l n)) (after_same s l view)

  -- counts: of what the moved man is, less what stood on t, and less the pawn that passed
  module _ (p : Option Man → Bool) (none : p None ≡ false) (same : p (Some (becoming m q)) ≡ p (Some m)) where
    nothing : unit p None ≡ 0
    nothing = ap (λ x. cond x 1 0) none

    count_M : tally p M 64 + unit p (on b t) ≡ tally p b 64
    count_M =
        let one = tally_set p b 64 f None size size_F f-in in
        let two = tally_set p (set b f None) 64 t (Some (becoming m q)) size_F size_M t-in in
        let was : unit p (on b f) ≡ unit p (Some m) = ap (unit p) there in
        let is : unit p (Some (becoming m q)) ≡ unit p (Some m) = ap (λ x. cond x 1 0) same in
        let at-t : unit p (on (set b f None) t) ≡ unit p (on b t) = ap (unit p) (get_or-set_other b f t None None (λ w. apart_squares (sym w))) in
        omega (arith, nothing)

    count_X : (v : (X ≡ M) ⊎ Removed a t M X) → (n : ℕ) × (n ≤ unit p (pawn_of (other a))) × (tally p X 64 + n ≡ tally p M 64)
    count_X (inl z) = (0, omega arith, omega (arith, ap (λ (c : Squares). tally p c 64) z))
    count_X (inr r) =
        let size-R : length (set M r.at None) ≡ 64 = simp length-set size in
        let off = tally_set p M 64 r.at None size_M size-R r.in_board in
        let was : unit p (on M r.at) ≡ unit p (pawn_of (other a)) = ap (unit p) r.pawn in
        let now : tally p X 64 ≡ tally p (set M r.at None) 64 = ap (λ (c : Squares). tally p c 64) r.is in
        (unit p (pawn_of (other a)), omega arith, omega (arith, nothing))

  king_same_by : (c : Side) (q : Option Promotion) → Becomes m t q → king_of c (Some (becoming m q)) ≡ king_of c (Some m)
  king_same_by c None h = refl
  king_same_by c (Some k) h = ap (λ x. same_side a c && x) (promoted_king k ∙ sym (ap is_king h.0))

  kings_stay : (c : Side) → kings X c ≡ 1
  kings_stay c =
      let same = king_same_by c q turns in
      let moved-count = count_M (king_of c) refl same in
      let r = count_X (king_of c) refl same view in
      let no_pawn : unit (king_of c) (pawn_of (other a)) ≡ 0 = ap (λ x. cond x 1 0) (and_false (same_side (other a) c)) in
      let free : unit (king_of c) (on b t) ≡ 0 = ap (λ x. cond x 1 0) (no_king c) in
      omega (arith, law.one_king c, r.1, r.2)

  side_same_by : (c : Side) (q : Option Promotion) → of c (Some (becoming m q)) ≡ of c (Some m)
  side_same_by c None = refl
  side_same_by c (Some k) = refl

  men_stay : (c : Side) → men X c ≤ 16
  men_stay c =
      let moved-count = count_M (of c) refl (side_same_by c q) in
      let r = count_X (of c) refl (side_same_by c q) view in
      omega (arith, law.few_men c, r.2)

  -- the pawns stay between the first and the last row
  was_pawn : (q : Option Promotion) → Becomes m t q → (becoming m q).kind ≡ Pawn → (m.kind ≡ Pawn) × (row t ≡ last_row a → ⊥)
  was_pawn None h p = (p, λ r. h (p, r))
  was_pawn (Some k) h p = absurd (false≢true (sym (promoted_pawn k) ∙ ap is_pawn p))

  pawns_stay : (s : ℕ) (n : Man) → s < 64 → on X s ≡ Some n → n.kind ≡ Pawn → (0 < row s) × (row s < 7)
  pawns_stay s n l h p = go (cases_eq s t)
    where
      go : (s ≡ t) ⊎ (s ≡ t → ⊥) → (0 < row s) × (row s < 7)
      go (inl z) =
          let here : Some (becoming m q) ≡ Some n = sym after_to ∙ (ap (on X) (sym z) ∙ h) in
          let same : becoming m q ≡ n = cc in
          let w = was_pawn q turns (ap (λ (n : Man). n.kind) same ∙ p) in
          let r = pawn-rows b e m f t w.0 way in
          let from = law.inner_pawns f m f-in there w.0 in
          let x = between a f t r.0 t-in r.1 r.2 from.0 from.1 w.1 in
          subst (λ (u : ℕ). (0 < row u) × (row u < 7)) (sym z) x
      go (inr d) =
          ⊎_elim
          (λ x. absurd (let no : None ≡ Some n = sym x ∙ h in let z : ◌≡◌ {A = ℕ} 0 1 = cc in omega arith))
          (λ y. law.inner_pawns s n l (sym y ∙ h) p)
          (after_off s l d)

  -- a square that was stepped over is an en passant square
  still_pawn : (q : Option Promotion) → Becomes m t q → m.kind ≡ Pawn → (row t ≡ last_row a → ⊥) → Some (becoming m q) ≡ pawn_of a
  still_pawn None h p n = ap (λ (k : Kind). Some (record { side = a; kind = k })) p
  still_pawn (Some k) h p n = absurd (n h.1)

  stepped : m.kind ≡ Pawn → two_rows f t ≡ true → EnPassant X (other a) (numbered (squared (beside (forward a) f)))
  stepped p d =
      let o : Over b a f t = stepped-over b e m f t p d way in
      let u = away (forward a) f 1 in
      let u-in = over-within a f f-in o.start in
      let clear : on X (away (forward a) f 1) ≡ None = ⊎_elim (λ x. x) (λ y. y ∙ o.clear) (after_off (away (forward a) f 1) u-in (over-apart a f t o.start o.far)) in
      let here : numbered (squared (beside (forward a) f)) ≡ Some (away (forward a) f 1)
      = ap (λ (x : Option ℕ). numbered (squared x)) (over-beside a f o.start) ∙ numbered_is (Some (away (forward a) f 1)) (λ n z. let same : away (forward a) f 1 ≡ n = cc in subst (λ (y : ℕ). y < 64) same u-in) in
      subst (EnPassant X (other a)) (sym here)
      (new_passed a X f t o.start o.far clear (after_none f f-in moved_from)
      (after_to ∙ still_pawn q turns p (over_end a f t o.start o.far)))

  passing_stays : (x : Bool) → (is_pawn m.kind && two_rows f t) ≡ x → EnPassant X (other a) (numbered (cond x (squared (beside (forward a) f)) None))
  passing_stays false h = tt
  passing_stays true h =
      let p = and_parts (is_pawn m.kind) (two_rows f t) h in
      stepped (pawn_kind m.kind p.0) p.1

  pub keeps_man : (Checked X a → ⊥) → Ruled X (other a) (numbered (passes m f t))
  keeps_man safe = record {
    whole = size_by view;
    one_king = kings_stay;
    few_men = men_stay;
    inner_pawns = pawns_stay;
    quiet = λ c. safe (subst (Checked X) (other-twice a) c);
    passing = passing_stays (is_pawn m.kind && two_rows f t) refl;
  }

lawful_ruled : (d : Diagram) → Lawful d → Ruled d.board d.mover (passing_of d)
lawful_ruled d h = record { whole = h.whole; one_king = h.one_king; few_men = h.few_men; inner_pawns = h.inner_pawns; quiet = h.quiet; passing = h.passing }

ruled_lawful : (d : Diagram) → Ruled d.board d.mover (passing_of d) → Lawful d
ruled_lawful d h = record { whole = h.whole; one_king = h.one_king; few_men = h.few_men; inner_pawns = h.inner_pawns; quiet = h.quiet; passing = h.passing }

module _ (d : Diagram) (law : Lawful d) (v : Move) (l : Legal d v) where
  abbrev next : Man → Diagram
  next m = record {
    board = after d.board (passing_of d) m v.from.number v.to.number v.promotion;
    mover = other d.mover;
    passing = passes m v.from.number v.to.number;
  }

  keeps_next : Lawful (next l.man)
  keeps_next =
      let m = l.man in
      let ruled : Ruled d.board m.side (passing_of d) = subst (λ (c : Side). Ruled d.board c (passing_of d)) (sym l.ours) (lawful_ruled d law) in
      let safe : Checked (next l.man).board l.man.side → ⊥ = λ c. l.safe (subst (Checked (next l.man).board) l.ours c) in
      ruled_lawful (next l.man)
      (subst (λ (c : Side). Ruled (next l.man).board (other c) (numbered (passes l.man v.from.number v.to.number))) l.ours
      (keeps_man d.board (passing_of d) l.man v.from.number v.to.number v.promotion ruled v.from.ok v.to.ok l.there l.way l.turns safe))

  keeps : Lawful (played d v)
  keeps = subst (λ (o : Option Man). Lawful (given o d next)) (sym l.there) keeps_next

pub moves-keep : MovesKeep
moves-keep d law v l = keeps d law v l
