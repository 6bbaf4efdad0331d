-- The lists of commanded squares, and the tests of attack and check, say what the definitions by direction and distance say.
use Rattle.std.proofs.Common.{◌≡◌, ℕ, zero, suc, ◌+◌, ◌*◌, ◌<◌, ◌≤◌, Bool, true, false, cond, ◌&&◌, eqb, Some, None, Decides, Option, sym, refl, ap, ◌∙◌, subst, ⊎_elim, arith}
use Rattle.std.proofs.lemmas.Bool.{and_parts, and_from, eqb-true, eq-eqb, cases_lt, false≢true}
use Rattle.std.proofs.lemmas.Bool.Decides.{Decides-at}
use Rattle.board.specs.Squares.{file, row, reach, away}
use Rattle.board.specs.Masks.{member, mask, word, bit}
use Rattle.board.specs.declared.direction.Direction.{Direction}
use Rattle.board.proofs.Bits.{bit_mask, bit_word}
use Rattle.chess_attacks.specs.declared.men.Man.{Man}
use Rattle.chess_attacks.specs.declared.men.Kind.{Kind}
use Rattle.chess_attacks.specs.declared.men.Kind.TheVariants.{King, Queen, Rook, Bishop, Knight, Pawn}
use Rattle.chess_attacks.specs.declared.men.Side.{Side}
use Rattle.chess_attacks.specs.Men.{Squares, on, given, other, same_side, is_knight, king_of}
use Rattle.chess_attacks.specs.Ranges.{range_of}
use Rattle.chess_attacks.specs.Commands.{Reached, Along, gap, Commands, Attacked, Checked}
use Rattle.chess_attacks.specs.Commands.Commands.{by_line, by_leap}
use Rattle.chess_attacks.specs.Lists.{beside, line, lines, leaps, leap, single, commands, attacks, attacked, king_hit, checked}
use Rattle.chess_attacks.proofs.Sides.{side-true, side_same, king_is, kind_same}
use Rattle.chess_attacks.proofs.Back.{at_all, leap-back}
use Rattle.chess_attacks.proofs.Onward.{away-none, beside_away, beside_edge}
use Rattle.chess_attacks.proofs.Reach.{Way, line_way, way_line, way-some}
use Rattle.chess_attacks.proofs.Reach.Way.{one, more}
use Rattle.chess_attacks.proofs.Ways.{ways_some, ways_from, leaps_some}
use Rattle.chess_attacks.proofs.Members.{member-lines, member-leaps, member-single, decides-any}
use Rattle.chess_attacks.proofs.Attackers.{decides-attacked}

-- a way by steps is a way by distance
module _ (b : Squares) (d : Direction) (f : ℕ) (in' : f < 64) where
  pub record Far (j k t : ℕ) : Type 0 where
    pub inside : j + k ≤ reach d f
    pub target : t ≡ away d f (j + k)
    pub clear : (i : ℕ) → j < i → i < j + k → on b (away d f i) ≡ None

  stepped : (j s u : ℕ) → s ≡ away d f j → j ≤ reach d f → beside d s ≡ Some u → (j < reach d f) × (u ≡ away d f (j + 1))
  stepped j s u e l h =
      ⊎_elim
      (λ (x : j < reach d f). (x, let same : Some u ≡ Some (away d f (j + 1)) = sym h ∙ (ap (beside d) e ∙ beside_away d f in' j x) in cc))
      (λ (y : reach d f ≤ j). absurd (let no : None ≡ Some u = sym (ap (beside d) e ∙ beside_edge d f in' j (omega arith)) ∙ h in let z : ◌≡◌ {A = ℕ} 0 1 = cc in omega arith))
      (cases_lt j (reach d f))

  way_far : {s t k : ℕ} → Way b d s t k → (j : ℕ) → s ≡ away d f j → j ≤ reach d f → Far j k t
  way_far (one {s} {t} e) j is l =
      let r = stepped j s t is l e in
      record { inside = omega (arith, r.0); target = r.1; clear = λ i x y. absurd (let z : ⊥ = omega arith in z) }
  way_far (more {s} {u} {t} {k} e x w) j is l =
      let r = stepped j s u is l e in
      let q : Far (j + 1) k t = way_far w (j + 1) r.1 (omega (arith, r.0)) in
      let sum : (j + 1) + k ≡ j + suc k = omega arith in
      record {
        inside = omega (arith, q.inside);
        target = q.target ∙ ap (away d f) sum;
        clear = λ i y z. ⊎_elim (λ (h : j + 1 < i). q.clear i h (omega arith)) (λ (h : i ≤ j + 1). let same : i ≡ j + 1 = omega arith in ap (λ n. on b (away d f n)) same ∙ (ap (on b) (sym r.1) ∙ x)) (cases_lt (j + 1) i);
      }

  far_way : (k j : ℕ) → j + suc k ≤ reach d f → ((i : ℕ) → j < i → i < j + suc k → on b (away d f i) ≡ None) → Way b d (away d f j) (away d f (j + suc k)) (suc k)
  far_way zero j l h = one (beside_away d f in' j (omega arith))
  far_way (suc k) j l h =
      let sum : (j + 1) + suc k ≡ j + suc (suc k) = omega arith in
      let rest : Way b d (away d f (j + 1)) (away d f ((j + 1) + suc k)) (suc k) = far_way k (j + 1) (omega arith) (λ i x y. h i (omega arith) (omega arith)) in
      more (beside_away d f in' j (omega arith)) (h (j + 1) (omega arith) (omega arith)) (rw sum at rest)

-- the leaps by steps are the leaps by distance: checked at the 64 squares
abbrev leap_test : ℕ → ℕ → Bool
leap_test f t = eqb (gap (file f) (file t) * gap (row f) (row t)) 2

leap-words : (f : ℕ) → f < 64 → mask (leaps f) ≡ word 64 (leap_test f)
unfolding mask leaps word
leap-words f l = eqb-true (mask (leaps f)) (word 64 (leap_test f)) (at_all (λ f. eqb (mask (leaps f)) (word 64 (leap_test f))) refl f l)

leap-is : (f t : ℕ) → f < 64 → t < 64 → member t (leaps f) ≡ leap_test f t
leap-is f t l h = sym (bit_mask (leaps f) t) ∙ (ap (λ w. bit w t) (leap-words f l) ∙ bit_word 64 (leap_test f) t h)

leap-within : (f t : ℕ) → f < 64 → member t (leaps f) ≡ true → t < 64
leap-within f t l h =
    let r = leaps_some (λ o e. member t (single (leap o e f))) (sym (member-leaps f t) ∙ h) in
    (leap-back r.2 f t l (member-single t (leap r.0 r.1 f) r.3)).0

no_range : (m : Man) (d : Direction) → is_knight m.kind ≡ true → range_of m d ≡ 0
no_range m d h = go m.kind h
  where
    go : (k : Kind) → is_knight k ≡ true → range_of (record { side = m.side; kind = k }) d ≡ 0
    go King h = absurd (false≢true h)
    go Queen h = absurd (false≢true h)
    go Rook h = absurd (false≢true h)
    go Bishop h = absurd (false≢true h)
    go Knight h = refl
    go Pawn h = absurd (false≢true h)

module _ (b : Squares) (d : Direction) (f : ℕ) (in' : f < 64) (n t : ℕ) where
  pub line_run : member t (line b d f n) ≡ true → Reached b d f n t
  line_run h =
      let w = line_way b d n f t h in
      let q : Far b d f in' 0 w.0 t = way_far b d f in' w.2 0 (sym (away-none d f in')) (omega arith) in
      let same : 0 + w.0 ≡ w.0 = omega arith in
      record {
        distance = w.0;
        some = way-some w.2;
        in_range = w.1;
        OnBoard = omega (arith, q.inside);
        target = q.target ∙ ap (away d f) same;
        clear = λ k x y. q.clear k x (omega arith);
      }

  -- the way of a distance that is not 0
  line_at : (k : ℕ) → 0 < k → k ≤ n → k ≤ reach d f → t ≡ away d f k → ((i : ℕ) → 0 < i → i < k → on b (away d f i) ≡ None) → member t (line b d f n) ≡ true
  line_at zero p l i e c = absurd (let z : ⊥ = omega arith in z)
  line_at (suc k) p l i e c =
      let sum : 0 + suc k ≡ suc k = omega arith in
      let w : Way b d (away d f 0) (away d f (0 + suc k)) (suc k) = far_way b d f in' k 0 (omega arith) (λ i x y. c i x (omega arith)) in
      let at-t : Way b d (away d f 0) t (suc k) = subst (λ (x : ℕ). Way b d (away d f 0) x (suc k)) (ap (away d f) sum ∙ sym e) w in
      let from-f : Way b d f t (suc k) = subst (λ (x : ℕ). Way b d x t (suc k)) (away-none d f in') at-t in
      way_line b d n from-f l

  pub run_line : Reached b d f n t → member t (line b d f n) ≡ true
  run_line r = line_at r.distance r.some r.in_range r.OnBoard r.target r.clear

  -- the squares of a line are those reached
  pub line_means : (w : ℕ) → w ≡ mask (line b d f n) → Decides (bit w t) (Reached b d f n t)
  line_means w e = Decides-at (bit w t) (member t (line b d f n)) (ap (λ w. bit w t) e ∙ bit_mask (line b d f n) t) (line_run, run_line)

module _ (b : Squares) (m : Man) (f : ℕ) (in' : f < 64) (t : ℕ) where
  along_from : member t (lines b m f) ≡ true → Along b m f t
  along_from h =
      let w = ways_some (λ d. member t (line b d f (range_of m d))) (sym (member-lines b m f t) ∙ h) in
      record { direction = w.0; reached = line_run b w.0 f in' (range_of m w.0) t w.1 }

  along_to : Along b m f t → member t (lines b m f) ≡ true
  along_to a =
      member-lines b m f t
      ∙ ways_from (λ d. member t (line b d f (range_of m d))) a.direction
      (run_line b a.direction f in' (range_of m a.direction) t a.reached)

  commands_from : (x : Bool) → is_knight m.kind ≡ x → member t (cond x (leaps f) (lines b m f)) ≡ true → Commands b m f t
  commands_from true k h =
      let l : t < 64 = leap-within f t in' h in
      by_leap (kind_same m.kind Knight k) l (eqb-true (gap (file f) (file t) * gap (row f) (row t)) 2 (sym (leap-is f t in' l) ∙ h))
  commands_from false k h = by_line (along_from h)

  commands_to : (x : Bool) → is_knight m.kind ≡ x → Commands b m f t → member t (cond x (leaps f) (lines b m f)) ≡ true
  commands_to true k (by_line a) = absurd (let none = no_range m a.direction k in let z : ⊥ = omega (arith, a.reached.some, a.reached.in_range) in z)
  commands_to true k (by_leap e l h) = leap-is f t in' l ∙ eq-eqb (gap (file f) (file t) * gap (row f) (row t)) 2 h
  commands_to false k (by_line a) = along_to a
  commands_to false k (by_leap e l h) = absurd (false≢true (sym k ∙ ap is_knight e))

  pub decides_commands : Decides (member t (commands b m f)) (Commands b m f t)
  decides_commands = (commands_from (is_knight m.kind) refl, commands_to (is_knight m.kind) refl)

  pub word_means : (w : ℕ) → w ≡ mask (commands b m f) → Decides (bit w t) (Commands b m f t)
  word_means w e = Decides-at (bit w t) (member t (commands b m f)) (ap (λ w. bit w t) e ∙ bit_mask (commands b m f) t) decides_commands

-- an attack and a check
module _ (b : Squares) (s : ℕ) (by : Side) where
  by_man : (f : ℕ) → f < 64 → (o : Option Man) → on b f ≡ o → given o false (λ m. same_side m.side by && member s (commands b m f)) ≡ true → Attacked b s by
  by_man f l None e h = absurd (false≢true h)
  by_man f l (Some m) e h =
      let p = and_parts (same_side m.side by) (member s (commands b m f)) h in
      record { from = f; inside = l; man = m; there = e; of_side = side_same m.side by p.0; commands = (decides_commands b m f l s).0 p.1 }

  from_attack : (a : Attacked b s by) → attacks b s by a.from ≡ true
  from_attack a =
      ap (λ (o : Option Man). given o false (λ m. same_side m.side by && member s (commands b m a.from))) a.there
      ∙ and_from (same_side a.man.side by) (member s (commands b a.man a.from)) (side-true a.man.side by a.of_side)
      ((decides_commands b a.man a.from a.inside s).1 a.commands)

  pub attacked_means : Decides (attacked b s by) (Attacked b s by)
  attacked_means = (
    λ h. let r = (decides-attacked b s by).0 h in by_man r.0 r.1 (on b r.0) refl r.2,
    λ a. (decides-attacked b s by).1 (a.from, a.inside, from_attack a),
  )

module _ (b : Squares) (a : Side) where
  at_king : (s : ℕ) → s < 64 → king_hit b a s ≡ true → Checked b a
  at_king s l h =
      let p = and_parts (king_of a (on b s)) (attacked b s (other a)) h in
      record { at = s; inside = l; there = king_is a (on b s) p.0; attacked = (attacked_means b s (other a)).0 p.1 }

  king_at : (c : Checked b a) → king_hit b a c.at ≡ true
  king_at c =
      and_from (king_of a (on b c.at)) (attacked b c.at (other a))
      (ap (king_of a) c.there ∙ and_from (same_side a a) true (side-true a a refl) refl) ((attacked_means b c.at (other a)).1 c.attacked)

  pub checked_means : Decides (checked b a) (Checked b a)
  unfolding checked
  checked_means = (
    λ h. let r = (decides-any 64 (king_hit b a)).0 h in at_king r.0 r.1 r.2,
    λ c. (decides-any 64 (king_hit b a)).1 (c.at, c.inside, king_at c),
  )
