-- Looking from a square along the lines and the leaps finds what attacks it.
use Rattle.std.proofs.Common.{◌≡◌, ℕ, zero, suc, ◌+◌, ◌<◌, ◌≤◌, Bool, true, false, cond, ◌&&◌, ◌||◌, List, [], ◌∷◌, ◌++◌, Some, None, Decides, Option, sym, refl, ap, ◌∙◌, ⊎_elim, arith}
use Rattle.std.proofs.lemmas.Bool.{and_parts, and_from, or_cases, or_left, or_right, false≢true}
use Rattle.std.proofs.lemmas.Bool.Decides.{same_from_decides, Decides-at}
use Rattle.board.specs.Masks.{member}
use Rattle.board.specs.declared.direction.Direction.{Direction}
use Rattle.board.specs.declared.direction.Direction.TheVariants.{North, NorthEast, East, SouthEast, South, SouthWest, West, NorthWest}
use Rattle.chess_attacks.specs.declared.men.Man.{Man}
use Rattle.chess_attacks.specs.declared.men.Kind.{Kind}
use Rattle.chess_attacks.specs.declared.men.Kind.TheVariants.{King, Queen, Rook, Bishop, Knight, Pawn}
use Rattle.chess_attacks.specs.declared.men.Side.{Side}
use Rattle.chess_attacks.specs.declared.men.Side.TheVariants.{White, Black}
use Rattle.chess_attacks.specs.Men.{Squares, on, given, same_side, is_knight}
use Rattle.chess_attacks.specs.Ranges.{range_of, ranges, straight, ahead}
use Rattle.board.specs.Squares.{opposite}
use Rattle.chess_attacks.specs.Lists.{line, lines, leaps, leap, single, commands, any, attacks, attackers, some, attacked}
use Rattle.chess_attacks.specs.Look.{struck, leapt, knight_of, line_attack, leap_attack}
use Rattle.chess_attacks.proofs.Back.{Leap, turned, leap-back}
use Rattle.chess_attacks.proofs.Reach.{line_way, way_line, way_back, way_within, way-some, Sight, struck_sight, sight_struck}
use Rattle.chess_attacks.proofs.Ways.{ways_some, ways_from, leaps_some, leaps_from_lem}
use Rattle.chess_attacks.proofs.Members.{member-lines, member-leaps, member-single, single-member, decides-any}

opposite-twice : (d : Direction) → opposite (opposite d) ≡ d
opposite-twice North = refl
opposite-twice NorthEast = refl
opposite-twice East = refl
opposite-twice SouthEast = refl
opposite-twice South = refl
opposite-twice SouthWest = refl
opposite-twice West = refl
opposite-twice NorthWest = refl

straight_le : (d : Direction) (x y : ℕ) → x ≤ 7 → y ≤ 7 → straight d x y ≤ 7
straight_le North x y h k = h
straight_le NorthEast x y h k = k
straight_le East x y h k = h
straight_le SouthEast x y h k = k
straight_le South x y h k = h
straight_le SouthWest x y h k = k
straight_le West x y h k = h
straight_le NorthWest x y h k = k

ahead_le : (a : Side) (d : Direction) → ahead a d ≤ 7
ahead_le White North = omega arith
ahead_le White NorthEast = omega arith
ahead_le White East = omega arith
ahead_le White SouthEast = omega arith
ahead_le White South = omega arith
ahead_le White SouthWest = omega arith
ahead_le White West = omega arith
ahead_le White NorthWest = omega arith
ahead_le Black North = omega arith
ahead_le Black NorthEast = omega arith
ahead_le Black East = omega arith
ahead_le Black SouthEast = omega arith
ahead_le Black South = omega arith
ahead_le Black SouthWest = omega arith
ahead_le Black West = omega arith
ahead_le Black NorthWest = omega arith

ranges_le : (k : Kind) (a : Side) (d : Direction) → ranges k a d ≤ 7
ranges_le King a d = omega arith
ranges_le Queen a d = omega arith
ranges_le Rook a d = straight_le d 7 0 (omega arith) (omega arith)
ranges_le Bishop a d = straight_le d 0 7 (omega arith) (omega arith)
ranges_le Knight a d = omega arith
ranges_le Pawn a d = ahead_le a d

no_knight : (k : Kind) (a : Side) (d : Direction) → 0 < ranges k a d → is_knight k ≡ false
no_knight King a d h = refl
no_knight Queen a d h = refl
no_knight Rook a d h = refl
no_knight Bishop a d h = refl
no_knight Knight a d h = absurd (let z : ⊥ = omega arith in z)
no_knight Pawn a d h = refl

-- there is an attacker where some square has one
some-append : (xs ys : List ℕ) → some (xs ++ ys) ≡ (some ys || some xs)
some-append [] [] = refl
some-append [] (y ∷ ys) = refl
some-append (x ∷ xs) [] = refl
some-append (x ∷ xs) (y ∷ ys) = refl

some_one : (x : Bool) (n : ℕ) → some (cond x (n ∷ []) []) ≡ x
some_one true n = refl
some_one false n = refl

attackers-any : (b : Squares) (s : ℕ) (by : Side) (n : ℕ) → some (attackers b s by n) ≡ any n (attacks b s by)
unfolding attackers
attackers-any b s by zero = refl
attackers-any b s by (suc n) =
    some-append (attackers b s by n) (cond (attacks b s by n) (n ∷ []) [])
    ∙ (λ i. some_one (attacks b s by n) n i || attackers-any b s by n i)

pub decides-attacked : (b : Squares) (s : ℕ) (by : Side) → Decides (attacked b s by) ((f : ℕ) × (f < 64) × (attacks b s by f ≡ true))
unfolding attacked
decides-attacked b s by = Decides-at (attacked b s by) (any 64 (attacks b s by)) (attackers-any b s by 64) (decides-any 64 (attacks b s by))

module _ (b : Squares) (s : ℕ) (by : Side) (in' : s < 64) where
  pub attack_at : (f : ℕ) (m : Man) → f < 64 → on b f ≡ Some m → same_side m.side by ≡ true → member s (commands b m f) ≡ true → attacked b s by ≡ true
  attack_at f m l e o h =
      (decides-attacked b s by).1
      (f, l, ap (λ (o : Option Man). given o false (λ m. same_side m.side by && member s (commands b m f))) e ∙ and_from _ _ o h)

  by_line : (d : Direction) → struck b d by s 0 7 ≡ true → attacked b s by ≡ true
  by_line d h =
      let r : Sight b d by s 0 = struck_sight b d by 7 s 0 h in
      let w = way_back in' r.way in
      let kind : is_knight r.man.kind ≡ false = no_knight r.man.kind r.man.side (opposite d) (omega (arith, way-some r.way, r.enough)) in
      attack_at r.at r.man (way_within b d in' r.way) r.there r.ours
      (ap (λ x. member s (cond x (leaps r.at) (lines b r.man r.at))) kind
      ∙ (member-lines b r.man r.at s
      ∙ ways_from (λ d. member s (line b d r.at (range_of r.man d))) (opposite d) (way_line b (opposite d) (range_of r.man (opposite d)) w (omega (arith, r.enough)))))

  landed : (o : Option Man) (f : ℕ) → f < 64 → on b f ≡ o → member s (leaps f) ≡ true → knight_of by o ≡ true → attacked b s by ≡ true
  landed None f l e h k = absurd (false≢true k)
  landed (Some m) f l e h k =
      let p = and_parts (same_side m.side by) (is_knight m.kind) k in
      attack_at f m l e p.0 (ap (λ x. member s (cond x (leaps f) (lines b m f))) p.1 ∙ h)

  by_leap : {o e : Direction} → Leap o e → (t : Option ℕ) → leap o e s ≡ t → given t false (λ f. knight_of by (on b f)) ≡ true → attacked b s by ≡ true
  by_leap {o} {e} w None q h = absurd (false≢true h)
  by_leap {o} {e} w (Some f) q h =
      let r = leap-back w s f in' q in
      landed (on b f) f r.0 refl (member-leaps f s ∙ leaps_from_lem (λ o e. member s (single (leap o e f))) (turned w) (single-member s (leap (opposite o) (opposite e) f) r.1)) h

  found : (line_attack b s by || leap_attack b s by) ≡ true → attacked b s by ≡ true
  unfolding leapt
  found h =
      ⊎_elim
      (λ x. let r = ways_some (λ d. struck b d by s 0 7) x in by_line r.0 r.1)
      (λ y. let r = leaps_some (leapt b by s) y in by_leap r.2 (leap r.0 r.1 s) refl r.3)
      (or_cases (line_attack b s by) (leap_attack b s by) h)

  from_line : (f : ℕ) (m : Man) → f < 64 → on b f ≡ Some m → same_side m.side by ≡ true → member s (lines b m f) ≡ true → line_attack b s by ≡ true
  from_line f m l e o h =
      let r = ways_some (λ d. member s (line b d f (range_of m d))) (sym (member-lines b m f s) ∙ h) in
      let d = r.0 in
      let q = line_way b d (range_of m d) f s r.1 in
      let near : q.0 ≤ 7 = omega (arith, ranges_le m.kind m.side d, q.1) in
      let enough : 0 + q.0 ≤ range_of m (opposite (opposite d)) = omega (arith, q.1, ap (range_of m) (opposite-twice d)) in
      ways_from (λ d. struck b d by s 0 7) (opposite d)
      (sight_struck b (opposite d) by 7 0 (way_back l q.2) m e o enough near)

  from_leap : (f : ℕ) (m : Man) → f < 64 → on b f ≡ Some m → same_side m.side by ≡ true → is_knight m.kind ≡ true → member s (leaps f) ≡ true → leap_attack b s by ≡ true
  unfolding leapt
  from_leap f m l e o k h =
      let r = leaps_some (λ o e. member s (single (leap o e f))) (sym (member-leaps f s) ∙ h) in
      let q = leap-back r.2 f s l (member-single s (leap r.0 r.1 f) r.3) in
      leaps_from_lem (leapt b by s) (turned r.2)
      (ap (λ (t : Option ℕ). given t false (λ f. knight_of by (on b f))) q.1
      ∙ (ap (knight_of by) e ∙ and_from (same_side m.side by) (is_knight m.kind) o k))

  by_kind : (f : ℕ) (m : Man) → f < 64 → on b f ≡ Some m → same_side m.side by ≡ true → (x : Bool) → is_knight m.kind ≡ x → member s (cond x (leaps f) (lines b m f)) ≡ true → (line_attack b s by || leap_attack b s by) ≡ true
  by_kind f m l e o true k h = or_right (line_attack b s by) (leap_attack b s by) (from_leap f m l e o k h)
  by_kind f m l e o false k h = or_left (line_attack b s by) (leap_attack b s by) (from_line f m l e o h)

  by_man : (f : ℕ) → f < 64 → (o : Option Man) → on b f ≡ o → given o false (λ m. same_side m.side by && member s (commands b m f)) ≡ true → (line_attack b s by || leap_attack b s by) ≡ true
  by_man f l None e h = absurd (false≢true h)
  by_man f l (Some m) e h =
      let p = and_parts (same_side m.side by) (member s (commands b m f)) h in
      by_kind f m l e p.0 (is_knight m.kind) refl p.1

  looked : attacked b s by ≡ true → (line_attack b s by || leap_attack b s by) ≡ true
  looked h =
      let r = (decides-attacked b s by).0 h in
      by_man r.0 r.1 (on b r.0) refl r.2

  pub attack_is : (line_attack b s by || leap_attack b s by) ≡ attacked b s by
  attack_is = same_from_decides {P = attacked b s by ≡ true} _ _ (found, looked) (λ e. e, λ e. e)
