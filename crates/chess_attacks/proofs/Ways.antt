-- Tests over the eight directions and the eight leaps.
use Rattle.std.proofs.Common.{◌≡◌, Bool, true, false, ◌||◌, refl, ⊎_elim}
use Rattle.std.specs.List.{list_any}
use Rattle.std.proofs.lemmas.Bool.{or_cases}
use Rattle.board.specs.Squares.{directions}
use Rattle.board.specs.declared.direction.Direction.{Direction}
use Rattle.board.specs.declared.direction.Direction.TheVariants.{North, NorthEast, East, SouthEast, South, SouthWest, West, NorthWest}
use Rattle.chess_attacks.specs.Lists.{eight_ways, eight_leaps, knight_ways}
use Rattle.chess_attacks.specs.Look.{or}
use Rattle.chess_attacks.proofs.Back.{Leap}
use Rattle.chess_attacks.proofs.Back.Leap.{nne, nnw, ene, ese, sse, ssw, wsw, wnw}

or-true : (x : Bool) → (x || true) ≡ true
or-true true = refl
or-true false = refl

or-false : (x : Bool) → (x || false) ≡ x
or-false true = refl
or-false false = refl

pub ways_listed : (g : Direction → Bool) → list_any g directions ≡ eight_ways or g
ways_listed g = simp or-false

pub leaps_listed : (g : Direction → Direction → Bool) → list_any (λ (w : Direction × Direction). g w.0 w.1) knight_ways ≡ eight_leaps or g
leaps_listed g = simp or-false

module _ (g : Direction → Bool) where
  abbrev Way : Type 0
  Way = (d : Direction) × (g d ≡ true)

  first_way : (d : Direction) (y : Bool) → (y ≡ true → Way) → (g d || y) ≡ true → Way
  first_way d y k h = ⊎_elim (λ x. (d, x)) k (or_cases (g d) y h)

  pub ways_some : eight_ways or g ≡ true → Way
  ways_some =
      first_way East _ (first_way West _ (first_way North _ (first_way South _ (first_way NorthEast _ (first_way NorthWest _
      (first_way SouthEast _ (λ x. (SouthWest, x))))))))

  pub ways_from : (d : Direction) → g d ≡ true → eight_ways or g ≡ true
  ways_from North h = simp (h, or-true)
  ways_from NorthEast h = simp (h, or-true)
  ways_from East h = simp h
  ways_from SouthEast h = simp (h, or-true)
  ways_from South h = simp (h, or-true)
  ways_from SouthWest h = simp (h, or-true)
  ways_from West h = simp (h, or-true)
  ways_from NorthWest h = simp (h, or-true)

module _ (g : Direction → Direction → Bool) where
  abbrev Leapt : Type 0
  Leapt = (o : Direction) × (e : Direction) × Leap o e × (g o e ≡ true)

  first_leap : {o e : Direction} → Leap o e → (y : Bool) → (y ≡ true → Leapt) → (g o e || y) ≡ true → Leapt
  first_leap {o} {e} l y k h = ⊎_elim (λ x. (o, e, l, x)) k (or_cases (g o e) y h)

  pub leaps_some : eight_leaps or g ≡ true → Leapt
  leaps_some =
      first_leap nne _ (first_leap nnw _ (first_leap ene _ (first_leap ese _ (first_leap sse _ (first_leap ssw _
      (first_leap wsw _ (λ x. (West, NorthWest, wnw, x))))))))

  pub leaps_from_lem : {o e : Direction} → Leap o e → g o e ≡ true → eight_leaps or g ≡ true
  leaps_from_lem nne h = simp h
  leaps_from_lem nnw h = simp (h, or-true)
  leaps_from_lem ene h = simp (h, or-true)
  leaps_from_lem ese h = simp (h, or-true)
  leaps_from_lem sse h = simp (h, or-true)
  leaps_from_lem ssw h = simp (h, or-true)
  leaps_from_lem wsw h = simp (h, or-true)
  leaps_from_lem wnw h = simp (h, or-true)
