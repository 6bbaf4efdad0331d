-- The edge table's rule: one test that antt computes, over the whole table.
use Rattle.std.proofs.Common.{◌≡◌, ℕ, zero, suc, ◌+◌, ◌*◌, ◌/◌, ◌%◌, ◌<◌, Bool, T, eqb, List, length, get_or, refl, ap, ◌∙◌, ap₂, arith, lit<, eqb→eq}
use denote.Enum.Declared.{tag_of}
use Rattle.std.proofs.lemmas.Nat.{div-mul-add, mod-mul-add}
use Rattle.board.specs.declared.direction.Direction.{Direction}
use Rattle.board.specs.declared.direction.Direction.TheVariants.{East, West, North, South, NorthEast, NorthWest, SouthEast, SouthWest}
use Rattle.board.specs.contracts.direction.Direction.{the_type}
use Rattle.board.specs.Squares.{reach}
use Rattle.board.proofs.Table.{at, every}

abbrev direction : ℕ → Direction
direction zero = East
direction (suc zero) = West
direction (suc (suc zero)) = North
direction (suc (suc (suc zero))) = South
direction (suc (suc (suc (suc zero)))) = NorthEast
direction (suc (suc (suc (suc (suc zero))))) = NorthWest
direction (suc (suc (suc (suc (suc (suc zero)))))) = SouthEast
direction (suc (suc (suc (suc (suc (suc (suc n))))))) = SouthWest

tag_below : (d : Direction) → tag_of the_type d < 8
tag_below East = lit< tt
tag_below West = lit< tt
tag_below North = lit< tt
tag_below South = lit< tt
tag_below NorthEast = lit< tt
tag_below NorthWest = lit< tt
tag_below SouthEast = lit< tt
tag_below SouthWest = lit< tt

direction_tag : (d : Direction) → direction (tag_of the_type d) ≡ d
direction_tag East = refl
direction_tag West = refl
direction_tag North = refl
direction_tag South = refl
direction_tag NorthEast = refl
direction_tag NorthWest = refl
direction_tag SouthEast = refl
direction_tag SouthWest = refl

abbrev pub right : ℕ → ℕ → Bool
right k x = eqb x (reach (direction (k % 8)) (k / 8))

pub edge : (xs : List ℕ) → T (every right 0 xs) → length xs ≡ 512 → (s : ℕ) (d : Direction) → s < 64 → get_or xs (s * 8 + tag_of the_type d) 0 ≡ reach d s
edge xs t e s d h =
    let n = tag_of the_type d in
    let k : s * 8 + n < length xs = omega (arith, tag_below d) in
    let q : get_or xs (s * 8 + n) 0 ≡ reach (direction ((s * 8 + n) % 8)) ((s * 8 + n) / 8) = eqb→eq _ _ (at right xs t (s * 8 + n) k) in
    q ∙ ap₂ (λ (a b : ℕ). reach (direction a) b) (mod-mul-add s 8 n (tag_below d)) (div-mul-add s 8 n (tag_below d))
    ∙ ap (λ (z : Direction). reach z s) (direction_tag d)
