-- Two sides are the same where their test says so.
use Rattle.std.proofs.Common.{◌≡◌, true, false, Some, None, Option, refl, ap}
use Rattle.std.proofs.lemmas.Bool.{and_parts, false≢true}
use Rattle.chess_attacks.specs.declared.men.Man.{Man}
use Rattle.chess_attacks.specs.declared.men.Kind.{Kind}
use Rattle.chess_attacks.specs.declared.men.Kind.TheVariants.{King, Queen, Rook, Bishop, Knight, Pawn}
use Rattle.chess_attacks.specs.declared.men.Side.{Side}
use Rattle.chess_attacks.specs.declared.men.Side.TheVariants.{White, Black}
use Rattle.chess_attacks.specs.Men.{same_side, other, same_kind, is_king, is_pawn, king_of}

pub side-true : (a b : Side) → a ≡ b → same_side a b ≡ true
side-true White White e = refl
side-true White Black e = cc
side-true Black White e = cc
side-true Black Black e = refl

pub side-false : (a b : Side) → (a ≡ b → ⊥) → same_side a b ≡ false
side-false White White e = absurd (e refl)
side-false White Black e = refl
side-false Black White e = refl
side-false Black Black e = absurd (e refl)

pub side_same : (a b : Side) → same_side a b ≡ true → a ≡ b
side_same White White h = refl
side_same White Black h = absurd (false≢true h)
side_same Black White h = absurd (false≢true h)
side_same Black Black h = refl

pub other-twice : (a : Side) → other (other a) ≡ a
other-twice White = refl
other-twice Black = refl

-- the test of two kinds tells that they are one
pub kind_same : (k j : Kind) → same_kind k j ≡ true → k ≡ j
kind_same King King h = refl
kind_same Queen Queen h = refl
kind_same Rook Rook h = refl
kind_same Bishop Bishop h = refl
kind_same Knight Knight h = refl
kind_same Pawn Pawn h = refl
kind_same _ _ h = absurd (false≢true h)

pub pawn_kind : (k : Kind) → is_pawn k ≡ true → k ≡ Pawn
pawn_kind k = kind_same k Pawn

pub king_is : (a : Side) (o : Option Man) → king_of a o ≡ true → o ≡ Some (record { side = a; kind = King })
king_is a None h = absurd (false≢true h)
king_is a (Some m) h =
    let p = and_parts (same_side m.side a) (is_king m.kind) h in
    ap Some (λ i. record { side = side_same m.side a p.0 i; kind = kind_same m.kind King p.1 i })
