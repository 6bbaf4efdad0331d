-- The men of a board: what stands on a square, and whose it is.
use Rattle.std.specs.Prelude.{ℕ, Bool, true, false, ◌&&◌, List, Some, None, Option, slice_index_or}
use Rattle.chess_attacks.specs.declared.men.Man.{Man}
use Rattle.chess_attacks.specs.declared.men.Kind.{Kind}
use Rattle.chess_attacks.specs.declared.men.Kind.TheVariants.{King, Queen, Rook, Bishop, Knight, Pawn}
use Rattle.chess_attacks.specs.declared.men.Side.{Side}
use Rattle.chess_attacks.specs.declared.men.Side.TheVariants.{White, Black}

-- a board: 64 squares in the order of their numbers, a1, b1, .., h8, each with a man or empty
abbrev pub Squares : Type 0
Squares = List (Option Man)

-- what stands on the square s
abbrev pub on : Squares → ℕ → Option Man
on b s = slice_index_or b s None

-- by what an option holds
abbrev pub given : {A X : Type 0} → Option A → X → (A → X) → X
given None x f = x
given (Some a) x f = f a

abbrev pub other : Side → Side
other White = Black
other Black = White

abbrev pub same_side : Side → Side → Bool
same_side White White = true
same_side White Black = false
same_side Black White = false
same_side Black Black = true

abbrev pub same_kind : Kind → Kind → Bool
same_kind King King = true
same_kind Queen Queen = true
same_kind Rook Rook = true
same_kind Bishop Bishop = true
same_kind Knight Knight = true
same_kind Pawn Pawn = true
same_kind _ _ = false

abbrev pub is_king : Kind → Bool
is_king k = same_kind k King

abbrev pub is_knight : Kind → Bool
is_knight k = same_kind k Knight

abbrev pub is_pawn : Kind → Bool
is_pawn k = same_kind k Pawn

-- whether a man of the side stands there
abbrev pub of : Side → Option Man → Bool
of a o = given o false (λ m. same_side m.side a)

-- whether a man of the side and kind does
abbrev pub man_of : Side → Kind → Option Man → Bool
man_of a k o = given o false (λ m. same_side m.side a && same_kind m.kind k)

abbrev pub king_of : Side → Option Man → Bool
king_of a = man_of a King
