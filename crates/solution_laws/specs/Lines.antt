-- The lines of a solution: what they say, their eight bytes, how they are read again, and how they are counted.
use Rattle.std.specs.Prelude.{◌≡◌, ℕ, zero, suc, ◌+◌, ◌-◌, ◌*◌, ◌/◌, ◌%◌, ◌<◌, Bool, cond, not, ◌&&◌, ◌||◌, List, [], ◌∷◌, ◌++◌, length, take, drop, Some, None, Option, ◌==◌, nat_le, slice_index_or}
use Rattle.std.specs.List.{AllByRecursion}
use Rattle.solution_laws.specs.declared.sign.Sign.{Sign}
use Rattle.solution_laws.specs.declared.sign.Sign.TheVariants.{Chosen, Other, Reply}

-- A line: the ply, from 1, a sign, and the move's text.
pub record Line : Type 0 where
  pub ply : ℕ
  pub sign : Sign
  pub text : List ℕ

-- the value of each sign: `!`, `+` and `.`
abbrev pub mark : Sign → ℕ
mark Chosen = 33
mark Other = 43
mark Reply = 46

-- a line's eight bytes: the ply in two digits, the sign, the five bytes of the text
abbrev pub bytes : Line → List ℕ
bytes l = (48 + l.ply / 10) ∷ ((48 + l.ply % 10) ∷ (mark l.sign ∷ l.text))

abbrev pub all_bytes : List Line → List ℕ
all_bytes [] = []
all_bytes (l ∷ ls) = bytes l ++ all_bytes ls

-- what a buffer holds with these lines written from its start on: past the last line it is as before
abbrev pub written_over : List Line → List ℕ → List ℕ
written_over ls before = all_bytes ls ++ drop (8 * length ls) before

-- the sign and the digit that a byte is, if it is one
abbrev pub sign_of : ℕ → Option Sign
sign_of c = cond (c == 33) (Some Chosen) (cond (c == 43) (Some Other) (cond (c == 46) (Some Reply) None))

abbrev pub digit_of : ℕ → Option ℕ
digit_of c = cond (nat_le 48 c && nat_le c 57) (Some (c - 48)) None

-- The line that eight bytes say, if they say one: two digits, a sign and a text of five bytes.
abbrev pub line_from : Option ℕ → Option ℕ → Option Sign → List ℕ → Option Line
line_from (Some tens) (Some ones) (Some sign) text = cond (length text == 5) (Some (record { ply = 10 * tens + ones; sign = sign; text = text })) None
line_from tens ones sign text = None

abbrev pub line_of : List ℕ → Option Line
line_of bs = line_from (digit_of (slice_index_or bs 0 0)) (digit_of (slice_index_or bs 1 0)) (sign_of (slice_index_or bs 2 0)) (drop 3 bs)

-- the first n lines in a buffer, if there are so many
abbrev pub before_them : Option Line → Option (List Line) → Option (List Line)
before_them (Some l) (Some ls) = Some (l ∷ ls)
before_them l ls = None

abbrev pub lines_in : ℕ → List ℕ → Option (List Line)
lines_in zero bs = Some []
lines_in (suc n) bs = before_them (line_of (take 8 bs)) (lines_in n (drop 8 bs))

-- a line that has eight bytes: a ply of two digits, a text of five bytes
abbrev pub Fits : Line → Type 0
Fits l = (l.ply < 100) × (length l.text ≡ 5)

-- The lines written into a buffer can be read again: its bytes say what they are.
abbrev pub LinesAreRead : Type 0
LinesAreRead = (ls : List Line) (before : List ℕ) → AllByRecursion Fits ls → lines_in (length ls) (written_over ls before) ≡ Some ls

-- Nothing else is read as lines: where lines are read, their bytes are what the buffer begins with.
abbrev pub OnlyLinesAreRead : Type 0
OnlyLinesAreRead =
    (n : ℕ) (buffer : List ℕ) (ls : List Line) → lines_in n buffer ≡ Some ls →
    (length ls ≡ n) × AllByRecursion Fits ls × (take (8 * n) buffer ≡ all_bytes ls)

-- an attacker's line has `!` or `+`, and a line that leads on has `!` or `.`
abbrev pub attacks : Sign → Bool
attacks s = mark s == 33 || mark s == 43

abbrev pub leads : Sign → Bool
leads s = mark s == 33 || mark s == 46

-- the keys are the attacker's lines of ply 1, and the duals the lines with `+` of the other plies
abbrev pub is_key : Line → Bool
is_key l = l.ply == 1 && attacks l.sign

abbrev pub is_dual : Line → Bool
is_dual l = not (l.ply == 1) && not (leads l.sign)

abbrev pub keys : List Line → ℕ
keys [] = 0
keys (l ∷ ls) = cond (is_key l) 1 0 + keys ls

abbrev pub duals : List Line → ℕ
duals [] = 0
duals (l ∷ ls) = cond (is_dual l) 1 0 + duals ls
