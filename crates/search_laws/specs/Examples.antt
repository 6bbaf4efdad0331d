-- Trials by hand, over trees as games have them: a chain of two moves with a table that keeps nothing and with the newest policy; and, with
-- a table that keeps all, five positions where a frame is left and entered again, and sixteen with transpositions.
use Rattle.std.specs.Prelude.{◌≡◌, ℕ, Bool, true, false, cond, ◌&&◌, List, [], ◌∷◌, map, length, Some, None, Option, codes, not, ◌==◌, nat_lt}
use Rattle.std.specs.Str.{bytes_eq}
use Rattle.game.specs.declared.state.State.TheVariants.{Won, NotWon, Attacker, Defender}
use Rattle.game.specs.Tree.{Tree, Moves, node, none, move, code, rank, texts, ended}
use Rattle.table.specs.declared.pair.Pair.{Pair}
use Rattle.table.specs.Pairs.{Code, Shown, nothing, won, not_won}
use Rattle.table.specs.Policies.{none_storing, newest_storing}
use Rattle.table.specs.Storings.{Storing}
use Rattle.search_laws.specs.declared.answer.Answer.{Answer}
use Rattle.search_laws.specs.Run.{Outcome, Enters, tops}
use Rattle.search_laws.specs.Entered.{frames}
use Rattle.search_laws.specs.Trial.{Trial}
use Rattle.search_laws.specs.Words.{word}

-- a table that keeps all
abbrev pub keep : Storing
keep = record { Standing = Shown; shows = λ h. h; stored = λ shown c p d. cond (bytes_eq c d) (Some p) (shown d); cleared = λ _. nothing }

-- a trial with an answer of a verdict by its word, of so many expansions and of so many entries
pub record Answers (S : Storing) (standing : S.Standing) (t : Tree) (b : ℕ) (w : List ℕ) (x e : ℕ) (standing' : S.Standing) : Type 0 where
  pub answer : Answer
  pub trial : Trial S standing t b answer standing'
  pub verdict : word answer.verdict ≡ w
  pub expansions : answer.expansions ≡ x
  pub entries : answer.entries ≡ e

-- a code of five words, texts of five bytes, and positions with a move or more
abbrev pub numbered : ℕ → Code
numbered n = n ∷ 0 ∷ 0 ∷ 0 ∷ 0 ∷ []

abbrev pub one : Tree → Moves
one t = move (codes "first") t none

abbrev pub two : Tree → Tree → Moves
two t u = move (codes "first") t (move (codes "other") u none)

abbrev pub three : Tree → Tree → Tree → Moves
three t u v = move (codes "first") t (move (codes "other") u (move (codes "third") v none))

-- Laws of a game that a test can tell of a tree: codes of five words, texts of five bytes, no two of a position the same, moves exactly where
-- the position has not ended, and ranks that fall.
abbrev pub new_text : List ℕ → List (List ℕ) → Bool
new_text x [] = true
new_text x (y ∷ ys) = not (bytes_eq x y) && new_text x ys

abbrev pub some_moves : Moves → Bool
some_moves none = false
some_moves (move x t m) = true

unfoldable mutual
  pub keeps : Tree → Bool
  keeps (node s r c m) = (length c == 5) && ((cond (ended s) (not (some_moves m)) (some_moves m)) && keep_below r m)

  pub keep_below : ℕ → Moves → Bool
  keep_below r none = true
  keep_below r (move x t m) = (length x == 5) && (new_text x (texts m) && (nat_lt (rank t) r && (keeps t && keep_below r m)))

-- a trial from an empty table, with its answer, and what the table then shows for some positions
abbrev pub Worked : Tree → ℕ → List ℕ → ℕ → ℕ → List Tree → List (Option Pair) → Type 0
Worked t b w x e ts ps = (standing : Shown) × Answers keep nothing t b w x e standing × (map (λ u. standing (code u)) ts ≡ ps)

-- a run from an empty table, and the positions that it enters, in order
abbrev pub Visits : Tree → ℕ → List Tree → Type 0
Visits t n ts = (o : Outcome Shown) × (e : Enters keep nothing n t tops o) × (map (λ f. f.at) (frames e) ≡ ts)

-- a chain: the attacker's one move, the defender's one move, and not won
abbrev pub reply : Tree
reply = node Defender 1 (numbered 1) (one (node NotWon 0 (numbered 2) none))

abbrev pub chain : Tree
chain = node Attacker 2 (numbered 0) (one reply)

abbrev pub ChainTrials : Type 0
ChainTrials =
    Answers none_storing tt chain 4 (codes "not-won") 2 0 tt
    × Answers none_storing tt chain 3 (codes "not-won") 1 2 tt
    × Answers none_storing tt chain 2 (codes "spent") 1 1 tt

-- the second trial finds the decided pair of the first
abbrev pub NewestTrials : Type 0
NewestTrials =
    (standing : Shown) × (Answers newest_storing nothing chain 4 (codes "not-won") 2 0 standing) × (Answers newest_storing standing chain 4 (codes "not-won") 0 0 standing)
    × (map (λ u. standing (code u)) (chain ∷ reply ∷ []) ≡ Some not_won ∷ Some not_won ∷ [])

-- Five positions: in a the attacker has a move to b and one to c; in b the defender has two moves, both to d; in c the defender has one move,
-- to e; in d the attacker has one move, to e; and e is not won. The frame of b is left for that of c, and entered again.
abbrev pub position_e : Tree
position_e = node NotWon 0 (numbered 5) none

abbrev pub position_d : Tree
position_d = node Attacker 1 (numbered 4) (one position_e)

abbrev pub position_c : Tree
position_c = node Defender 1 (numbered 3) (one position_e)

abbrev pub position_b : Tree
position_b = node Defender 2 (numbered 2) (two position_d position_d)

abbrev pub position_a : Tree
position_a = node Attacker 3 (numbered 1) (two position_b position_c)

abbrev pub two_one : Pair
two_one = record { proof = 2; disproof = 1; formed = tt }

abbrev pub FiveTrials : Type 0
FiveTrials =
    Worked position_a 6 (codes "spent") 3 3 (position_a ∷ position_b ∷ position_c ∷ position_d ∷ []) (None ∷ Some two_one ∷ Some not_won ∷ None ∷ [])
    × Worked position_a 8 (codes "not-won") 4 4 (position_a ∷ position_b ∷ position_c ∷ position_d ∷ [])
    (Some not_won ∷ Some two_one ∷ Some not_won ∷ None ∷ [])
    × Worked position_a 10 (codes "not-won") 5 0 (position_a ∷ position_b ∷ position_c ∷ position_d ∷ [])
    (Some not_won ∷ Some not_won ∷ Some not_won ∷ Some not_won ∷ [])
    × Visits position_a 5 (position_a ∷ position_b ∷ position_c ∷ position_b ∷ position_d ∷ [])

-- sixteen positions, by the numbers of their codes
abbrev pub p1 : Tree
p1 = node Won 0 (numbered 1) none

abbrev pub p2 : Tree
p2 = node Defender 1 (numbered 2) (one p1)

abbrev pub p3 : Tree
p3 = node Attacker 2 (numbered 3) (two p2 p2)

abbrev pub p4 : Tree
p4 = node Defender 3 (numbered 4) (two p3 p3)

abbrev pub p5 : Tree
p5 = node Won 0 (numbered 5) none

abbrev pub p6 : Tree
p6 = node NotWon 0 (numbered 6) none

abbrev pub p7 : Tree
p7 = node Defender 1 (numbered 7) (one p6)

abbrev pub p8 : Tree
p8 = node NotWon 0 (numbered 8) none

abbrev pub p9 : Tree
p9 = node Won 0 (numbered 9) none

abbrev pub p10 : Tree
p10 = node NotWon 0 (numbered 10) none

abbrev pub p11 : Tree
p11 = node Defender 1 (numbered 11) (three p8 p9 p10)

abbrev pub p12 : Tree
p12 = node Attacker 2 (numbered 12) (two p7 p11)

abbrev pub p13 : Tree
p13 = node NotWon 0 (numbered 13) none

abbrev pub p14 : Tree
p14 = node Attacker 1 (numbered 14) (one p13)

abbrev pub p15 : Tree
p15 = node Defender 3 (numbered 15) (three p5 p12 p14)

abbrev pub p16 : Tree
p16 = node Attacker 4 (numbered 16) (two p4 p15)

abbrev pub one_two : Pair
one_two = record { proof = 1; disproof = 2; formed = tt }

abbrev pub WideTrials : Type 0
WideTrials =
    Worked p16 10 (codes "spent") 5 5 (p16 ∷ p4 ∷ p15 ∷ p3 ∷ p2 ∷ p12 ∷ p14 ∷ p7 ∷ p11 ∷ [])
    (None ∷ Some two_one ∷ Some not_won ∷ None ∷ None ∷ Some one_two ∷ Some not_won ∷ None ∷ None ∷ [])
    × Worked p16 11 (codes "won") 5 6 (p16 ∷ p4 ∷ p15 ∷ p3 ∷ p2 ∷ p12 ∷ p14 ∷ p7 ∷ p11 ∷ [])
    (Some won ∷ Some two_one ∷ Some not_won ∷ None ∷ None ∷ Some one_two ∷ Some not_won ∷ None ∷ None ∷ [])
    × Worked p16 19 (codes "won") 9 6 (p16 ∷ p4 ∷ p15 ∷ p3 ∷ p2 ∷ p12 ∷ p14 ∷ p7 ∷ p11 ∷ [])
    (Some won ∷ Some two_one ∷ Some not_won ∷ Some won ∷ Some won ∷ Some one_two ∷ Some not_won ∷ None ∷ None ∷ [])
    × Worked p16 20 (codes "won") 10 0 (p16 ∷ p4 ∷ p15 ∷ p3 ∷ p2 ∷ p12 ∷ p14 ∷ p7 ∷ p11 ∷ [])
    (Some won ∷ Some won ∷ Some not_won ∷ Some won ∷ Some won ∷ Some one_two ∷ Some not_won ∷ None ∷ None ∷ [])
    × Visits p16 10 (p16 ∷ p4 ∷ p15 ∷ p12 ∷ p14 ∷ p4 ∷ p3 ∷ p3 ∷ p2 ∷ p3 ∷ [])

abbrev pub LawsKept : Type 0
LawsKept = (keeps chain ≡ true) × (keeps position_a ≡ true) × (keeps p16 ≡ true)
