-- A solution: which trials it makes, which lines it writes, and how it ends.
use Rattle.std.specs.Prelude.{◌≡◌, ℕ, suc, ◌+◌, ◌-◌, ◌<◌, ◌≤◌, Bool, false, cond, List, [], ◌∷◌, ◌++◌, length, take, Some, None, Option, codes, ◌==◌, ◌≢◌, slice_index_or}
use Rattle.game.specs.declared.state.State.TheVariants.{Won, NotWon, Attacker, Defender}
use Rattle.game.specs.Tree.{Tree, Moves, none, move, nowhere, state, moves, next, words}
use Rattle.search_laws.specs.declared.answer.Answer.{Answer}
use Rattle.table.specs.Storings.{Storing}
use Rattle.search_laws.specs.Trial.{Trial}
use Rattle.search_laws.specs.Words as verdicts
use Rattle.search_laws.specs.Words.{value_word}
use Rattle.solution_laws.specs.declared.sign.Sign.TheVariants.{Chosen, Other, Reply}
use Rattle.solution_laws.specs.declared.ending.Ending.{Ending}
use Rattle.solution_laws.specs.Lines.{Line}
use Rattle.solution_laws.specs.Words.{word}

-- what a trial adds to the sum
abbrev pub cost : Answer → ℕ
cost a = a.expansions + a.entries

-- All moves are tried, each on its successor with the full budget, in order: which of them win, the sum, and where the table then stands.
pub data AllTried (S : Storing) (b : ℕ) : S.Standing → Moves → List Bool → ℕ → S.Standing → Type 0 where
  no_more : {standing : S.Standing} → AllTried S b standing none [] 0 standing
  tried : {standing standing' standing'' : S.Standing} {x : List ℕ} {t : Tree} {m : Moves} {w : Bool} {ws : List Bool} {a : Answer} {n : ℕ} →
      Trial S standing t b a standing' → verdicts.word a.verdict ≡ value_word w → AllTried S b standing' m ws n standing'' →
      AllTried S b standing (move x t m) (w ∷ ws) (cost a + n) standing''

-- A trial is spent: the moves up to that one are tried, with the sum and where the table then stands.
pub data Stops (S : Storing) (b : ℕ) : S.Standing → Moves → ℕ → S.Standing → Type 0 where
  spent : {standing standing' : S.Standing} {x : List ℕ} {t : Tree} {m : Moves} {a : Answer} →
      Trial S standing t b a standing' → verdicts.word a.verdict ≡ codes "spent" → Stops S b standing (move x t m) (cost a) standing'
  later : {standing standing' standing'' : S.Standing} {x : List ℕ} {t : Tree} {m : Moves} {a : Answer} {n : ℕ} (w : Bool) →
      Trial S standing t b a standing' → verdicts.word a.verdict ≡ value_word w → Stops S b standing' m n standing'' →
      Stops S b standing (move x t m) (cost a + n) standing''

-- the number of the first move that wins
abbrev pub onward : Option ℕ → Option ℕ
onward None = None
onward (Some i) = Some (suc i)

abbrev pub first_win : List Bool → Option ℕ
first_win [] = None
first_win (w ∷ ws) = cond w (Some 0) (onward (first_win ws))

-- the move for `!`: the intended one if it wins, else the first that wins
abbrev pub best : Option ℕ → List Bool → Option ℕ
best None ws = first_win ws
best (Some i) ws = cond (slice_index_or ws i false) (Some i) (first_win ws)

abbrev pub chosen_line : ℕ → List ℕ → Line
chosen_line k x = record { ply = k; sign = Chosen; text = x }

abbrev pub other_line : ℕ → List ℕ → Line
other_line k x = record { ply = k; sign = Other; text = x }

abbrev pub reply_line : ℕ → List ℕ → Line
reply_line k x = record { ply = k; sign = Reply; text = x }

-- the lines with `+`: for the winning moves but the one of number j, in move order, where the moves given are numbered from i
abbrev pub others_from : ℕ → ℕ → ℕ → List Bool → List (List ℕ) → List Line
others_from k j i [] xs = []
others_from k j i (w ∷ ws) [] = []
others_from k j i (w ∷ ws) (x ∷ xs) =
    cond w (cond (i == j) (others_from k j (suc i) ws xs) (other_line k x ∷ others_from k j (suc i) ws xs)) (others_from k j (suc i) ws xs)

-- the attacker's lines at a position: `!` for the move of number j, then `+` for the other winning ones
abbrev pub wins : ℕ → ℕ → List Bool → List (List ℕ) → List Line
wins k j ws xs = chosen_line k (slice_index_or xs j []) ∷ others_from k j 0 ws xs

-- What a solution, or a part of it, has done: how it ended, the lines that it wrote, and the sum of all expansions and entries.
pub record Part : Type 0 where
  pub ending : Ending
  pub lines : List Line
  pub sum : ℕ

-- a part that wrote no line
abbrev pub no_line : Ending → ℕ → Part
no_line e n = record { ending = e; lines = []; sum = n }

-- a part that went on with another
abbrev pub then : List Line → ℕ → Part → Part
then ls n p = record { ending = p.ending; lines = ls ++ p.lines; sum = n + p.sum }

mutual
  -- What comes at a position, given the ply of its moves, the intended move if there is one, where the table stands, and how many lines
  -- still fit: the part that it makes of the solution, and where the table then stands.
  pub data Solves (S : Storing) (b : ℕ) : ℕ → Option ℕ → Tree → S.Standing → ℕ → Part → S.Standing → Type 0 where
    won : {k : ℕ} {i : Option ℕ} {t : Tree} {standing : S.Standing} {room : ℕ} {e : Ending} →
        state t ≡ Won → word e ≡ codes "done" → Solves S b k i t standing room (no_line e 0) standing
    not_won : {k : ℕ} {i : Option ℕ} {t : Tree} {standing : S.Standing} {room : ℕ} {e : Ending} →
        state t ≡ NotWon → word e ≡ codes "done" → Solves S b k i t standing room (no_line e 0) standing
    stopped : {k : ℕ} {i : Option ℕ} {t : Tree} {standing standing' : S.Standing} {room n : ℕ} {e : Ending} →
        state t ≡ Attacker → Stops S b standing (moves t) n standing' → word e ≡ codes "spent" →
        Solves S b k i t standing room (no_line e n) standing'
    no_win : {k : ℕ} {i : Option ℕ} {t : Tree} {standing standing' : S.Standing} {room n : ℕ} {ws : List Bool} {e : Ending} →
        state t ≡ Attacker → AllTried S b standing (moves t) ws n standing' → best i ws ≡ None → word e ≡ codes "done" →
        Solves S b k i t standing room (no_line e n) standing'
    full : {k : ℕ} {i : Option ℕ} {t : Tree} {standing standing' : S.Standing} {room n j : ℕ} {ws : List Bool} {e : Ending} →
        state t ≡ Attacker → AllTried S b standing (moves t) ws n standing' → best i ws ≡ Some j →
        room < length (wins k j ws (words t)) → word e ≡ codes "cut" →
        Solves S b k i t standing room (record { ending = e; lines = take room (wins k j ws (words t)); sum = n }) standing'
    win : {k : ℕ} {i : Option ℕ} {t : Tree} {standing standing' standing'' : S.Standing} {room n j : ℕ} {ws : List Bool} {p : Part} →
        state t ≡ Attacker → AllTried S b standing (moves t) ws n standing' → best i ws ≡ Some j →
        length (wins k j ws (words t)) ≤ room →
        Solves S b (suc k) None (slice_index_or (next t) j nowhere) standing' (room - length (wins k j ws (words t))) p standing'' →
        Solves S b k i t standing room (then (wins k j ws (words t)) n p) standing''
    defends : {k : ℕ} {i : Option ℕ} {t : Tree} {standing standing' : S.Standing} {room : ℕ} {p : Part} →
        state t ≡ Defender → Replies S b k (moves t) standing room p standing' →
        Solves S b k i t standing room p standing'

  -- What comes at a defender's position: for each move, in order, a line with `.`, followed by what comes after the move.
  pub data Replies (S : Storing) (b : ℕ) : ℕ → Moves → S.Standing → ℕ → Part → S.Standing → Type 0 where
    no_reply : {k : ℕ} {standing : S.Standing} {room : ℕ} {e : Ending} → word e ≡ codes "done" → Replies S b k none standing room (no_line e 0) standing
    no_room : {k : ℕ} {x : List ℕ} {t : Tree} {m : Moves} {standing : S.Standing} {room : ℕ} {e : Ending} →
        room ≡ 0 → word e ≡ codes "cut" → Replies S b k (move x t m) standing room (no_line e 0) standing
    last : {k : ℕ} {x : List ℕ} {t : Tree} {m : Moves} {standing standing' : S.Standing} {room : ℕ} {p : Part} →
        0 < room → Solves S b (suc k) None t standing (room - 1) p standing' → (word p.ending ≢ codes "done") →
        Replies S b k (move x t m) standing room (then (reply_line k x ∷ []) 0 p) standing'
    reply : {k : ℕ} {x : List ℕ} {t : Tree} {m : Moves} {standing standing' standing'' : S.Standing} {room : ℕ} {p q : Part} →
        0 < room → Solves S b (suc k) None t standing (room - 1) p standing' → word p.ending ≡ codes "done" →
        Replies S b k m standing' (room - suc (length p.lines)) q standing'' →
        Replies S b k (move x t m) standing room (then (reply_line k x ∷ p.lines) p.sum q) standing''

-- A solution of a position with the attacker to move: a budget, the intended move, where the table stands, and how many lines fit. Its
-- plies are numbered from 1.
abbrev pub Solution : (S : Storing) → ℕ → ℕ → Tree → S.Standing → ℕ → Part → S.Standing → Type 0
Solution S b i t standing room p standing' = Solves S b 1 (Some i) t standing room p standing'
