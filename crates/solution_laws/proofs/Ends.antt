-- Every solution comes to an end.
use Rattle.std.proofs.Common.{◌≡◌, ℕ, zero, suc, ◌-◌, ◌<◌, ◌≤◌, Bool, true, false, leb, ◌⊎◌, List, [], length, Some, None, Option, refl, inl, inr, codes, arith}
use Rattle.std.specs.List.{AllByRecursion}
use Rattle.std.proofs.ByRecursion.{All-get_or}
use Rattle.std.proofs.lemmas.Bool.{leb-true, leb-false}
use Rattle.game.specs.declared.state.State.TheVariants.{Won, NotWon, Attacker, Defender}
use Rattle.game.specs.Tree.{Tree, Moves, node, none, move, nowhere, state, moves, successors, next, words}
use Rattle.search_laws.specs.declared.answer.Verdict.{Verdict}
use Rattle.search_laws.specs.declared.answer.Verdict.TheVariants.{Won as IsWon, NotWon as IsNotWon, Spent as IsSpent}
use Rattle.search_laws.specs.declared.answer.Answer.{Answer}
use Rattle.table.specs.Storings.{Storing}
use Rattle.search_laws.specs.Trial.{Trial}
use Rattle.search_laws.specs.Words as verdicts
use Rattle.search_laws.specs.Words.{value_word}
use Rattle.search_laws.specs.Claims.{TrialsEnd}
use Rattle.solution_laws.specs.declared.ending.Ending.{Ending}
use Rattle.solution_laws.specs.declared.ending.Ending.TheVariants.{Done, Spent, Cut}
use Rattle.solution_laws.specs.Solution.{AllTried, no_more, tried, Stops, spent, later, best, wins, Part, Solves, won, not_won, stopped, no_win, full, win, defends, Replies, no_reply, no_room, last, reply}
use Rattle.solution_laws.specs.Claims.{SolutionsEnd}
use Rattle.solution_laws.specs.Words.{word}
use Rattle.solution_laws.proofs.Choice.{true_below, best-wins}
use Rattle.solution_laws.proofs.Spent.{tried-length}

said : (v : Verdict) → (verdicts.word v ≡ codes "spent") ⊎ ((w : Bool) × (verdicts.word v ≡ value_word w))
said IsWon = inr (true, refl)
said IsNotWon = inr (false, refl)
said IsSpent = inl refl

done-or-not : (e : Ending) → (word e ≡ codes "done") ⊎ (word e ≡ codes "done" → ⊥)
done-or-not Done = inl refl
done-or-not Spent = inr (λ e. absurd (cc))
done-or-not Cut = inr (λ e. absurd (cc))

at_most : (m n : ℕ) → (m ≤ n) ⊎ (n < m)
at_most m n = go (leb m n) refl
  where
    go : (v : Bool) → leb m n ≡ v → (m ≤ n) ⊎ (n < m)
    go true e = inl (leb-true m n e)
    go false e = inr (leb-false m n e)

module _ (S : Storing) (trials : TrialsEnd S) (b : ℕ) where
  -- the moves are tried, all of them or up to a spent trial
  data Attempt (standing : S.Standing) (m : Moves) : Type 0 where
    through : (ws : List Bool) (n : ℕ) (h : S.Standing) → AllTried S b standing m ws n h → Attempt standing m
    halted : (n : ℕ) (h : S.Standing) → Stops S b standing m n h → Attempt standing m

  attempt : (m : Moves) (standing : S.Standing) → Attempt standing m
  attempt none standing = through [] 0 standing no_more
  attempt (move x t m) standing = let e = trials standing t b in go e.0 e.1.0 e.1.1 (said e.0.verdict) (attempt m e.1.0)
    where
      go : (a : Answer) (h : S.Standing) → Trial S standing t b a h → (verdicts.word a.verdict ≡ codes "spent") ⊎ ((w : Bool) × (verdicts.word a.verdict ≡ value_word w)) → Attempt h m → Attempt standing (move x t m)
      go a h r (inl v) k = halted _ _ (spent r v)
      go a h r (inr v) (through ws n h' k) = through _ _ _ (tried r v.1 k)
      go a h r (inr v) (halted n h' k) = halted _ _ (later v.0 r v.1 k)

  abbrev Ends : Tree → Type 0
  Ends t = (k : ℕ) (i : Option ℕ) (standing : S.Standing) (room : ℕ) → (p : Part) × (h : S.Standing) × Solves S b k i t standing room p h

  attacked : (t : Tree) → state t ≡ Attacker → AllByRecursion Ends (next t) → Ends t
  attacked t e us k i standing room = go (attempt (moves t) standing)
    where
      on : (ws : List Bool) (n j : ℕ) (h : S.Standing) → AllTried S b standing (moves t) ws n h → best i ws ≡ Some j
          → (length (wins k j ws (words t)) ≤ room) ⊎ (room < length (wins k j ws (words t)))
          → (p : Part) × (h' : S.Standing) × Solves S b k i t standing room p h'
      on ws n j h tr c (inr l) = (_, _, full {e = Cut} e tr c l refl)
      on ws n j h tr c (inl l) =
          let g = true_below ws j (best-wins i ws j c) in
          let q = tried-length tr in
          let z = All-get_or Ends (next t) j nowhere (omega arith) us (suc k) None h (room - length (wins k j ws (words t))) in
          (_, _, win e tr c l z.2)

      choose : (ws : List Bool) (n : ℕ) (h : S.Standing) → AllTried S b standing (moves t) ws n h → (o : Option ℕ) → best i ws ≡ o
          → (p : Part) × (h' : S.Standing) × Solves S b k i t standing room p h'
      choose ws n h tr None c = (_, _, no_win {e = Done} e tr c refl)
      choose ws n h tr (Some j) c = on ws n j h tr c (at_most (length (wins k j ws (words t))) room)

      go : Attempt standing (moves t) → (p : Part) × (h : S.Standing) × Solves S b k i t standing room p h
      go (halted n h s) = (_, _, stopped {e = Spent} e s refl)
      go (through ws n h tr) = choose ws n h tr (best i ws) refl

  abbrev Answered : Moves → Type 0
  Answered m = (k : ℕ) (standing : S.Standing) (room : ℕ) → (p : Part) × (h : S.Standing) × Replies S b k m standing room p h

  replied : (x : List ℕ) (t : Tree) (m : Moves) → Ends t → Answered m → Answered (move x t m)
  replied x t m e r k standing zero = (_, _, no_room {e = Cut} refl refl)
  replied x t m e r k standing (suc n) =
      let z = e (suc k) None standing (suc n - 1) in go z.0 z.1 z.2 (done-or-not z.0.ending)
    where
      go : (p : Part) (h : S.Standing) → Solves S b (suc k) None t standing (suc n - 1) p h → (word p.ending ≡ codes "done") ⊎ (word p.ending ≡ codes "done" → ⊥)
          → (q : Part) × (h' : S.Standing) × Replies S b k (move x t m) standing (suc n) q h'
      go p h s (inl d) = let y = r k h (suc n - suc (length p.lines)) in (_, _, reply (omega arith) s d y.2)
      go p h s (inr d) = (_, _, last (omega arith) s d)

  mutual
    ends : (t : Tree) → Ends t
    ends (node Won r c m) k i standing room = (_, _, won {e = Done} refl refl)
    ends (node NotWon r c m) k i standing room = (_, _, not_won {e = Done} refl refl)
    ends (node Attacker r c m) k i standing room = attacked (node Attacker r c m) refl (each m) k i standing room
    ends (node Defender r c m) k i standing room = let z = replies m k standing room in (_, _, defends refl z.2)

    each : (m : Moves) → AllByRecursion Ends (successors m)
    each none = tt
    each (move x t m) = (ends t, each m)

    replies : (m : Moves) → Answered m
    replies none k standing room = (_, _, no_reply {e = Done} refl)
    replies (move x t m) k standing room = replied x t m (ends t) (replies m) k standing room

pub solutions_end : (S : Storing) → TrialsEnd S → SolutionsEnd S
solutions_end S trials standing t b i room = ends S trials b t 1 (Some i) standing room
