-- Where all successors have ended, all moves are tried at once.
use Rattle.std.proofs.Common.{◌≡◌, ℕ, Bool, true, false, ◌&&◌, List, [], ◌∷◌, map, refl, ap}
use Rattle.std.proofs.lemmas.Bool.{and_parts}
use Rattle.game.specs.Tree.{Tree, Moves, none, move, state, code, successors, ended}
use Rattle.game.specs.declared.state.State.{State}
use Rattle.game.specs.declared.state.State.TheVariants.{Won, NotWon, Attacker, Defender}
use Rattle.table.specs.Storings.{Storing}
use Rattle.search_laws.specs.declared.answer.Verdict.{Verdict}
use Rattle.search_laws.specs.declared.answer.Answer.{Answer}
use Rattle.search_laws.specs.declared.answer.Verdict.TheVariants as verdicts
use Rattle.search_laws.specs.Trial.{Trial, at_once, known_as}
use Rattle.search_laws.specs.Words.{word, value_word}
use Rattle.solution_laws.specs.Solution.{AllTried, no_more, tried}

-- an answer of so many expansions and of so many entries
abbrev pub answer : Verdict → ℕ → ℕ → Answer
answer v x e = record { verdict = v; expansions = x; entries = e }

abbrev pub is_won : State → Bool
is_won Won = true
is_won NotWon = false
is_won Attacker = false
is_won Defender = false

-- the states of the positions that the moves lead to
abbrev pub states : Moves → List State
states m = map state (successors m)

abbrev pub all_ended : List State → Bool
all_ended [] = true
all_ended (s ∷ ss) = ended s && all_ended ss

-- the verdict of a value
abbrev verdict_of : Bool → Verdict
verdict_of true = verdicts.Won
verdict_of false = verdicts.NotWon

of_the_word : (w : Bool) → word (verdict_of w) ≡ value_word w
of_the_word true = refl
of_the_word false = refl

module _ (S : Storing) (standing : S.Standing) (b : ℕ) where
  answered : (t : Tree) (s : State) → state t ≡ s → ended s ≡ true → Trial S standing t b (answer (verdict_of (is_won s)) 0 0) standing
  answered t Won e h = at_once {w = true} (ap (λ s. known_as s (S.shows standing (code t))) e) refl
  answered t NotWon e h = at_once {w = false} (ap (λ s. known_as s (S.shows standing (code t))) e) refl
  answered t Attacker e h = absurd (cc)
  answered t Defender e h = absurd (cc)

  pub ended_tried : (m : Moves) → all_ended (states m) ≡ true → AllTried S b standing m (map is_won (states m)) 0 standing
  ended_tried none e = no_more
  ended_tried (move x t m) e =
      let p = and_parts (ended (state t)) (all_ended (states m)) e in
      tried (answered t (state t) refl p.0) (of_the_word (is_won (state t))) (ended_tried m p.1)
