-- Minimax over a position says whether its attacker forces the margin.
use Rattle.std.proofs.Common.{◌≡◌, ℕ, zero, suc, ◌<◌, true, ◌≢◌, List, length, get_or, Some, Decides, refl, inl, inr, arith}
use Rattle.std.specs.List.{slice_get}
use Rattle.std.proofs.lemmas.Bool.{and_parts, and_from, or_cases, or_left, or_right, false≢true}
use Rattle.game.specs.Tree.{Tree, node, Moves, none, move, successors, nowhere, state, next, minimax, some_won, all_won}
use Rattle.game.specs.declared.state.State.{State}
use Rattle.game.specs.declared.state.State.TheVariants.{Won, NotWon, Attacker, Defender}
use Rattle.othello_rules.specs.Legal.{IsOver}
use Rattle.othello_rules.specs.declared.diagram.Diagram.{Diagram}
use Rattle.othello_rules.specs.declared.side.Side.{Side}
use Rattle.othello.specs.Moves.{Move, Becomes, HasMoves}
use Rattle.othello.specs.Standing.{HasState, IsPosition, stands}
use Rattle.othello.specs.Forcing.{Forces, reached, some, every, MinimaxIsForcing}
use Rattle.othello.proofs.Choices.{at_within, numbered, at_may, over_stuck, may_at, some_move, becomes}
use Rattle.othello.proofs.Positioned.{positions}

-- ---- the successors by number

abbrev Wins : Moves → ℕ → Type 0
Wins m i = minimax (get_or (successors m) i nowhere) ≡ true

some_from : (m : Moves) → some_won m ≡ true → (i : ℕ) × (i < length (successors m)) × Wins m i
unfolding minimax some_won all_won
some_from none h = absurd (false≢true h)
some_from (move x t m) h = elim (or_cases (minimax t) (some_won m) h) [
  | inl z ↦ (let k : 0 < suc (length (successors m)) = omega arith in (0, k, z))
  | inr z ↦ (let r = some_from m z in let k : suc r.0 < suc (length (successors m)) = omega (arith, r.1) in (suc r.0, k, r.2))
]

some_to : (m : Moves) (i : ℕ) → i < length (successors m) → Wins m i → some_won m ≡ true
unfolding minimax some_won all_won
some_to none i h w = absurd (omega arith)
some_to (move x t m) zero h w = or_left (minimax t) (some_won m) w
some_to (move x t m) (suc i) h w = or_right (minimax t) (some_won m) (some_to m i (omega arith) w)

all_from : (m : Moves) → all_won m ≡ true → (i : ℕ) → i < length (successors m) → Wins m i
unfolding minimax some_won all_won
all_from none h i k = absurd (omega arith)
all_from (move x t m) h zero k = (and_parts (minimax t) (all_won m) h).0
all_from (move x t m) h (suc i) k = all_from m (and_parts (minimax t) (all_won m) h).1 i (omega arith)

all_to : (m : Moves) → ((i : ℕ) → i < length (successors m) → Wins m i) → all_won m ≡ true
unfolding minimax some_won all_won
all_to none f = refl
all_to (move x t m) f =
    and_from (minimax t) (all_won m) (f 0 (let k : 0 < suc (length (successors m)) = omega arith in k))
    (all_to m (λ i h. f (suc i) (let k : suc i < suc (length (successors m)) = omega arith in k)))

-- ---- a position over positions whose values say so

module _ (a : Side) (aim : ℕ) (d : Diagram) where
  -- once the game is over, only the margin counts
  over_forces : IsOver d → Forces a aim d → (s : State) → HasState a aim d s → s ≡ Won
  over_forces o (reached _ r) s h = h.won.1 (o, r)
  over_forces o (some _ v m e b f) s h = absurd (over_stuck d o v m)
  over_forces o (every _ v m f) s h = absurd (over_stuck d o v m)

  module _ (vs : List Move) (ms : HasMoves d vs) (m : Moves) (size : length (successors m) ≡ length vs)
      (step : (i : ℕ) (v : Move) → Some v ≡ slice_get vs i → (e : Diagram) → Becomes d v e → Decides (minimax (get_or (successors m) i nowhere)) (Forces a aim e)) where
    own_forces : d.mover ≡ a → some_won m ≡ true → Forces a aim d
    own_forces mine h =
        let r = some_from m h in
        let n = numbered vs r.0 (omega (arith, r.1)) in
        let may = at_may d vs ms r.0 n.0 n.1 in
        let e = becomes d n.0 may in
        some mine n.0 may e.0 e.1 ((step r.0 n.0 n.1 e.0 e.1).0 r.2)

    own_wins : d.mover ≡ a → (IsOver d → ⊥) → Forces a aim d → some_won m ≡ true
    own_wins mine n (reached o r) = absurd (n o)
    own_wins mine n (some _ v may e b f) =
        let i = may_at d vs ms v may in
        some_to m i.0 (omega (arith, at_within vs i.0 v i.1)) ((step i.0 v i.1 e b).1 f)
    own_wins mine n (every theirs v may f) = absurd (theirs mine)

    other_forces : d.mover ≢ a → (IsOver d → ⊥) → all_won m ≡ true → Forces a aim d
    other_forces theirs n h =
        let v = some_move d vs ms n in
        every theirs v.0 v.1 (λ w may e b. (let i = may_at d vs ms w may in
        (step i.0 w i.1 e b).0 (all_from m h i.0 (omega (arith, at_within vs i.0 w i.1)))))

    other_wins : d.mover ≢ a → (IsOver d → ⊥) → Forces a aim d → all_won m ≡ true
    other_wins theirs n (reached o r) = absurd (n o)
    other_wins theirs n (some mine v may e b f) = absurd (theirs mine)
    other_wins theirs n (every _ v may f) = all_to m (λ i h.
        (let w = numbered vs i (omega arith) in
        let k = at_may d vs ms i w.0 w.1 in
        let e = becomes d w.0 k in
        (step i w.0 w.1 e.0 e.1).1 (f w.0 k e.0 e.1)))

    by_state : (s : State) (r : ℕ) (c : List ℕ) → HasState a aim d s → Decides (minimax (node s r c m)) (Forces a aim d)
    unfolding minimax some_won all_won
    by_state Won r c h = let w = h.won.0 refl in (λ _. reached w.0 w.1, λ _. refl)
    by_state NotWon r c h = (λ e. absurd (false≢true e), λ f. absurd (let e : NotWon ≡ Won = over_forces (h.over.0 refl) f NotWon h in cc))
    by_state Attacker r c h =
        let mine = (h.turn refl).0 refl in
        let n : IsOver d → ⊥ = λ o. false≢true (h.over.1 o) in
        (own_forces mine, own_wins mine n)
    by_state Defender r c h =
        let theirs : d.mover ≢ a = λ e. (let z : Defender ≡ Attacker = (h.turn refl).1 e in let w : ⊥ = cc in w) in
        let n : IsOver d → ⊥ = λ o. false≢true (h.over.1 o) in
        (other_forces theirs n, other_wins theirs n)

forced_by : (a : Side) (aim : ℕ) (d : Diagram) (t : Tree) → HasState a aim d (state t) → (vs : List Move) → HasMoves d vs → length (next t) ≡ length vs
    → ((i : ℕ) (v : Move) → Some v ≡ slice_get vs i → (e : Diagram) → Becomes d v e → Decides (minimax (get_or (next t) i nowhere)) (Forces a aim e))
    → Decides (minimax t) (Forces a aim d)
forced_by a aim d (node s r c m) h vs ms size step = by_state a aim d vs ms m size step s r c h

pub forced : (a : Side) (aim : ℕ) {d : Diagram} {t : Tree} → IsPosition a aim d t → Decides (minimax t) (Forces a aim d)
forced a aim (stands {d} {t} h rk vs ms texts size leads) =
    forced_by a aim d t h vs ms size (λ i v q e b. forced a aim (leads i v q e b))

pub minimax_forces : MinimaxIsForcing
minimax_forces a aim d = (λ t p. forced a aim p, forced a aim (positions a aim d))
