-- The tree of a position is one in the words of the rules.
use Rattle.std.proofs.Common.{◌≡◌, ℕ, zero, suc, ◌+◌, ◌*◌, ◌<◌, Bool, true, false, cond, List, [], ◌∷◌, map, length, get_or, Some, sym, refl, ap, ◌∙◌, subst, arith}
use Rattle.std.specs.List.{slice_get}
use Rattle.std.proofs.lemmas.Bool.{false≢true, leb-true, le-leb}
use Rattle.std.proofs.lemmas.List.{length-map}
use Rattle.game.specs.Tree.{Tree, state, next, words, ended, nowhere}
use Rattle.game.specs.declared.state.State.TheVariants.{Won, NotWon, Attacker}
use Rattle.othello_rules.specs.Diagrams.{empties, placements, placed, passed, turn}
use Rattle.othello_rules.specs.Legal.{Leaves, Passes, IsOver}
use Rattle.othello_rules.specs.declared.diagram.Diagram.{Diagram}
use Rattle.othello_rules.specs.declared.side.Side.{Side}
use Rattle.othello_rules.specs.declared.side.Side.TheVariants.{X, O}
use Rattle.othello_rules.specs.declared.turn.Turn.{Turn}
use Rattle.othello_rules.specs.declared.turn.Turn.TheVariants.{Place, Pass, Ended}
use Rattle.othello_rules.proofs.Legality.{legal_placeable, placed_leaves, leaves_one, passes_one}
use Rattle.othello_rules.proofs.Turned.{lists, has_turn}
use Rattle.othello.specs.Endings.{reached, to_move, state_by, square_text, due, rank_of, tree}
use Rattle.othello.specs.Grown.{placed_rank, passed_rank}
use Rattle.othello.specs.Listed.{rank_is, state_turn, next_turn, words_turn, count_turn, words_place, count_place, next_there}
use Rattle.othello.specs.Moves.{Move, place, pass, text_of, Becomes, HasMoves, places, passes, over}
use Rattle.othello.specs.Standing.{HasState, HasRank, IsPosition, stands, TreesArePositions}
use Rattle.othello.proofs.Choices.{at_within, at_number, at_map, listed_legal}

-- ---- the state

going : (a m : Side) → ended (to_move a m) ≡ false
going X X = refl
going X O = refl
going O X = refl
going O O = refl

not_won : (a m : Side) → to_move a m ≡ Won → ⊥
not_won X X e = cc
not_won X O e = cc
not_won O X e = cc
not_won O O e = cc

attacks : (a m : Side) → (to_move a m ≡ Attacker → m ≡ a) × (m ≡ a → to_move a m ≡ Attacker)
attacks X X = (λ _. refl, λ _. refl)
attacks X O = (λ e. absurd (let z : ⊥ = cc in z), λ e. absurd (let z : ⊥ = cc in z))
attacks O X = (λ e. absurd (let z : ⊥ = cc in z), λ e. absurd (let z : ⊥ = cc in z))
attacks O O = (λ _. refl, λ _. refl)

module _ (a : Side) (aim : ℕ) (d : Diagram) where
  -- a side is to move
  moving_state : (IsOver d → ⊥) → HasState a aim d (to_move a d.mover)
  moving_state n = record {
    over = (λ e. absurd (false≢true (sym (going a d.mover) ∙ e)), λ o. absurd (n o));
    won = (λ e. absurd (not_won a d.mover e), λ w. absurd (n w.0));
    turn = λ _. attacks a d.mover;
  }

  -- the game is over
  over_state : IsOver d → (b : Bool) → reached a aim d ≡ b → HasState a aim d (cond b Won NotWon)
  over_state o true e = record {
    over = (λ _. o, λ _. refl);
    won = (λ _. (o, leb-true _ _ e), λ _. refl);
    turn = λ h. absurd (false≢true (sym h));
  }
  over_state o false e = record {
    over = (λ _. o, λ _. refl);
    won = (λ h. absurd (let z : ⊥ = cc in z), λ w. absurd (false≢true (sym e ∙ le-leb _ _ w.1)));
    turn = λ h. absurd (false≢true (sym h));
  }

  state_so : (t : Turn) → t ≡ turn d → HasState a aim d (state_by a aim d t)
  state_so Place e = moving_state (λ o. o d.mover ((has_turn d).place.0 (sym e)))
  state_so Pass e = moving_state (λ o. o _ ((has_turn d).pass.0 (sym e)).1)
  state_so Ended e = over_state ((has_turn d).ended.0 (sym e)) (reached a aim d) refl

  pub has_state : HasState a aim d (state (tree a aim d))
  has_state = subst (HasState a aim d) (sym (state_turn a aim d (turn d) refl)) (state_so (turn d) refl)

-- ---- the rank

module _ (d : Diagram) where
  rank_so : (t : Turn) → t ≡ turn d → HasRank d (2 * empties d + due t)
  rank_so Place e = record {
    passing = λ p. absurd (p.0 ((has_turn d).place.0 (sym e)));
    others = λ _. omega arith;
  }
  rank_so Pass e = record {
    passing = λ _. refl;
    others = λ n. absurd (n ((has_turn d).pass.0 (sym e)));
  }
  rank_so Ended e = record {
    passing = λ p. absurd ((has_turn d).ended.0 (sym e) _ p.1);
    others = λ _. omega arith;
  }

  pub has_rank : HasRank d (rank_of d)
  unfolding rank_of
  has_rank = rank_so (turn d) refl

-- ---- the moves

-- the list of a position's moves, and what each leads to
pub record Leads (a : Side) (aim : ℕ) (d : Diagram) : Type 0 where
  pub list : List Move
  pub moves : HasMoves d list
  pub texts : words (tree a aim d) ≡ map text_of list
  pub size : length (next (tree a aim d)) ≡ length list
  pub leads : (i : ℕ) (v : Move) → Some v ≡ slice_get list i → (e : Diagram) → Becomes d v e
      → (get_or (next (tree a aim d)) i nowhere ≡ tree a aim e) × (rank_of e < rank_of d)

text_map : (l : List ℕ) → map square_text l ≡ map text_of (map place l)
text_map [] = refl
text_map (s ∷ l) = ap (λ (ws : List (List ℕ)). square_text s ∷ ws) (text_map l)

module _ (a : Side) (aim : ℕ) (d : Diagram) where
  placing_leads : Place ≡ turn d → Leads a aim d
  placing_leads e = record {
    list = map place (placements d);
    moves = places (placements d) ((has_turn d).place.0 (sym e)) (lists d);
    texts = words_place a aim d e ∙ text_map (placements d);
    size = count_place a aim d e ∙ sym (length-map (placements d) place);
    leads = λ i v q f b. (let r = at_map place (placements d) i v q in
        let b' : Leaves d r.0 f = subst (λ (w : Move). Becomes d w f) r.2 b in
        let l = listed_legal d (placements d) i r.0 (lists d) r.1 in
        let one : f ≡ placed d r.0 = leaves_one d r.0 l.on_board f (placed d r.0) b' (placed_leaves d r.0 l) in (
          sym (next_there a aim d e i (at_within (placements d) i r.0 r.1))
              ∙ ap (λ (s : ℕ). tree a aim (placed d s)) (at_number (placements d) i r.0 0 r.1)
              ∙ ap (tree a aim) (sym one),
          rw one (placed_rank d r.0 l.on_board (legal_placeable d r.0 l)),
        ));
  }

  passing_leads : Pass ≡ turn d → Leads a aim d
  passing_leads e = record {
    list = pass ∷ [];
    moves = passes ((has_turn d).pass.0 (sym e));
    texts = words_turn a aim d Pass e;
    size = count_turn a aim d Pass e;
    leads = λ i v q f b. (let z : i ≡ 0 = omega (arith, at_within (pass ∷ []) i v q) in
        let w : v ≡ pass = sym (at_number (pass ∷ []) i v pass q) ∙ ap (λ (k : ℕ). get_or (pass ∷ []) k pass) z in
        let b' : Passes d f = subst (λ (u : Move). Becomes d u f) w b in
        let one : f ≡ passed d = passes_one d f b' in (
          ap (λ (k : ℕ). get_or (next (tree a aim d)) k nowhere) z
              ∙ ap (λ (ts : List Tree). get_or ts 0 nowhere) (next_turn a aim d Pass e)
              ∙ ap (tree a aim) (sym one),
          rw one (passed_rank d (sym e)),
        ));
  }

  over_leads : Ended ≡ turn d → Leads a aim d
  over_leads e = record {
    list = [];
    moves = over ((has_turn d).ended.0 (sym e));
    texts = words_turn a aim d Ended e;
    size = count_turn a aim d Ended e;
    leads = λ i v q f b. absurd (omega (arith, at_within {X = Move} [] i v q));
  }

  leads_by : (t : Turn) → t ≡ turn d → Leads a aim d
  leads_by Place e = placing_leads e
  leads_by Pass e = passing_leads e
  leads_by Ended e = over_leads e

  pub leads_so : Leads a aim d
  leads_so = leads_by (turn d) refl

-- ---- the whole tree

module _ (a : Side) (aim : ℕ) where
  within : (n : ℕ) (d : Diagram) → rank_of d < n → IsPosition a aim d (tree a aim d)
  within zero d h = absurd (omega arith)
  within (suc n) d h =
      let l = leads_so a aim d in
      stands (has_state a aim d) (subst (HasRank d) (sym (rank_is a aim d)) (has_rank d)) l.list l.moves l.texts l.size
      (λ i v q e b. (let r = l.leads i v q e b in subst (IsPosition a aim e) (sym r.0) (within n e (omega (arith, r.1)))))

pub positions : TreesArePositions
positions a aim d = within a aim (suc (rank_of d)) d (omega arith)
