-- The tree of a position is one in the words of the Laws.
use Rattle.std.proofs.Common.{◌≡◌, ℕ, zero, suc, ◌-◌, Bool, true, false, ◌⊎◌, List, [], ◌∷◌, map, get_or, sym, refl, ap, ◌∙◌, subst, inl, inr, arith}
use Rattle.std.proofs.lemmas.Bool.{false≢true}
use Rattle.game.specs.Tree.{Tree, state, next, words, ended, nowhere}
use Rattle.game.specs.declared.state.State.{State}
use Rattle.game.specs.declared.state.State.TheVariants.{Won, NotWon, Attacker, Defender}
use Rattle.chess_attacks.specs.declared.men.Side.{Side}
use Rattle.chess_attacks.specs.Men.{same_side}
use Rattle.chess_attacks.proofs.Sides.{side_same}
use Rattle.chess_moves.specs.declared.diagram.Diagram.{Diagram}
use Rattle.chess_moves.specs.declared.step.Move.{Move}
use Rattle.chess_moves.specs.After.{played}
use Rattle.chess_moves.specs.Moves.{legal_moves}
use Rattle.chess_moves.specs.Legal.{Legal}
use Rattle.chess_moves.proofs.Whole.{lists}
use Rattle.chess_moves.proofs.Leaving.{legal_once}
use Rattle.chess_rules.specs.Lawful.{Lawful}
use Rattle.chess_rules.proofs.Keeping.{moves-keep}
use Rattle.chess.specs.Flipped.{choice_legal}
use Rattle.chess.specs.Trees.{tree, choices, state_of, standing, no_move, is_in_check, text_of}
use Rattle.chess.specs.Grown.{grow, state_is, rank_is, next_is, words_is, count_is}
use Rattle.chess.specs.Nth.{map_at}
use Rattle.chess.specs.Mates.{IsStuck}
use Rattle.chess.specs.Standing.{HasState, HasMoves, IsPosition, TreesArePositions}
use Rattle.chess.proofs.Mating.{their, no_moves, first_legal, is_mated, own_turn, no_check, can_move}

-- two states that a test tells apart
abbrev is_won : State → Bool
is_won Won = true
is_won NotWon = false
is_won Attacker = false
is_won Defender = false

abbrev is_attacker : State → Bool
is_attacker Won = false
is_attacker NotWon = false
is_attacker Attacker = true
is_attacker Defender = false

module _ (a : Side) (d : Diagram) where
  not_stuck : (v : Move) (vs : List Move) → legal_moves d ≡ v ∷ vs → (n : ℕ) → IsStuck d ⊎ (suc n ≡ 0) → ⊥
  not_stuck v vs e n (inl s) = s v (first_legal a d v vs e)
  not_stuck v vs e n (inr z) = omega arith

  stands_by : (ours : Bool) → same_side d.mover a ≡ ours → (vs : List Move) → legal_moves d ≡ vs → (check : Bool) → is_in_check d ≡ check
      → (n : ℕ) → HasState a n d (standing ours (no_move vs) check n)
  stands_by true o [] e check c n = record {
    won = (λ h. absurd (false≢true (ap is_won h)), λ m. absurd (own_turn a d o m));
    over = (λ _. inl (no_moves a d [] e refl), λ _. refl);
    turn = λ h. absurd (false≢true (sym h));
  }
  stands_by false o [] e true c n = record {
    won = (λ _. is_mated a d o e c, λ _. refl);
    over = (λ _. inl (no_moves a d [] e refl), λ _. refl);
    turn = λ h. absurd (false≢true (sym h));
  }
  stands_by false o [] e false c n = record {
    won = (λ h. absurd (false≢true (ap is_won h)), λ m. absurd (no_check a d c m));
    over = (λ _. inl (no_moves a d [] e refl), λ _. refl);
    turn = λ h. absurd (false≢true (sym h));
  }
  stands_by ours o (v ∷ vs) e check c zero = record {
    won = (λ h. absurd (false≢true (ap is_won h)), λ m. absurd (can_move a d v vs e m));
    over = (λ _. inr refl, λ _. refl);
    turn = λ h. absurd (false≢true (sym h));
  }
  stands_by true o (v ∷ vs) e check c (suc n) = record {
    won = (λ h. absurd (false≢true (ap is_won h)), λ m. absurd (can_move a d v vs e m));
    over = (λ h. absurd (false≢true h), λ s. absurd (not_stuck v vs e n s));
    turn = λ _. (λ _. side_same d.mover a o, λ _. refl);
  }
  stands_by false o (v ∷ vs) e check c (suc n) = record {
    won = (λ h. absurd (false≢true (ap is_won h)), λ m. absurd (can_move a d v vs e m));
    over = (λ h. absurd (false≢true h), λ s. absurd (not_stuck v vs e n s));
    turn = λ _. (λ h. absurd (false≢true (ap is_attacker h)), λ s. absurd (their a d o s));
  }

  stands : (n : ℕ) → HasState a n d (state (tree a n d))
  unfolding state_of
  stands n = subst (HasState a n d) (sym (state_is a n d)) (stands_by (same_side d.mover a) refl (legal_moves d) refl (is_in_check d) refl n)

  -- an ended position has no choices
  over_none : (n : ℕ) → IsStuck d ⊎ (n ≡ 0) → choices n d ≡ []
  over_none zero s = refl
  over_none (suc n) s = go (legal_moves d) refl
    where
      go : (vs : List Move) → legal_moves d ≡ vs → vs ≡ []
      go [] e = refl
      go (v ∷ vs) e = absurd (not_stuck v vs e n s)

  none : (n : ℕ) → ended (state (tree a n d)) ≡ true → (next (tree a n d) ≡ []) × (words (tree a n d) ≡ [])
  none n h =
      let z = over_none n ((stands n).over.0 h) in
      (next_is a n d ∙ ap (map (grow a n d)) z, words_is a n d ∙ ap (map text_of) z)

  moves : (n : ℕ) (later : Diagram → Tree → Type 0) → Lawful d → ((e : Diagram) → Lawful e → later e (tree a n e)) → HasMoves d later (tree a (suc n) d)
  moves n later k h =
      let same : (v : Move) → grow a (suc n) d v ≡ tree a n (played d v) = λ v. let k : suc n - 1 ≡ n = omega arith in ap (λ (m : ℕ). tree a m (played d v)) k in
      record {
        list = legal_moves d;
        legal = lists d;
        texts = words_is a (suc n) d;
        size = count_is a (suc n) d;
        leads = λ i v q e y.
            let l : Legal d v = choice_legal (suc n) d i v q in
            let one : e ≡ played d v = legal_once d k.whole v l e y in
            subst (λ (x : Diagram). later x (get_or (next (tree a (suc n) d)) i nowhere)) (sym one)
            (subst (later (played d v))
            (sym (ap (λ (ts : List Tree). get_or ts i nowhere) (next_is a (suc n) d) ∙ (map_at (grow a (suc n) d) (legal_moves d) i v nowhere q ∙ same v)))
            (h (played d v) (moves-keep d k v l)));
      }

pub positions : TreesArePositions
positions a zero d k = record {
  stands = stands a d zero;
  plies = rank_is a zero d;
  none = none a d zero;
  moves = λ h. absurd (false≢true (sym h ∙ (stands a d zero).over.1 (inr refl)));
}
positions a (suc n) d k = record {
  stands = stands a d (suc n);
  plies = rank_is a (suc n) d;
  none = none a d (suc n);
  moves = λ _. moves a d n (IsPosition a n) k (positions a n);
}
