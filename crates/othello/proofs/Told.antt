-- The questions on a position, answered by its tree, in the words of the rules.
use Rattle.std.proofs.Common.{◌≡◌, ℕ, ◌<◌, ◌≤◌, true, false, List, [], ◌∷◌, map, length, get_or, Some, None, Option, MatchOption, sym, ap, ◌∙◌, subst, arith}
use Rattle.std.specs.List.{slice_get}
use Rattle.std.proofs.lemmas.Bool.{both_ways}
use Rattle.std.proofs.lemmas.List.{length-map}
use Rattle.std.proofs.lemmas.Option.{slice_get-get_or}
use Rattle.game.specs.Tree.{state, rank, next, words}
use Rattle.game.specs.declared.state.State.{State}
use Rattle.othello_rules.specs.Diagrams.{placements, placeable, placed, passed, turn}
use Rattle.othello_rules.specs.Legal.{Leaves, Passes}
use Rattle.othello_rules.specs.declared.turn.Turn.TheVariants.{Place, Pass, Ended}
use Rattle.othello_rules.proofs.Legality.{legal_placeable, placed_leaves, passed_passes}
use Rattle.othello_rules.proofs.Turned.{lists, has_turn}
use Rattle.othello.specs.Listed.{rank_is}
use Rattle.othello.specs.Moves.{Move, place, pass, text_of, Becomes, HasMoves, places, passes, over}
use Rattle.othello.specs.Positions.{tree_of, diagram_of, attacker_of, aim_of}
use Rattle.othello.specs.Standing.{HasState, HasRank}
use Rattle.othello.specs.declared.position.Position.{Position}
use Rattle.othello.proofs.Choices.{listed_legal, map_at}
use Rattle.othello.proofs.Led.{Same}
use Rattle.othello.proofs.Positioned.{has_state, has_rank, leads_so}

module _ (p : Position) where
  pub state_told : (s : State) → s ≡ state (tree_of p) → HasState (attacker_of p) (aim_of p) (diagram_of p) s
  state_told s e = rw e (has_state p.attacker p.aim p.diagram)

  pub rank_told : (n : ℕ) → n ≡ rank (tree_of p) → HasRank (diagram_of p) n
  rank_told n e = rw (e, rank_is p.attacker p.aim p.diagram) (has_rank p.diagram)

  pub count_told : (n : ℕ) → n ≡ length (next (tree_of p)) → (vs : List Move) × HasMoves (diagram_of p) vs × (n ≡ length vs)
  count_told n e = let l = leads_so p.attacker p.aim p.diagram in (l.list, l.moves, e ∙ l.size)

  pub text_told : (i : ℕ) (r : Option (List ℕ)) → r ≡ slice_get (words (tree_of p)) i
      → (vs : List Move) × HasMoves (diagram_of p) vs × (r ≡ slice_get (map text_of vs) i)
  text_told i r e = let l = leads_so p.attacker p.aim p.diagram in (l.list, l.moves, e ∙ ap (λ (ws : List (List ℕ)). slice_get ws i) l.texts)

  -- the move of the number i leads to r
  abbrev pub LeadsTo : ℕ → Option Position → Type 0
  LeadsTo i r = (vs : List Move) × HasMoves (diagram_of p) vs × MatchOption r
      (length vs ≤ i)
      (λ q. (v : Move) × (Some v ≡ slice_get vs i) × Becomes (diagram_of p) v (diagram_of q)
      × (attacker_of q ≡ attacker_of p) × (aim_of q ≡ aim_of p))

  module _ (i : ℕ) where
    module _ (e : Place ≡ turn p.diagram) where
      listing : HasMoves p.diagram (map place (placements p.diagram))
      listing = places (placements p.diagram) ((has_turn p.diagram).place.0 (sym e)) (lists p.diagram)

      pub past_told : length (placements p.diagram) ≤ i → LeadsTo i None
      past_told h = (map place (placements p.diagram), listing, omega (arith, length-map (placements p.diagram) place))

      pub place_told : (s : ℕ) → i < length (placements p.diagram) → s ≡ get_or (placements p.diagram) i 0 → (r : Option Position)
          → MatchOption r (placeable p.diagram s ≡ false) (λ q. (placeable p.diagram s ≡ true) × (q.diagram ≡ placed p.diagram s) × (q.attacker ≡ p.attacker) × (q.aim ≡ p.aim))
          → LeadsTo i r
      place_told s h k = by_result
        where
          at : Some s ≡ slice_get (placements p.diagram) i
          at = sym (slice_get-get_or (placements p.diagram) i 0 h ∙ ap Some (sym k))

          by_result : (r : Option Position)
              → MatchOption r (placeable p.diagram s ≡ false) (λ q. (placeable p.diagram s ≡ true) × (q.diagram ≡ placed p.diagram s) × (q.attacker ≡ p.attacker) × (q.aim ≡ p.aim))
              → LeadsTo i r
          by_result None c = absurd (both_ways (placeable p.diagram s) c (legal_placeable p.diagram s (listed_legal p.diagram (placements p.diagram) i s (lists p.diagram) at)))
          by_result (Some q) c = (
            map place (placements p.diagram),
            listing,
            (
              place s,
              map_at place (placements p.diagram) i s at,
              subst (Leaves p.diagram s) (sym c.1) (placed_leaves p.diagram s (listed_legal p.diagram (placements p.diagram) i s (lists p.diagram) at)),
              c.2,
              c.3,
            ),
          )

    module _ (e : Pass ≡ turn p.diagram) where
      alone : HasMoves p.diagram (pass ∷ [])
      alone = passes ((has_turn p.diagram).pass.0 (sym e))

      pub pass_told : (q : Position) → i ≡ 0 → Same p (passed p.diagram) q → LeadsTo i (Some q)
      pass_told q z c = (
        pass ∷ [],
        alone,
        (
          pass,
          ap (slice_get (pass ∷ [])) (sym z),
          subst (Passes p.diagram) (sym c.0) (passed_passes p.diagram),
          c.1,
          c.2,
        ),
      )

      pub other_told : 0 < i → LeadsTo i None
      other_told h = (pass ∷ [], alone, omega arith)

    pub over_told : Ended ≡ turn p.diagram → LeadsTo i None
    over_told e = ([], over ((has_turn p.diagram).ended.0 (sym e)), omega arith)
