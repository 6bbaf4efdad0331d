-- The root of a position's tree: its state, rank, code and moves, by what the turn is.
use Rattle.std.specs.Prelude.{◌≡◌, ℕ, ◌<◌, ◌≤◌, List, [], ◌∷◌, map, length, get_or, Some, None, slice_index, slice_index_or, refl}
use Rattle.std.proofs.Common.{sym, ◌∙◌, arith}
use Rattle.std.proofs.Math.Path.{ap}
use Rattle.std.specs.List.{slice_get}
use Rattle.std.proofs.lemmas.List.{length-map, get_or-map}
use Rattle.std.proofs.lemmas.Option.{slice_get-get_or, slice_get_past}
use Rattle.game.specs.Tree.{Tree, nowhere, state, rank, code, next, words, successors, texts}
use Rattle.othello_rules.specs.Diagrams.{placements, placed, turn}
use Rattle.othello_rules.specs.declared.diagram.Diagram.{Diagram}
use Rattle.othello_rules.specs.declared.side.Side.{Side}
use Rattle.othello_rules.specs.declared.turn.Turn.{Turn}
use Rattle.othello_rules.specs.declared.turn.Turn.TheVariants.{Place}
use Rattle.othello.specs.Endings.{Branch, square_text, placing, by_turn, moves_of, state_by, state_of, rank_of, code_of, branches, tree}
use Rattle.othello.specs.Grown.{grows}

successors_branches : (f : Diagram → Tree) (l : List Branch) → successors (branches f l) ≡ map (λ (m : Branch). f m.to) l
successors_branches f [] = refl
successors_branches f (m ∷ l) = ap (λ (ts : List Tree). f m.to ∷ ts) (successors_branches f l)

texts_branches : (f : Diagram → Tree) (l : List Branch) → texts (branches f l) ≡ map (λ (m : Branch). m.text) l
texts_branches f [] = refl
texts_branches f (m ∷ l) = ap (λ (ts : List (List ℕ)). m.text ∷ ts) (texts_branches f l)

map_placing : {T : Type 0} (f : Branch → T) (d : Diagram) (l : List ℕ) → map f (map (placing d) l) ≡ map (λ (s : ℕ). f (placing d s)) l
map_placing f d [] = refl
map_placing {T} f d (s ∷ l) = ap (λ (ts : List T). f (placing d s) ∷ ts) (map_placing f d l)

module _ (attacker : Side) (aim : ℕ) (d : Diagram) where
  pub rank_is : rank (tree attacker aim d) ≡ rank_of d
  rank_is = ap rank (grows attacker aim d)

  pub code_is : code (tree attacker aim d) ≡ code_of attacker aim d
  code_is = ap code (grows attacker aim d)

  pub next_is : next (tree attacker aim d) ≡ map (λ (m : Branch). tree attacker aim m.to) (moves_of d)
  next_is = ap next (grows attacker aim d) ∙ successors_branches (tree attacker aim) (moves_of d)

  pub words_is : words (tree attacker aim d) ≡ map (λ (m : Branch). m.text) (moves_of d)
  words_is = ap words (grows attacker aim d) ∙ texts_branches (tree attacker aim) (moves_of d)

  pub count_is : length (next (tree attacker aim d)) ≡ length (moves_of d)
  count_is = ap length next_is ∙ length-map (moves_of d) (λ (m : Branch). tree attacker aim m.to)

  pub words_count : length (words (tree attacker aim d)) ≡ length (next (tree attacker aim d))
  words_count = ap length words_is ∙ length-map (moves_of d) (λ (m : Branch). m.text) ∙ sym count_is

  -- by what the turn is
  module _ (t : Turn) (e : t ≡ turn d) where
    pub state_turn : state (tree attacker aim d) ≡ state_by attacker aim d t
    unfolding state_of
    state_turn = ap state (grows attacker aim d) ∙ ap (state_by attacker aim d) (sym e)

    pub moves_turn : moves_of d ≡ by_turn d t
    unfolding moves_of
    moves_turn = ap (by_turn d) (sym e)

    pub next_turn : next (tree attacker aim d) ≡ map (λ (m : Branch). tree attacker aim m.to) (by_turn d t)
    next_turn = next_is ∙ ap (map (λ (m : Branch). tree attacker aim m.to)) moves_turn

    pub words_turn : words (tree attacker aim d) ≡ map (λ (m : Branch). m.text) (by_turn d t)
    words_turn = words_is ∙ ap (map (λ (m : Branch). m.text)) moves_turn

    pub count_turn : length (next (tree attacker aim d)) ≡ length (by_turn d t)
    count_turn = count_is ∙ ap length moves_turn

  -- where the mover may place
  module _ (e : Place ≡ turn d) where
    pub next_place : next (tree attacker aim d) ≡ map (λ (s : ℕ). tree attacker aim (placed d s)) (placements d)
    next_place = next_turn Place e ∙ map_placing (λ (m : Branch). tree attacker aim m.to) d (placements d)

    pub words_place : words (tree attacker aim d) ≡ map square_text (placements d)
    words_place = words_turn Place e ∙ map_placing (λ (m : Branch). m.text) d (placements d)

    pub count_place : length (next (tree attacker aim d)) ≡ length (placements d)
    count_place = count_turn Place e ∙ length-map (placements d) (placing d)

    -- l is the list of the placements
    module _ (l : List ℕ) (p : l ≡ placements d) (i : ℕ) where
      pub text-there : (s : ℕ) → i < length l → s ≡ slice_index l i → Some (square_text s) ≡ slice_get (words (tree attacker aim d)) i
      text-there s h k =
          sym (ap (λ (ws : List (List ℕ)). slice_get ws i) (words_place ∙ ap (map square_text) (sym p))
          ∙ slice_get-get_or (map square_text l) i [] (omega (arith, length-map l square_text))
          ∙ ap Some (get_or-map square_text l i 0 [] h)
          ∙ ap (λ (q : ℕ). Some (square_text q)) (sym k))

      pub text-past : length l ≤ i → None ≡ slice_get (words (tree attacker aim d)) i
      text-past h =
          sym (ap (λ (ws : List (List ℕ)). slice_get ws i) (words_place ∙ ap (map square_text) (sym p))
          ∙ slice_get_past (map square_text l) i (omega (arith, length-map l square_text)))

    pub next_there : (i : ℕ) → i < length (placements d) → tree attacker aim (placed d (slice_index (placements d) i)) ≡ slice_index_or (next (tree attacker aim d)) i nowhere
    next_there i h =
        sym (ap (λ (l : List Tree). get_or l i nowhere) next_place
        ∙ get_or-map (λ (s : ℕ). tree attacker aim (placed d s)) (placements d) i 0 nowhere h)
