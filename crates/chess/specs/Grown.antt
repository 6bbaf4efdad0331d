-- The tree of a position by its moves.
use Rattle.std.specs.Prelude.{◌≡◌, ℕ, zero, suc, ◌-◌, ◌<◌, ◌≤◌, not, List, [], ◌∷◌, map, length, get_or, Some, None, Option, ◌==◌, ◌≢◌, slice_index_or, refl}
use Rattle.std.proofs.Common.{sym, ap, ◌∙◌, subst, arith}
use Rattle.std.specs.List.{ContainsAt as Has, AllByRecursion, slice_get}
use Rattle.std.proofs.ByRecursion.{All-get_or, All-weaker, all_has_itself}
use Rattle.std.proofs.lemmas.List.{length-map, get_or-map}
use Rattle.std.proofs.lemmas.Bool.Decides.{nat_tests}
use Rattle.game.specs.Tree.{Tree, node, state, rank, code, successors, texts, next, words}
use Rattle.chess_attacks.specs.declared.men.Side.{Side}
use Rattle.chess_moves.specs.declared.diagram.Diagram.{Diagram}
use Rattle.chess_moves.specs.declared.step.Move.{Move}
use Rattle.form.specs.Forms.{given}
use Rattle.chess_moves.specs.After.{played}
use Rattle.chess_moves.specs.Moves.{legal_moves, any_move}
use Rattle.chess_rules.specs.Lawful.{Lawful}
use Rattle.chess.specs.Code as coding
use Rattle.chess.specs.Nth.{nth_some, nth_none, nth_map}
use Rattle.chess_moves.proofs.Whole.{lists}
use Rattle.chess_rules.proofs.Keeping.{moves-keep}
use Rattle.chess_rules.proofs.Tested.{lawful_means}
use Rattle.chess.specs.declared.problem.Problem.{Problem}
use Rattle.chess.specs.Trees.{tree, branches, choices, state_of, text_of, no_move}
use Rattle.chess.specs.Choices.{choices_of}

-- ---- one unfolding of the tree

-- where a move leads
abbrev pub grow : Side → ℕ → Diagram → Move → Tree
grow a n d v = tree a (n - 1) (played d v)

grows : (a : Side) (n : ℕ) (d : Diagram) → tree a n d ≡ node (state_of a n d) n (coding.code a n d) (branches (tree a (n - 1)) d (choices n d))
unfolding tree
grows a zero d = refl
grows a (suc n) d =
    let e : n ≡ suc n - 1 = omega arith in
    ap (λ (k : ℕ). node (state_of a (suc n) d) (suc n) (coding.code a (suc n) d) (branches (tree a k) d (legal_moves d))) e

branch_next : (f : Diagram → Tree) (d : Diagram) (vs : List Move) → successors (branches f d vs) ≡ map (λ v. f (played d v)) vs
branch_next f d [] = refl
branch_next f d (v ∷ vs) = ap (λ (ts : List Tree). f (played d v) ∷ ts) (branch_next f d vs)

branch_words : (f : Diagram → Tree) (d : Diagram) (vs : List Move) → texts (branches f d vs) ≡ map text_of vs
branch_words f d [] = refl
branch_words f d (v ∷ vs) = ap (λ (ts : List (List ℕ)). text_of v ∷ ts) (branch_words f d vs)

module _ (a : Side) (n : ℕ) (d : Diagram) where
  pub state_is : state (tree a n d) ≡ state_of a n d
  state_is = ap state (grows a n d)

  pub rank_is : rank (tree a n d) ≡ n
  rank_is = ap rank (grows a n d)

  pub code_is : code (tree a n d) ≡ coding.code a n d
  code_is = ap code (grows a n d)

  pub next_is : next (tree a n d) ≡ map (grow a n d) (choices n d)
  next_is = ap next (grows a n d) ∙ branch_next (tree a (n - 1)) d (choices n d)

  pub words_is : words (tree a n d) ≡ map text_of (choices n d)
  words_is = ap words (grows a n d) ∙ branch_words (tree a (n - 1)) d (choices n d)

  pub count_is : length (next (tree a n d)) ≡ length (choices n d)
  count_is = ap length next_is ∙ length-map (choices n d) (grow a n d)

  pub words_count : length (words (tree a n d)) ≡ length (choices n d)
  words_count = ap length words_is ∙ length-map (choices n d) text_of

-- ---- the moves of a position

pub keeps_of : (p : Problem) → Lawful p.position.diagram
keeps_of p = (lawful_means p.position.diagram).0 p.position.fair

pub choices_left : (n : ℕ) (d : Diagram) → (n ≢ 0) → choices n d ≡ legal_moves d
choices_left zero d h = absurd (h refl)
choices_left (suc n) d h = refl

pub choices_keep : (n : ℕ) (d : Diagram) → Lawful d → AllByRecursion (λ v. Lawful (played d v)) (choices n d)
choices_keep zero d k = tt
choices_keep (suc n) d k =
    All-weaker (Has (legal_moves d)) (λ v. Lawful (played d v)) (λ v h. moves-keep d k v ((lists d).sound v h)) (legal_moves d) (all_has_itself (legal_moves d))

-- a choice, from the list that it was taken from
pub chosen : (p : Problem) (vs : List Move) (i : ℕ) (o : Option Move) → (p.plies ≢ 0) → vs ≡ legal_moves p.position.diagram → o ≡ slice_get vs i
    → o ≡ slice_get (choices_of p) i
chosen p vs i o z e h = h ∙ ap (λ (us : List Move). slice_get us i) (e ∙ sym (choices_left p.plies p.position.diagram z))

module _ (n : ℕ) (d : Diagram) (i : ℕ) (v : Move) (h : Some v ≡ slice_get (choices n d) i) where
  in_place : (i < length (choices n d)) × (slice_index_or (choices n d) i v ≡ v)
  in_place = nth_some (choices n d) i v v h

  pub choice_keeps : Lawful d → Lawful (played d v)
  choice_keeps k =
      subst (λ (v : Move). Lawful (played d v)) in_place.1
      (All-get_or (λ v. Lawful (played d v)) (choices n d) i v in_place.0 (choices_keep n d k))

  pub choice_in : (a : Side) → i < length (next (tree a n d))
  choice_in a = omega (arith, in_place.0, count_is a n d)

  pub choice_tree : (a : Side) (e : Tree) → tree a (n - 1) (played d v) ≡ slice_index_or (next (tree a n d)) i e
  choice_tree a e =
      sym (ap (λ (ts : List Tree). get_or ts i e) (next_is a n d)
      ∙ (get_or-map (grow a n d) (choices n d) i v e in_place.0 ∙ ap (grow a n d) in_place.1))

pub choice_ply : (n : ℕ) (d : Diagram) (i : ℕ) (v : Move) → Some v ≡ slice_get (choices n d) i → 0 < n
choice_ply zero d i v h = absurd (let z : ◌≡◌ {A = ℕ} 0 1 = cc in omega arith)
choice_ply (suc n) d i v h = omega arith

pub choice_none : (a : Side) (n : ℕ) (d : Diagram) (i : ℕ) → None ≡ slice_get (choices n d) i → length (next (tree a n d)) ≤ i
choice_none a n d i h = omega (arith, nth_none (choices n d) i h, count_is a n d)

-- the text of a number
pub words_nth : (a : Side) (n : ℕ) (d : Diagram) (i : ℕ) (o : Option Move) → o ≡ slice_get (choices n d) i
    → given o None (λ v. Some (text_of v)) ≡ slice_get (words (tree a n d)) i
words_nth a n d i o h =
    ap (λ (o : Option Move). given o None (λ v. Some (text_of v))) h
    ∙ sym (ap (λ (xs : List (List ℕ)). slice_get xs i) (words_is a n d) ∙ nth_map text_of (choices n d) i)

-- the text of each number
pub words_all : (a : Side) (p : Problem) (vs : List Move) → (p.plies ≢ 0) → vs ≡ legal_moves p.position.diagram
    → map text_of vs ≡ words (tree a p.plies p.position.diagram)
words_all a p vs z e =
    ap (map text_of) (e ∙ sym (choices_left p.plies p.position.diagram z)) ∙ sym (words_is a p.plies p.position.diagram)

pub no_choices : (n : ℕ) (d : Diagram) → n ≡ 0 → choices n d ≡ []
no_choices zero d e = refl
no_choices (suc n) d e = absurd (let z : ⊥ = omega arith in z)

-- ---- whether there is a move

pub stuck_is : (vs : List Move) → not (any_move vs) ≡ no_move vs
stuck_is [] = refl
stuck_is (v ∷ vs) = refl

pub empty_is : (vs : List Move) → (length vs == 0) ≡ no_move vs
empty_is [] = refl
empty_is (v ∷ vs) = grind (arith, nat_tests)
