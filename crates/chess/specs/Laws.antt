-- The laws of chess as a game.
use Rattle.std.specs.Prelude.{◌≡◌, ℕ, zero, suc, ◌-◌, ◌*◌, ◌^◌, ◌<◌, ◌≤◌, Bool, true, false, cond, not, ◌&&◌, List, [], ◌∷◌, length, Ok, Err, Result, ◌≢◌, nat_le, slice_index_or}
use Rattle.std.proofs.Math.Path.{refl}
use Rattle.std.proofs.Common.{sym, ap, ◌∙◌, subst, arith}
use Rattle.std.specs.List.{AllByRecursion}
use Rattle.std.proofs.ByRecursion.{All-map, All-weaker}
use Rattle.std.proofs.lemmas.Bool.{false≢true, leb-true, and_parts}
use Rattle.form.specs.Forms.{reading}
use Rattle.form.proofs.Within.{place_within}
use Rattle.game.specs.Tree.{Tree, position, refused, state, rank, code, nowhere, next, words, ended}
use Rattle.game.specs.Rules.{Alike, Rules, Refusal}
use Rattle.game.specs.declared.decline.Decline.{Decline}
use Rattle.game.specs.declared.decline.Decline.TheVariants.{Aim, Form, Unlawful}
use Rattle.game.specs.Declines.{number}
use Rattle.game.specs.declared.state.State.TheVariants.{Won, NotWon, Defender}
use Rattle.chess_attacks.specs.Men.{same_side}
use Rattle.chess_attacks.specs.declared.men.Side.{Side}
use Rattle.chess_attacks.specs.declared.men.Side.TheVariants.{White, Black}
use Rattle.chess_moves.specs.declared.diagram.Diagram.{Diagram}
use Rattle.chess_moves.specs.declared.step.Move.{Move}
use Rattle.chess_moves.specs.After.{played}
use Rattle.chess_moves.specs.Moves.{legal_moves}
use Rattle.chess_moves.specs.Legal.{Legal, Ordered}
use Rattle.chess_rules.proofs.Keeping.{moves-keep}
use Rattle.chess.specs.Turn.{AttackersTurn}
use Rattle.chess.specs.Flipped.{turn_moves, choices_legal}
use Rattle.chess_rules.specs.Lawful.{Lawful, lawful}
use Rattle.chess_text.specs.Reading.{form}
use Rattle.chess.specs.Limits.{aim_limit, plies_limit, moves_limit}
use Rattle.chess.specs.Code as coding
use Rattle.chess.specs.Trees.{tree, choices, state_of, standing, is_in_check, no_move, text_of}
use Rattle.chess.specs.Positions.{IsTree, fresh_tree, two_kings}
use Rattle.chess.specs.Setting.{judged, reading_of}
use Rattle.chess_moves.proofs.Bound.{few-moves}
use Rattle.chess_moves.proofs.Order.{in_order}
use Rattle.chess_rules.proofs.Tested.{lawful_means}
use Rattle.chess.specs.Codes.{codes_tell_lem, side_small, passing_small, word_small}
use Rattle.chess.specs.Distinct.{distinct_texts}
use Rattle.chess.specs.First.{first_lawful}
use Rattle.chess.specs.Grown.{rank_is, state_is, code_is, next_is, words_is, count_is, grow}

all_each : {X : Type 0} (P : X → Type 0) → ((x : X) → P x) → (xs : List X) → AllByRecursion P xs
all_each P f [] = tt
all_each P f (x ∷ xs) = (f x, all_each P f xs)

pub begun : IsTree fresh_tree
begun = record {
  attacker = White;
  plies = 1;
  diagram = two_kings;
  few = omega arith;
  lawful = (lawful_means two_kings).0 first_lawful;
  turn = (λ _. refl, λ _. refl);
  is = refl;
}

module _ (a : Side) (n : ℕ) (d : Diagram) (few : n ≤ plies_limit) (law : Lawful d) where
  grown : (m : ℕ) → m ≡ n → AttackersTurn n d.mover a → AllByRecursion (λ v. IsTree (grow a n d v)) (choices m d)
  grown zero e w = tt
  grown (suc m) e w =
      All-weaker (Legal d) (λ v. IsTree (grow a n d v))
      (λ v l. record {
        attacker = a;
        plies = n - 1;
        diagram = played d v;
        few = omega arith;
        lawful = moves-keep d law v l;
        turn = turn_moves a n d law v l (omega arith) w;
        is = refl;
      })
      (legal_moves d) (choices_legal (suc m) d)

  closed : AttackersTurn n d.mover a → AllByRecursion IsTree (next (tree a n d))
  closed w = subst (AllByRecursion IsTree) (sym (next_is a n d)) (All-map IsTree (grow a n d) (choices n d) (grown n refl w))

  falls_all : (m : ℕ) → m ≡ n → AllByRecursion (λ v. rank (grow a n d v) < n) (choices m d)
  falls_all zero e = tt
  falls_all (suc m) e = all_each (λ v. rank (grow a n d v) < n) (λ v. omega (arith, rank_is a (n - 1) (played d v))) (legal_moves d)

  falls : AllByRecursion (λ u. rank u < rank (tree a n d)) (next (tree a n d))
  falls =
      subst (λ (r : ℕ). AllByRecursion (λ u. rank u < r) (next (tree a n d))) (sym (rank_is a n d))
      (subst (AllByRecursion (λ u. rank u < n)) (sym (next_is a n d)) (All-map (λ u. rank u < n) (grow a n d) (choices n d) (falls_all n refl)))

  narrow_by : (m : ℕ) → length (choices m d) ≤ moves_limit
  narrow_by zero = omega arith
  narrow_by (suc m) = omega (arith, few-moves d (law.few_men d.mover) (omega (arith, law.one_king d.mover)))

  narrow : length (next (tree a n d)) ≤ moves_limit
  narrow = omega (arith, count_is a n d, narrow_by n)

  shallow : rank (tree a n d) ≤ plies_limit
  shallow = omega (arith, rank_is a n d)

  -- no move exactly where it has ended
  over_by : (m : ℕ) (vs : List Move) (ours check : Bool) → ended (standing ours (no_move vs) check (suc m)) ≡ true → length vs ≡ 0
  over_by m [] ours check h = refl
  over_by m (v ∷ vs) true check h = absurd (false≢true h)
  over_by m (v ∷ vs) false check h = absurd (false≢true h)

  over_at : (m : ℕ) → ended (state_of a m d) ≡ true → length (choices m d) ≡ 0
  unfolding state_of
  over_at zero h = refl
  over_at (suc m) h = over_by m (legal_moves d) (same_side d.mover a) (is_in_check d) h

  over : ended (state (tree a n d)) ≡ true → length (next (tree a n d)) ≡ 0
  over h = count_is a n d ∙ over_at n (sym (ap ended (state_is a n d)) ∙ h)

  lost : (x : Bool) → ended (cond x Won NotWon) ≡ true
  lost true = refl
  lost false = refl

  alive_by : (m : ℕ) (vs : List Move) (ours check : Bool) → ended (standing ours (no_move vs) check m) ≡ false → (0 < length vs) × (0 < m)
  alive_by m [] ours check h = absurd (false≢true (sym h ∙ lost (not ours && check)))
  alive_by zero (v ∷ vs) ours check h = absurd (false≢true (sym h))
  alive_by (suc m) (v ∷ vs) ours check h = (omega arith, omega arith)

  alive_at : (m : ℕ) → ended (state_of a m d) ≡ false → (0 < length (choices m d)) × (0 < m)
  unfolding state_of
  alive_at zero h = let r = alive_by zero (legal_moves d) (same_side d.mover a) (is_in_check d) h in absurd (let z : ⊥ = omega (arith, r.1) in z)
  alive_at (suc m) h = alive_by (suc m) (legal_moves d) (same_side d.mover a) (is_in_check d) h

  alive : ended (state (tree a n d)) ≡ false → (0 < length (next (tree a n d))) × (0 < rank (tree a n d))
  alive h =
      let r = alive_at n (sym (ap ended (state_is a n d)) ∙ h) in
      (omega (arith, r.0, count_is a n d), omega (arith, r.1, rank_is a n d))

  five : AllByRecursion (λ x. length x ≡ 5) (words (tree a n d))
  five = subst (AllByRecursion (λ x. length x ≡ 5)) (sym (words_is a n d)) (All-map (λ x. length x ≡ 5) text_of (choices n d) (all_each (λ v. length (text_of v) ≡ 5) (λ v. refl) (choices n d)))

ordered : (n : ℕ) (d : Diagram) → Ordered (choices n d)
ordered zero d = tt
ordered (suc n) d = in_order d

distinct : (a : Side) (n : ℕ) (d : Diagram) (i j : ℕ) → i < length (words (tree a n d)) → j < length (words (tree a n d))
    → slice_index_or (words (tree a n d)) i [] ≡ slice_index_or (words (tree a n d)) j [] → i ≡ j
distinct a n d =
    subst (λ (xs : List (List ℕ)). (i j : ℕ) → i < length xs → j < length xs → slice_index_or xs i [] ≡ slice_index_or xs j [] → i ≡ j)
    (sym (words_is a n d)) (distinct_texts (choices n d) (ordered n d))

-- ---- codes

pub same_tree : (t u : Tree) → IsTree t → IsTree u → code t ≡ code u → t ≡ u
same_tree t u x y e =
    let c : coding.code x.attacker x.plies x.diagram ≡ coding.code y.attacker y.plies y.diagram
    = sym (ap code x.is ∙ code_is x.attacker x.plies x.diagram) ∙ (e ∙ (ap code y.is ∙ code_is y.attacker y.plies y.diagram)) in
    let r = codes_tell_lem x.attacker y.attacker x.plies y.plies x.diagram y.diagram x.lawful.whole y.lawful.whole c in
    x.is ∙ ((λ i. tree (r.0 i) (r.1 i) (r.2 i)) ∙ sym y.is)

-- a code is five words
rest_small : (a : Side) (n : ℕ) (d : Diagram) → n ≤ plies_limit → coding.rest a n d < 2 ^ 64
rest_small a n d h = omega (arith, side_small a, side_small d.mover, passing_small d.passing)

coded : (a : Side) (n : ℕ) (d : Diagram) → n ≤ plies_limit → Lawful d → (length (code (tree a n d)) ≡ 5) × AllByRecursion (λ w. w < 2 ^ 64) (code (tree a n d))
coded a n d h k =
    subst (λ (c : List ℕ). (length c ≡ 5) × AllByRecursion (λ w. w < 2 ^ 64) c) (sym (code_is a n d)) (
      refl,
      (
        word_small d.board 0 16,
        (
          word_small d.board 16 16,
          (word_small d.board 32 16, (word_small d.board 48 16, (rest_small a n d h, tt))),
        ),
      ),
    )

alike : (t u : Tree) → t ≡ u → Alike t u
alike t u e = record { states = ap state e; ranks = ap rank e; counts = ap (λ (t : Tree). length (next t)) e; texts = ap words e; codes = λ i _. ap (λ (t : Tree). code (slice_index_or (next t) i nowhere)) e }

-- a law of the trees, from the law of positions
each : (P : Tree → Type 0) → ((a : Side) (n : ℕ) (d : Diagram) → n ≤ plies_limit → Lawful d → P (tree a n d)) → (t : Tree) → IsTree t → P t
each P h t x = subst P (sym x.is) (h x.attacker x.plies x.diagram x.few x.lawful)

-- ---- what a text gives

-- with the attacker to move the defender is not
not_defender : (stuck check : Bool) (n : ℕ) → standing true stuck check n ≢ Defender
not_defender true check n e = let z : ◌≡◌ {A = ℕ} 0 1 = cc in omega arith
not_defender false check zero e = let z : ◌≡◌ {A = ℕ} 0 1 = cc in omega arith
not_defender false check (suc n) e = let z : ◌≡◌ {A = ℕ} 0 1 = cc in omega arith

own_side : (a : Side) → same_side a a ≡ true
own_side White = refl
own_side Black = refl

pub attacking : (n : ℕ) (d : Diagram) → state (tree d.mover n d) ≢ Defender
unfolding state_of
attacking n d e =
    not_defender (no_move (legal_moves d)) (is_in_check d) n
    (ap (λ (x : Bool). standing x (no_move (legal_moves d)) (is_in_check d) n) (sym (own_side d.mover)) ∙ (sym (state_is d.mover n d) ∙ e))

record Given (t : Tree) : Type 0 where
  is_tree : IsTree t
  not_theirs : state t ≡ Defender → ⊥

given_by : (aim : ℕ) (d : Diagram) (t : Tree) → 1 ≤ aim → aim ≤ aim_limit → lawful d ≡ true → tree d.mover (2 * aim - 1) d ≡ t → Given t
given_by aim d t z h k e = record {
  is_tree = record {
    attacker = d.mover;
    plies = 2 * aim - 1;
    diagram = d;
    few = omega arith;
    lawful = (lawful_means d).0 k;
    turn = (λ _. refl, λ _. omega arith);
    is = sym e;
  };
  not_theirs = λ q. attacking (2 * aim - 1) d (ap state e ∙ q);
}

never : {X : Type 0} (c n : ℕ) (t : Tree) → refused c n ≡ position t → X
never c n t e = let z : ◌≡◌ {A = ℕ} 0 1 = cc in absurd (let y : ⊥ = omega arith in y)

judged_given : (aim : ℕ) (r : Result Diagram ℕ) (t : Tree) → 1 ≤ aim → aim ≤ aim_limit → judged aim r ≡ position t → Given t
judged_given aim (Err n) t z h e = never 8 n t e
judged_given aim (Ok d) t z h e = by (lawful d) refl e
  where
    by : (x : Bool) → lawful d ≡ x → cond x (position (tree d.mover (2 * aim - 1) d)) (refused 9 0) ≡ position t → Given t
    by true k q = let same : tree d.mover (2 * aim - 1) d ≡ t = cc in given_by aim d t z h k same
    by false k q = never 9 0 t q

set_given : (x : List ℕ) (aim : ℕ) (t : Tree) → reading_of x aim ≡ position t → Given t
set_given x aim t e = by (nat_le 1 aim && nat_le aim aim_limit) refl e
  where
    by : (y : Bool) → (nat_le 1 aim && nat_le aim aim_limit) ≡ y → cond y (judged aim (reading form x)) (refused 7 0) ≡ position t → Given t
    by true k q =
        let p = and_parts (nat_le 1 aim) (nat_le aim aim_limit) k in
        judged_given aim (reading form x) t (leb-true 1 aim p.0) (leb-true aim aim_limit p.1) q
    by false k q = never 7 0 t q

refusal : (x : List ℕ) (aim n k : ℕ) → reading_of x aim ≡ refused n k → Refusal x n k
refusal x aim n k = aimed (nat_le 1 aim && nat_le aim aim_limit)
  where
    begins : (d : Decline) → refused (number d) 0 ≡ refused n k → Refusal x n k
    begins d e = let z : 0 ≡ k = cc in record { caused = (d, cc); placed = omega arith; at_start = λ _. sym z }

    kept : (b : Bool) (u : Tree) → cond b (position u) (refused 9 0) ≡ refused n k → Refusal x n k
    kept true u e = absurd (cc)
    kept false u e = begins Unlawful e

    read : (r : Result Diagram ℕ) → reading form x ≡ r → judged aim r ≡ refused n k → Refusal x n k
    read (Ok d) s e = kept (lawful d) (tree d.mover (2 * aim - 1) d) e
    read (Err m) s e =
        let place : m ≡ k = cc in
        let formed : 8 ≡ n = cc in
        let h = place_within form x m s in
        record { caused = (Form, formed); placed = omega arith; at_start = λ f. absurd (f (sym formed)) }

    aimed : (b : Bool) → cond b (judged aim (reading form x)) (refused 7 0) ≡ refused n k → Refusal x n k
    aimed true e = read (reading form x) refl e
    aimed false e = begins Aim e

pub chess_rules_hold : Rules fresh_tree IsTree plies_limit moves_limit reading_of
chess_rules_hold = record {
  begun = begun;
  reads = λ x aim t e. (set_given x aim t e).is_tree;
  attacks = λ x aim t e. (set_given x aim t e).not_theirs;
  closed = λ t x. subst (λ (t : Tree). AllByRecursion IsTree (next t)) (sym x.is) (closed x.attacker x.plies x.diagram x.few x.lawful x.turn);
  refuses = refusal;
  over = each (λ t. ended (state t) ≡ true → length (next t) ≡ 0) over;
  alive = each (λ t. ended (state t) ≡ false → 0 < length (next t)) (λ a n d few law h. (alive a n d few law h).0);
  narrow = each (λ t. length (next t) ≤ moves_limit) narrow;
  shallow = each (λ t. rank t ≤ plies_limit) shallow;
  ranked = each (λ t. ended (state t) ≡ false → 0 < rank t) (λ a n d few law h. (alive a n d few law h).1);
  falls = each (λ t. AllByRecursion (λ u. rank u < rank t) (next t)) falls;
  low = omega arith;
  small = omega arith;
  five = each (λ t. AllByRecursion (λ x. length x ≡ 5) (words t)) five;
  distinct = each (λ t. (i j : ℕ) → i < length (words t) → j < length (words t) → slice_index_or (words t) i [] ≡ slice_index_or (words t) j [] → i ≡ j) (λ a n d _ _. distinct a n d);
  coded = each (λ t. (length (code t) ≡ 5) × AllByRecursion (λ w. w < 2 ^ 64) (code t)) coded;
  codes = λ t u x y e. alike t u (same_tree t u x y e);
}
