-- The laws of a game, of endings: texts and codes tell moves and positions apart, and a reading gives a position.
use Rattle.std.specs.Prelude.{◌≡◌, ℕ, ◌+◌, ◌/◌, ◌%◌, ◌<◌, ◌≤◌, Bool, true, false, cond, List, [], map, length, get_or, Ok, Err, Result, nat_lt, slice_index, slice_index_or, refl}
use Rattle.std.proofs.Common.{sym, ap, ◌∙◌, subst, arith}
use Rattle.std.proofs.lemmas.List.{length-map, get_or-map}
use Rattle.std.proofs.lemmas.Bool.{ltb-false}
use Rattle.form.specs.Forms.{reading as said}
use Rattle.form.proofs.Departing.{says_reading}
use Rattle.form.proofs.Within.{place_within}
use Rattle.game.specs.Tree.{Tree, position, refused, state, code, words}
use Rattle.game.specs.Rules.{Alike, Rules, Refusal}
use Rattle.game.specs.declared.decline.Decline.{Decline}
use Rattle.game.specs.declared.decline.Decline.TheVariants.{Aim, Form, Empties}
use Rattle.game.specs.Declines.{number}
use Rattle.board.specs.Masks.{bit, size}
use Rattle.othello_rules.specs.Diagrams.{empties, placeable, placements, turn}
use Rattle.othello_rules.specs.Reading.{form}
use Rattle.othello_rules.specs.declared.diagram.Diagram.{Diagram}
use Rattle.othello_rules.specs.declared.side.Side.{Side}
use Rattle.othello_rules.specs.declared.side.Side.TheVariants.{X, O}
use Rattle.othello_rules.specs.declared.turn.Turn.{Turn}
use Rattle.othello_rules.specs.declared.turn.Turn.TheVariants.{Place, Pass, Ended}
use Rattle.othello_rules.proofs.Meaning.{stands}
use Rattle.othello.specs.Limits.{aim_limit, empties_limit, rank_limit}
use Rattle.othello.specs.Endings.{square_text, side_number, code_of, CodesPin, tree}
use Rattle.othello.specs.Positions.{IsEnding, full, start}
use Rattle.othello.specs.Setting.{reading_of, reading}
use Rattle.othello.specs.Kept.{Keeps}
use Rattle.othello.specs.Listed.{code_is, words_place, words_turn}
use Rattle.othello_rules.proofs.Rising.{Rising, rising, one_place}
use Rattle.othello.specs.Laws.{by_tree, ending, alike_self, over_at, alive_at, narrow_at, shallow_at, ranked_at, closed_at, falls_at, five_at, coded_at, attacks_at}

-- ---- no two moves share a text

same_square : (s q : ℕ) → square_text s ≡ square_text q → s ≡ q
same_square s q e =
    let f : 97 + s % 8 ≡ 97 + q % 8 = cc in
    let r : 49 + s / 8 ≡ 49 + q / 8 = cc in
    omega arith

listed_rising : (d : Diagram) → Rising 0 (placements d)
unfolding placements
listed_rising d = rising (placeable d) 64 0

distinct_squares : (l : List ℕ) (ws : List (List ℕ)) (i j : ℕ) → Rising 0 l → ws ≡ map square_text l
    → i < length ws → j < length ws → slice_index_or ws i [] ≡ slice_index_or ws j [] → i ≡ j
distinct_squares l ws i j r p h k e =
    let n : length ws ≡ length l = ap length p ∙ length-map l square_text in
    let a : i < length l = omega (arith, n) in
    let b : j < length l = omega (arith, n) in
    one_place l 0 i j r a b
    (same_square (slice_index l i) (slice_index l j)
    (sym (ap (λ (x : List (List ℕ)). get_or x i []) p ∙ get_or-map square_text l i 0 [] a)
    ∙ e ∙ ap (λ (x : List (List ℕ)). get_or x j []) p ∙ get_or-map square_text l j 0 [] b))

distinct_at : (attacker : Side) (aim : ℕ) (d : Diagram) (i j : ℕ) → i < length (words (tree attacker aim d)) → j < length (words (tree attacker aim d))
    → slice_index_or (words (tree attacker aim d)) i [] ≡ slice_index_or (words (tree attacker aim d)) j [] → i ≡ j
distinct_at attacker aim d i j h k e = go (turn d) refl
  where
    go : (t : Turn) → t ≡ turn d → i ≡ j
    go Place f = distinct_squares (placements d) (words (tree attacker aim d)) i j (listed_rising d) (words_place attacker aim d f) h k e
    go Pass f = omega (arith, ap length (words_turn attacker aim d Pass f))
    go Ended f = omega (arith, ap length (words_turn attacker aim d Ended f))

-- ---- equal codes

same_side : (m k : Side) → side_number m ≡ side_number k → m ≡ k
same_side X X e = refl
same_side X O e = absurd (omega arith)
same_side O X e = absurd (omega arith)
same_side O O e = refl

pub codes_pin_lem : CodesPin
codes_pin_lem a b m n d e c =
    let side : a ≡ b = same_side a b (cc) in
    let aims : m ≡ n = cc in
    let xs : d.x ≡ e.x = cc in
    let os : d.o ≡ e.o = cc in
    let movers : d.mover ≡ e.mover = same_side d.mover e.mover (cc) in
    (side, aims, λ i. record { x = xs i; o = os i; mover = movers i })

same_code : (a b : Side) (m n : ℕ) (d e : Diagram) → code_of a m d ≡ code_of b n e → tree a m d ≡ tree b n e
same_code a b m n d e c =
    let p = codes_pin_lem a b m n d e c in
    ap (λ (s : Side). tree s m d) p.0 ∙ ap (λ (k : ℕ). tree b k d) p.1 ∙ ap (tree b n) p.2

alike : (t u : Tree) → IsEnding t → IsEnding u → code t ≡ code u → Alike t u
alike t u p q e =
    let c : code_of p.attacker p.aim p.diagram ≡ code_of q.attacker q.aim q.diagram =
    sym (ap code p.is ∙ code_is p.attacker p.aim p.diagram) ∙ e ∙ ap code q.is ∙ code_is q.attacker q.aim q.diagram in
    subst (Alike t) (p.is ∙ same_code p.attacker q.attacker p.aim q.aim p.diagram q.diagram c ∙ sym q.is) (alike_self t)

-- ---- a fresh game, and a game set up

pub full_keeps : Keeps full
unfolding empties size bit
full_keeps = record { apart = refl; board = (omega arith, omega arith); few = omega arith }

-- a reading that gives a position gives a sound diagram's, with the mover as the attacker
pub record Given (t : List ℕ) (aim : ℕ) (u : Tree) : Type 0 where
  pub diagram : Diagram
  pub within : aim ≤ aim_limit
  pub keeps : Keeps diagram
  pub is : u ≡ tree diagram.mover aim diagram

refusing : {T : Type 0} (c n : ℕ) (u : Tree) → refused c n ≡ position u → T
refusing c n u e = absurd (cc)

pub given_by : (t : List ℕ) (aim : ℕ) (u : Tree) → reading t aim ≡ position u → Given t aim u
given_by t aim u = aimed (nat_lt aim_limit aim) refl
  where
    taken : (d : Diagram) → nat_lt aim_limit aim ≡ false → said form t ≡ Ok d → (b : Bool) → nat_lt empties_limit (empties d) ≡ b
        → cond b (refused 10 0) (position (tree d.mover aim d)) ≡ position u → Given t aim u
    taken d a s true f e = refusing 10 0 u e
    taken d a s false f e =
        let w = stands t d (says_reading form t d s) in
        record {
          diagram = d;
          within = ltb-false aim_limit aim a;
          keeps = record { apart = w.sound.apart; board = (w.sound.x_fits, w.sound.o_fits); few = ltb-false empties_limit (empties d) f };
          is = (let k : u ≡ tree d.mover aim d = cc in k);
        }

    read : (r : Result Diagram ℕ) → nat_lt aim_limit aim ≡ false → said form t ≡ r → reading_of r aim ≡ position u → Given t aim u
    read (Ok d) a s e = taken d a s (nat_lt empties_limit (empties d)) refl e
    read (Err n) a s e = refusing 8 n u e

    aimed : (b : Bool) → nat_lt aim_limit aim ≡ b → cond b (refused 7 0) (reading_of (said form t) aim) ≡ position u → Given t aim u
    aimed true a e = refusing 7 0 u e
    aimed false a e = read (said form t) a refl e

refusal : (t : List ℕ) (aim n k : ℕ) → reading t aim ≡ refused n k → Refusal t n k
refusal t aim n k = aimed (nat_lt aim_limit aim)
  where
    begins : (d : Decline) → refused (number d) 0 ≡ refused n k → Refusal t n k
    begins d e = let z : 0 ≡ k = cc in record { caused = (d, cc); placed = omega arith; at_start = λ _. sym z }

    taken : (b : Bool) (u : Tree) → cond b (refused 10 0) (position u) ≡ refused n k → Refusal t n k
    taken true u e = begins Empties e
    taken false u e = absurd (cc)

    read : (r : Result Diagram ℕ) → said form t ≡ r → reading_of r aim ≡ refused n k → Refusal t n k
    read (Ok d) s e = taken (nat_lt empties_limit (empties d)) (tree d.mover aim d) e
    read (Err m) s e =
        let place : m ≡ k = cc in
        let formed : 8 ≡ n = cc in
        let h = place_within form t m s in
        record { caused = (Form, formed); placed = omega arith; at_start = λ f. absurd (f (sym formed)) }

    aimed : (b : Bool) → cond b (refused 7 0) (reading_of (said form t) aim) ≡ refused n k → Refusal t n k
    aimed true e = begins Aim e
    aimed false e = read (said form t) refl e

pub lawful : Rules start IsEnding rank_limit empties_limit reading
lawful = record {
  begun = ending X 0 full (omega arith) full_keeps;
  reads = λ x aim t e. (let g = given_by x aim t e in
      subst IsEnding (sym g.is) (ending g.diagram.mover aim g.diagram g.within g.keeps));
  attacks = λ x aim t e h. (let g = given_by x aim t e in
      attacks_at g.diagram.mover aim g.diagram refl (sym (ap state g.is) ∙ h));
  closed = by_tree _ closed_at;
  refuses = refusal;
  over = by_tree _ (λ a n d h k. over_at a n d);
  alive = by_tree _ (λ a n d h k. alive_at a n d);
  narrow = by_tree _ (λ a n d h k. narrow_at a n d k);
  shallow = by_tree _ (λ a n d h k. shallow_at a n d k);
  ranked = by_tree _ (λ a n d h k. ranked_at a n d);
  falls = by_tree _ (λ a n d h k. falls_at a n d);
  low = omega arith;
  small = omega arith;
  five = by_tree _ (λ a n d h k. five_at a n d);
  distinct = by_tree _ (λ a n d h k. distinct_at a n d);
  coded = by_tree _ coded_at;
  codes = alike;
}
