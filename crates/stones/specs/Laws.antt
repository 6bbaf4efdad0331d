-- The laws of a game, for piles of stones.
use Rattle.std.specs.Prelude.{◌≡◌, ℕ, zero, suc, ◌-◌, ◌^◌, ◌<◌, ◌≤◌, Bool, true, false, cond, not, ◌&&◌, List, [], ◌∷◌, length, ◌==◌, ◌≢◌, nat_le, slice_index_or, refl}
use Rattle.std.proofs.Common.{arith, sym, ap, subst, ◌∙◌, lit<}
use Rattle.std.specs.List.{AllByRecursion}
use Rattle.std.proofs.lemmas.Bool.{leb-true, and_parts}
use Rattle.game.specs.Tree.{Tree, position, refused, state, rank, code, next, words, ended}
use Rattle.game.specs.Rules.{Rules, Alike, Refusal}
use Rattle.game.specs.declared.decline.Decline.TheVariants.{Aim, Form}
use Rattle.game.specs.declared.state.State.TheVariants.{Defender}
use Rattle.stones.specs.Piles.{tree, flag, code_of, IsPile, reading, pile_of}

-- what a tree shows

rank_is : (n : ℕ) (b : Bool) → rank (tree n b) ≡ n
rank_is zero b = refl
rank_is (suc zero) b = refl
rank_is (suc (suc n)) b = refl

code_is : (n : ℕ) (b : Bool) → code (tree n b) ≡ code_of n b
code_is zero b = refl
code_is (suc zero) b = refl
code_is (suc (suc n)) b = refl

-- what holds of each pile holds of each position
at : (P : Tree → Type 0) → ((n : ℕ) (b : Bool) → n ≤ 4 → P (tree n b)) → (t : Tree) → IsPile t → P t
at P f t p = subst P (sym p.is) (f p.left p.attackers p.few)

pile : (n : ℕ) (b : Bool) → n ≤ 4 → IsPile (tree n b)
pile n b h = record { left = n; attackers = b; few = h; is = refl }

closed : (n : ℕ) (b : Bool) → n ≤ 4 → AllByRecursion IsPile (next (tree n b))
closed zero b h = tt
closed (suc zero) b h = (pile 0 (not b) (omega arith), tt)
closed (suc (suc n)) b h = (pile (suc n) (not b) (omega arith), (pile n (not b) (omega arith), tt))

falls : (n : ℕ) (b : Bool) → n ≤ 4 → AllByRecursion (λ u. rank u < rank (tree n b)) (next (tree n b))
falls zero b h = tt
falls (suc zero) b h = (lit< tt, tt)
falls (suc (suc n)) b h =
    let e = rank_is (suc n) (not b) in
    let d = rank_is n (not b) in
    (omega arith, (omega arith, tt))

over : (n : ℕ) (b : Bool) → n ≤ 4 → ended (state (tree n b)) ≡ true → length (next (tree n b)) ≡ 0
over zero b h e = refl
over (suc zero) true h e = absurd (cc)
over (suc zero) false h e = absurd (cc)
over (suc (suc n)) true h e = absurd (cc)
over (suc (suc n)) false h e = absurd (cc)

alive : (n : ℕ) (b : Bool) → n ≤ 4 → ended (state (tree n b)) ≡ false → (0 < length (next (tree n b))) × (0 < rank (tree n b))
alive zero true h e = absurd (cc)
alive zero false h e = absurd (cc)
alive (suc zero) b h e = (lit< tt, lit< tt)
alive (suc (suc n)) b h e = (lit< tt, omega arith)

narrow : (n : ℕ) (b : Bool) → n ≤ 4 → length (next (tree n b)) ≤ 2
narrow zero b h = omega arith
narrow (suc zero) b h = omega arith
narrow (suc (suc n)) b h = omega arith

five : (n : ℕ) (b : Bool) → n ≤ 4 → AllByRecursion (λ x. length x ≡ 5) (words (tree n b))
five zero b h = tt
five (suc zero) b h = (refl, tt)
five (suc (suc n)) b h = (refl, (refl, tt))

distinct : (n : ℕ) (b : Bool) → n ≤ 4 → (i j : ℕ) → i < length (words (tree n b)) → j < length (words (tree n b)) → slice_index_or (words (tree n b)) i [] ≡ slice_index_or (words (tree n b)) j [] → i ≡ j
distinct zero b h i j x y e = absurd (omega arith)
distinct (suc zero) b h i j x y e = omega arith
distinct (suc (suc n)) b h zero zero x y e = refl
distinct (suc (suc n)) b h zero (suc zero) x y e = let z : ◌≡◌ {A = ℕ} 49 50 = cc in absurd (omega arith)
distinct (suc (suc n)) b h zero (suc (suc j)) x y e = absurd (omega arith)
distinct (suc (suc n)) b h (suc zero) zero x y e = let z : ◌≡◌ {A = ℕ} 49 50 = cc in absurd (omega arith)
distinct (suc (suc n)) b h (suc zero) (suc zero) x y e = refl
distinct (suc (suc n)) b h (suc zero) (suc (suc j)) x y e = absurd (omega arith)
distinct (suc (suc n)) b h (suc (suc i)) j x y e = absurd (omega arith)

bit_small : (b : Bool) → flag b < 2 ^ 64
bit_small true = lit< tt
bit_small false = lit< tt

coded : (n : ℕ) (b : Bool) → n ≤ 4 → (length (code (tree n b)) ≡ 5) × AllByRecursion (λ w. w < 2 ^ 64) (code (tree n b))
coded n b h =
    subst (λ c. (length c ≡ 5) × AllByRecursion (λ w. w < 2 ^ 64) c) (sym (code_is n b))
    (refl, (omega arith, (bit_small b, (lit< tt, (lit< tt, (lit< tt, tt))))))

-- equal codes

same_bit : (b c : Bool) → flag b ≡ flag c → b ≡ c
same_bit true true e = refl
same_bit true false e = absurd (omega arith)
same_bit false true e = absurd (omega arith)
same_bit false false e = refl

alike : (t : Tree) → Alike t t
alike t = record { states = refl; ranks = refl; counts = refl; texts = refl; codes = λ i h. refl }

codes : (t u : Tree) → IsPile t → IsPile u → code t ≡ code u → Alike t u
codes t u p q e = subst (λ v. Alike t v) same (alike t)
  where
    both : code_of p.left p.attackers ≡ code_of q.left q.attackers
    both = sym (code_is p.left p.attackers) ∙ ap code (sym p.is) ∙ e ∙ ap code q.is ∙ code_is q.left q.attackers

    same : t ≡ u
    same =
        let a : p.left ≡ q.left = cc both in
        let bits : flag p.attackers ≡ flag q.attackers = cc both in
        let b : p.attackers ≡ q.attackers = same_bit p.attackers q.attackers bits in
        p.is ∙ ap (λ (n : ℕ). tree n p.attackers) a ∙ ap (tree q.left) b ∙ sym q.is

-- what is read

abbrev First : Tree → Type 0
First t = (n : ℕ) × (n ≤ 4) × (t ≡ tree n true)

digit : (b : Bool) (d : ℕ) (t : Tree) → (b ≡ true → d ≤ 52) → cond b (position (tree (d - 48) true)) (refused 8 0) ≡ position t → First t
digit true d t h e = let k = h refl in (d - 48, omega arith, cc)
digit false d t h e = absurd (cc)

neither : (b : Bool) (t : Tree) → cond b (refused 8 1) (refused 8 0) ≡ position t → First t
neither true t e = absurd (cc)
neither false t e = absurd (cc)

piled : (x : List ℕ) (t : Tree) → pile_of x ≡ position t → First t
piled [] t e = absurd (cc)
piled (d ∷ []) t e = digit (nat_le 48 d && nat_le d 52) d t (λ k. leb-true d 52 (and_parts (nat_le 48 d) (nat_le d 52) k).1) e
piled (d ∷ c ∷ x) t e = neither (nat_le 48 d && nat_le d 52) t e

read : (x : List ℕ) (b : Bool) (t : Tree) → cond b (pile_of x) (refused 7 0) ≡ position t → First t
read x true t e = piled x t e
read x false t e = absurd (cc)

first_attacks : (n : ℕ) → state (tree n true) ≢ Defender
first_attacks zero e = cc
first_attacks (suc zero) e = cc
first_attacks (suc (suc n)) e = cc

-- what is refused

misread : (x : List ℕ) (n k : ℕ) → pile_of x ≡ refused n k → (8 ≡ n) × (k ≤ length x)
misread [] n k e = let z : 0 ≡ k = cc in (cc, omega arith)
misread (d ∷ []) n k e = by (nat_le 48 d && nat_le d 52) e
  where
    by : (b : Bool) → cond b (position (tree (d - 48) true)) (refused 8 0) ≡ refused n k → (8 ≡ n) × (k ≤ 1)
    by true q = absurd (cc)
    by false q = let z : 0 ≡ k = cc in (cc, omega arith)
misread (d ∷ c ∷ x) n k e = by (nat_le 48 d && nat_le d 52) e
  where
    by : (b : Bool) → cond b (refused 8 1) (refused 8 0) ≡ refused n k → (8 ≡ n) × (k ≤ length (d ∷ c ∷ x))
    by true q = let z : 1 ≡ k = cc in (cc, omega arith)
    by false q = let z : 0 ≡ k = cc in (cc, omega arith)

refusal : (x : List ℕ) (aim n k : ℕ) → reading x aim ≡ refused n k → Refusal x n k
refusal x aim n k = by (aim == 0)
  where
    by : (b : Bool) → cond b (pile_of x) (refused 7 0) ≡ refused n k → Refusal x n k
    by true e = let m = misread x n k e in record { caused = (Form, m.0); placed = m.1; at_start = λ f. absurd (f (sym m.0)) }
    by false e = let z : 0 ≡ k = cc in record { caused = (Aim, cc); placed = omega arith; at_start = λ _. sym z }

pub rules : Rules (tree 4 true) IsPile 4 2 reading
rules = record {
  begun = pile 4 true (omega arith);
  reads = λ x aim t e. let f = read x (aim == 0) t e in record { left = f.0; attackers = true; few = f.1; is = f.2 };
  attacks = λ x aim t e k. let f = read x (aim == 0) t e in first_attacks f.0 (ap state (sym f.2) ∙ k);
  closed = at (λ t. AllByRecursion IsPile (next t)) closed;
  refuses = refusal;
  over = at (λ t. ended (state t) ≡ true → length (next t) ≡ 0) over;
  alive = λ t p e. (at (λ t. ended (state t) ≡ false → (0 < length (next t)) × (0 < rank t)) alive t p e).0;
  narrow = at (λ t. length (next t) ≤ 2) narrow;
  shallow = at (λ t. rank t ≤ 4) (λ n b h. let e = rank_is n b in omega arith);
  ranked = λ t p e. (at (λ t. ended (state t) ≡ false → (0 < length (next t)) × (0 < rank t)) alive t p e).1;
  falls = at (λ t. AllByRecursion (λ u. rank u < rank t) (next t)) falls;
  low = omega arith;
  small = omega arith;
  five = at (λ t. AllByRecursion (λ x. length x ≡ 5) (words t)) five;
  distinct = at (λ t. (i j : ℕ) → i < length (words t) → j < length (words t) → slice_index_or (words t) i [] ≡ slice_index_or (words t) j [] → i ≡ j) distinct;
  coded = at (λ t. (length (code t) ≡ 5) × AllByRecursion (λ w. w < 2 ^ 64) (code t)) coded;
  codes = codes;
}
