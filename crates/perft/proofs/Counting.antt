-- Lines of play, counted move by move.
use Rattle.std.proofs.Common.{◌≡◌, ℕ, zero, suc, ◌+◌, ◌-◌, ◌<◌, ◌≤◌, List, [], ◌∷◌, length, take, get_or, sum_by, sym, refl, ap, ◌∙◌, subst, arith}
use Rattle.std.specs.List.{ContainsAt as Has}
use Rattle.std.proofs.lemmas.List.{get_or_default, take_all}
use Rattle.std.proofs.lemmas.List.Sums.{sum_by-cons, sum_by_more_le}
use Rattle.chess_moves.specs.declared.diagram.Diagram.{Diagram}
use Rattle.chess_moves.specs.declared.step.Move.{Move}
use Rattle.chess_moves.specs.After.{played}
use Rattle.chess_moves.specs.Legal.{Lists}
use Rattle.chess_moves.specs.Moves.{legal_moves}
use Rattle.chess_rules.specs.Lawful.{Lawful}
use Rattle.chess_rules.proofs.Keeping.{moves-keep}
use Rattle.perft.specs.Lines.{lines}

-- the lines that begin with a move, where n plies are to come
abbrev pub counted : ℕ → Diagram → Move → ℕ
counted n d v = lines (n - 1) (played d v)

module _ (d : Diagram) (law : Lawful d) where
  pub next_lawful : (vs : List Move) → Lists d (legal_moves d) → vs ≡ legal_moves d → (i : ℕ) (v : Move) → i < length vs → v ≡ get_or vs i v → Lawful (played d v)
  next_lawful vs l e i v h is =
      let has : Has vs v = (i, h, λ x. get_or_default vs i x v h ∙ sym is) in
      moves-keep d law v (l.sound v (subst (λ (xs : List Move). Has xs v) e has))

ones : {X : Type 0} (f : X → ℕ) → ((x : X) → f x ≡ 1) → (xs : List X) → sum_by f xs ≡ length xs
ones f h [] = refl
ones f h (x ∷ xs) = omega (arith, sum_by-cons f x xs, h x, ones f h xs)

pub lines_none : (n : ℕ) (d : Diagram) → n ≡ 0 → 1 ≡ lines n d
unfolding lines
lines_none n d e = sym (ap (λ (k : ℕ). lines k d) e)

pub lines_more : (n : ℕ) (d : Diagram) → 0 < n → sum_by (counted n d) (legal_moves d) ≡ lines n d
unfolding lines
lines_more zero d h = absurd (let z : ⊥ = omega arith in z)
lines_more (suc n) d h = let e : suc n - 1 ≡ n = omega arith in ap (λ (k : ℕ). sum_by (λ v. lines k (played d v)) (legal_moves d)) e

pub lines_one : (n : ℕ) (d : Diagram) → n ≡ 1 → length (legal_moves d) ≡ lines n d
lines_one n d e =
    sym (ones (counted n d) (λ v. sym (lines_none (n - 1) (played d v) (omega arith))) (legal_moves d)) ∙ lines_more n d (omega arith)

-- the moves before one and that one have no more lines than all
pub part : (n : ℕ) (d : Diagram) (vs : List Move) → 0 < n → vs ≡ legal_moves d → (i : ℕ) (v : Move) → i < length vs → v ≡ get_or vs i v
    → sum_by (counted n d) (take i vs) + counted n d v ≤ lines n d
part n d vs p e i v h is =
    let less = sum_by_more_le (counted n d) vs i v h in
    let same : counted n d (get_or vs i v) ≡ counted n d v = ap (counted n d) (sym is) in
    let all : sum_by (counted n d) vs ≡ lines n d = ap (sum_by (counted n d)) e ∙ lines_more n d p in
    omega arith

pub all : (n : ℕ) (d : Diagram) (vs : List Move) → 0 < n → vs ≡ legal_moves d → (i : ℕ) → length vs ≤ i → sum_by (counted n d) (take i vs) ≡ lines n d
all n d vs p e i h = ap (sum_by (counted n d)) (take_all i vs h ∙ e) ∙ lines_more n d p
