-- Positions with equal codes are the same tree.
use Rattle.std.proofs.Common.{◌≡◌, ℕ, suc, ◌<◌, length, get_or, refl, suc-le-suc, arith}
use Rattle.std.specs.List.{AllByRecursion}
use Rattle.game.specs.Tree.{Tree, node, Moves, none, move, code, next, successors, texts, nowhere}
use Rattle.game.specs.Rules.{Alike}

module _ (positions : Tree → Type 0)
    (closed : (t : Tree) → positions t → AllByRecursion positions (next t))
    (codes : (t u : Tree) → positions t → positions u → code t ≡ code u → Alike t u) where
  mutual
    pub equal_codes : (t u : Tree) → positions t → positions u → code t ≡ code u → t ≡ u
    equal_codes (node s r c m) (node s' r' c' m') p q e =
        let a = codes (node s r c m) (node s' r' c' m') p q e in
        let d = equal_moves m m' a.texts (closed (node s r c m) p) (closed (node s' r' c' m') q) a.codes in
        let x = a.states in
        let y = a.ranks in
        cc

    equal_moves : (m m' : Moves) → texts m ≡ texts m' → AllByRecursion positions (successors m) → AllByRecursion positions (successors m') → ((i : ℕ) → i < length (successors m) → code (get_or (successors m) i nowhere) ≡ code (get_or (successors m') i nowhere)) → m ≡ m'
    equal_moves none none e p q f = refl
    equal_moves none (move x' t' m') e p q f = let z : ◌≡◌ {A = ℕ} 0 1 = cc in absurd (omega arith)
    equal_moves (move x t m) none e p q f = let z : ◌≡◌ {A = ℕ} 0 1 = cc in absurd (omega arith)
    equal_moves (move x t m) (move x' t' m') e p q f =
        let a : x ≡ x' = cc in
        let b : t ≡ t' = equal_codes t t' p.0 q.0 (f 0 (omega arith)) in
        let l : texts m ≡ texts m' = cc in
        let d : m ≡ m' = equal_moves m m' l p.1 q.1 (λ i h. f (suc i) (suc-le-suc h)) in
        cc
