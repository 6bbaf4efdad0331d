-- A path whose positions fall in rank always has room for one more move.
use Rattle.std.proofs.Common.{◌≡◌, ℕ, [], refl, sym, ap, ◌∙◌, ◌+◌, ◌<◌, ◌≤◌, true, leb, List, ◌∷◌, map, length, Ok, Err, Result, MatchResult, Some, None, Option, MatchOption, IsOk, rules, arith}
use Rattle.std.proofs.lemmas.Bool.{leb-true, le-leb, and_parts, and_from}
use Rattle.std.proofs.lemmas.List.{length-map}
use Rattle.game.specs.declared.path.Path.{Path}
use Rattle.game.specs.Limits.{depth_limit}
use Rattle.game.specs.Paths.{before, roomy, ranks}

pub roomy_free : (q r : ℕ) (rs : List ℕ) → roomy (r ∷ rs) ≡ true → q < r → length rs < depth_limit
roomy_free q r rs e h =
    let k = leb-true (r + length rs) depth_limit (and_parts (leb (r + length rs) depth_limit) (roomy rs) e).0 in
    omega arith

pub free : {P : Type 0} (rank : P → ℕ) (p : Path P) (next : P) → roomy (ranks rank p) ≡ true → rank next < rank p.current → length (before p) < depth_limit
free rank p next e h =
    let k = roomy_free (rank next) (rank p.current) (map rank (before p)) e h in
    omega (arith, simp length-map at k)

-- a path of one position has room where its rank is at most depth_limit
pub begins : {P : Type 0} (rank : P → ℕ) (p : Path P) → rank p.current ≤ depth_limit → before p ≡ [] → roomy (ranks rank p) ≡ true
begins rank p low e =
    ap (λ ps. roomy (map rank (p.current ∷ ps))) e
    ∙ and_from (leb (rank p.current + 0) depth_limit) true (le-leb (rank p.current + 0) depth_limit (omega arith)) refl

-- and one move of less rank leaves it its room
pub goes_on : {P : Type 0} (rank : P → ℕ) (p q : Path P) → roomy (ranks rank p) ≡ true → rank q.current < rank p.current → before q ≡ p.current ∷ before p
    → roomy (ranks rank q) ≡ true
goes_on rank p q e less b =
    let rs = map rank (before p) in
    let h = and_parts (leb (rank p.current + length rs) depth_limit) (roomy rs) e in
    let k = leb-true (rank p.current + length rs) depth_limit h.0 in
    ap (λ ps. roomy (map rank (q.current ∷ ps))) b
    ∙ and_from (leb (rank q.current + length (rank p.current ∷ rs)) depth_limit) (roomy (rank p.current ∷ rs)) (le-leb _ depth_limit (omega arith)) e

-- so the step is taken
pub steps : {P : Type 0} (p q : Path P) (next : P) (r : Result (Unit {0}) P)
    → MatchResult r
    (λ _. (length (before p) < depth_limit) × (q.current ≡ next) × (before q ≡ p.current ∷ before p))
    (λ x. (depth_limit ≤ length (before p)) × (q.current ≡ p.current) × (before q ≡ before p) × (x ≡ next))
    → length (before p) < depth_limit → IsOk r
steps p q next (Ok u) m h = search rules
steps p q next (Err x) m h = absurd (omega (arith, m.0))

-- whether or not it is taken, there is room after it
pub room_after : {P : Type 0} (rank : P → ℕ) (p q : Path P) (next : P) (r : Result (Unit {0}) P)
    → MatchResult r
    (λ _. (length (before p) < depth_limit) × (q.current ≡ next) × (before q ≡ p.current ∷ before p))
    (λ x. (depth_limit ≤ length (before p)) × (q.current ≡ p.current) × (before q ≡ before p) × (x ≡ next))
    → roomy (ranks rank p) ≡ true → rank next < rank p.current → roomy (ranks rank q) ≡ true
room_after rank p q next (Ok u) m e less = goes_on rank p q e (omega (arith, less, ap rank m.1)) m.2
room_after rank p q next (Err x) m e less = (λ i. roomy (map rank (m.1 i ∷ m.2 i))) ∙ e

pub roomy_less : (r : ℕ) (rs : List ℕ) → roomy (r ∷ rs) ≡ true → roomy rs ≡ true
roomy_less r rs e = (and_parts (leb (r + length rs) depth_limit) (roomy rs) e).1

-- and there is room after a way back, where there is one
pub left : {P : Type 0} (rank : P → ℕ) (p q : Path P) (r : Option P)
    → MatchOption r ((before p ≡ []) × (q.current ≡ p.current) × (before q ≡ [])) (λ x. (before p ≡ q.current ∷ before q) × (x ≡ p.current))
    → roomy (ranks rank p) ≡ true → roomy (ranks rank q) ≡ true
left rank p q None m e = ap (λ ps. roomy (map rank (q.current ∷ ps))) (m.2 ∙ sym m.0) ∙ ap (λ x. roomy (map rank (x ∷ before p))) m.1 ∙ e
left rank p q (Some x) m e = ap (λ ps. roomy (map rank ps)) (sym m.0) ∙ roomy_less (rank p.current) (map rank (before p)) e
