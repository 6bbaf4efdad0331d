-- The position that the lines above reach.
use Rattle.std.proofs.Common.{◌≡◌, ℕ, zero, suc, ◌-◌, ◌<◌, ◌≤◌, Bool, true, false, cond, ◌&&◌, eqb, List, [], ◌∷◌, ◌++◌, take, Some, None, Option, sym, refl, ap, ◌∙◌, subst, append_assoc, append-nil, arith, eq-eqb, eqb-true}
use Rattle.game.specs.Tree.{Tree, moves, minimax}
use Rattle.solution_laws.specs.Lines.{Line, attacks, leads}
use Rattle.solution_laws.specs.Claims.{by_text, or_else, last_at, step, reached, ForAWin, AttacksWin}
use Rattle.solution_laws.proofs.Clash.{clash}

-- all lines have a ply above n
abbrev pub Deep : ℕ → List Line → Type 0
Deep n [] = Unit {0}
Deep n (l ∷ ls) = (n < l.ply) × Deep n ls

pub deep-join : (n : ℕ) (a b : List Line) → Deep n a → Deep n b → Deep n (a ++ b)
deep-join n [] b d e = e
deep-join n (l ∷ a) b d e = (d.0, deep-join n a b d.1 e)

pub deep-less : (n : ℕ) (a : List Line) → Deep (suc n) a → Deep n a
deep-less n [] d = tt
deep-less n (l ∷ a) d = (omega (arith, d.0), deep-less n a d.1)

or-none : {A : Type 0} (o : Option A) → o ≡ or_else o None
or-none (Some a) = refl
or-none None = refl

or-join : {A : Type 0} (a b c : Option A) → or_else (or_else a b) c ≡ or_else a (or_else b c)
or-join (Some a) b c = refl
or-join None b c = refl

last-join : (k : ℕ) (a b : List Line) → last_at k (a ++ b) ≡ or_else (last_at k b) (last_at k a)
last-join k [] b = or-none (last_at k b)
last-join k (l ∷ a) b =
    let c = cond (eqb l.ply k && leads l.sign) (Some l.text) None in
    ap (λ (o : Option (List ℕ)). or_else o c) (last-join k a b) ∙ or-join (last_at k b) (last_at k a) c

not-here : (a b : Bool) (x : List ℕ) → (a ≡ true → ⊥) → cond (a && b) (Some x) None ≡ None
not-here true b x e = elim (e refl) [ ]
not-here false b x e = refl

last-deep : (k n : ℕ) (ls : List Line) → k ≤ n → Deep n ls → last_at k ls ≡ None
last-deep k n [] h d = refl
last-deep k n (l ∷ ls) h d =
    let p = last-deep k n ls h d.1 in
    let q = not-here (eqb l.ply k) (leads l.sign) l.text (λ e. let s = eqb-true l.ply k e in omega (arith, d.0)) in
    ap (λ (o : Option (List ℕ)). or_else o (cond (eqb l.ply k && leads l.sign) (Some l.text) None)) p ∙ q

pub reached-deep : (start : Tree) (above ls : List Line) (n : ℕ) → Deep n ls → reached start (above ++ ls) n ≡ reached start above n
reached-deep start above ls zero d = refl
reached-deep start above ls (suc n) d =
    let p = reached-deep start above ls n (deep-less n ls d) in
    let q = last-join (suc n) above ls in
    let r = last-deep (suc n) (suc n) ls (omega arith) d in
    let s : last_at (suc n) (above ++ ls) ≡ last_at (suc n) above = q ∙ ap (λ (o : Option (List ℕ)). or_else o (last_at (suc n) above)) r in
    cc

-- after a line that leads on, and further ones of its ply that do not, the next ply's position is reached
pub reached-next : (start : Tree) (above : List Line) (l : Line) (ls : List Line) (n : ℕ) (t u : Tree)
    → reached start above n ≡ Some t → by_text l.text (moves t) ≡ Some u → l.ply ≡ suc n → leads l.sign ≡ true
    → Deep n (l ∷ ls) → last_at (suc n) ls ≡ None → reached start (above ++ (l ∷ ls)) (suc n) ≡ Some u
reached-next start above l ls n t u r b p s d e =
    let a = reached-deep start above (l ∷ ls) n d in
    let j = last-join (suc n) above (l ∷ ls) in
    let q = eq-eqb l.ply (suc n) p in
    let k : last_at (suc n) (l ∷ ls) ≡ Some l.text = simp (e, q, s) in
    let m : last_at (suc n) (above ++ (l ∷ ls)) ≡ Some l.text = j ∙ ap (λ (o : Option (List ℕ)). or_else o (last_at (suc n) above)) k in
    let h : reached start (above ++ (l ∷ ls)) n ≡ Some t = a ∙ r in
    (λ i. step (h i) (m i)) ∙ b

-- each attacker's line of a list is for a winning move, where other lines stand above the list
abbrev pub RightFrom : Tree → List Line → List Line → Type 0
RightFrom start above [] = Unit {0}
RightFrom start above (l ∷ ls) = (attacks l.sign ≡ true → ForAWin start above l) × RightFrom start (above ++ (l ∷ [])) ls

pub right-join : (start : Tree) (above a b : List Line) → RightFrom start above a → RightFrom start (above ++ a) b → RightFrom start above (a ++ b)
right-join start above [] b r s = subst (λ (x : List Line). RightFrom start x b) (append-nil above) s
right-join start above (l ∷ a) b r s =
    (r.0, right-join start (above ++ (l ∷ [])) a b r.1 (subst (λ (x : List Line). RightFrom start x b) (sym (append_assoc above (l ∷ []) a)) s))

from_all : (start : Tree) (above ls : List Line) → RightFrom start above ls → (a : List Line) (l : Line) (b : List Line)
    → ls ≡ a ++ (l ∷ b) → attacks l.sign ≡ true → ForAWin start (above ++ a) l
from_all start above [] r [] l b e s = clash (cc)
from_all start above [] r (x ∷ a) l b e s = clash (cc)
from_all start above (y ∷ ls) r [] l b e s =
    let p : y ≡ l = cc in
    subst (λ (z : List Line). ForAWin start z l) (sym (append-nil above)) (subst (λ (z : Line). ForAWin start above z) p (r.0 (ap (λ (z : Line). attacks z.sign) p ∙ s)))
from_all start above (y ∷ ls) r (x ∷ a) l b e s =
    let p : y ≡ x = cc in
    let q : ls ≡ a ++ (l ∷ b) = cc in
    let k = from_all start (above ++ (y ∷ [])) ls r.1 a l b q s in
    subst (λ (z : List Line). ForAWin start z l) (append_assoc above (y ∷ []) a ∙ ap (λ (z : Line). above ++ (z ∷ a)) p) k

pub attacks_win : (start : Tree) (ls : List Line) → RightFrom start [] ls → AttacksWin start ls
attacks_win start ls r above l below e s = from_all start [] ls r above l below e s

-- a line of ply n + 1 for a winning move of the position
abbrev pub Winning : Tree → List ℕ → Type 0
Winning t x = (u : Tree) × (by_text x (moves t) ≡ Some u) × (minimax u ≡ true)

abbrev pub AllWinning : ℕ → Tree → List Line → Type 0
AllWinning n t [] = Unit {0}
AllWinning n t (l ∷ ls) = (l.ply ≡ suc n) × Winning t l.text × AllWinning n t ls

pub winning_deep : (n : ℕ) (t : Tree) (ls : List Line) → AllWinning n t ls → Deep n ls
winning_deep n t [] a = tt
winning_deep n t (l ∷ ls) a = (omega (arith, a.0), winning_deep n t ls a.2)

pub winning_take : (n : ℕ) (t : Tree) (k : ℕ) (ls : List Line) → AllWinning n t ls → AllWinning n t (take k ls)
winning_take n t zero [] a = tt
winning_take n t zero (l ∷ ls) a = tt
winning_take n t (suc k) [] a = tt
winning_take n t (suc k) (l ∷ ls) a = (a.0, a.1, winning_take n t k ls a.2)

pub winning_right : (start : Tree) (above : List Line) (n : ℕ) (t : Tree) (ls : List Line)
    → reached start above n ≡ Some t → AllWinning n t ls → RightFrom start above ls
winning_right start above n t [] r a = tt
winning_right start above n t (l ∷ ls) r a = (
  λ _. (t, a.1.0, subst (λ (k : ℕ). reached start above k ≡ Some t) (let p = a.0 in let q : n ≡ l.ply - 1 = omega arith in q) r, a.1.1, a.1.2),
  winning_right start (above ++ (l ∷ [])) n t ls (reached-deep start above (l ∷ []) n (omega (arith, a.0), tt) ∙ r) a.2,
)
