-- The turns of the plain search, as facts of its model.
use Rattle.std.proofs.Common.{◌≡◌, ℕ, zero, suc, ◌+◌, ◌<◌, ◌≤◌, Bool, true, false, cond, not, List, [], ◌∷◌, length, get_or, sym, refl, ap, ◌∙◌, arith}
use Rattle.game.specs.Tree.{Tree, Moves, node, none, move, state, rank, moves, successors, next, nowhere, minimax, some_won, all_won}
use Rattle.game.specs.declared.state.State.{State}
use Rattle.game.specs.declared.state.State.TheVariants.{Won, NotWon, Attacker, Defender}
use Rattle.table.specs.declared.side.Side.{Side}
use Rattle.table.specs.declared.side.Side.TheVariants.{Attacker as Attacks, Defender as Defends}
use Rattle.table.specs.Pairs.{other}
use Rattle.search.specs.declared.entry.Entry.{Entry}
use Rattle.search.specs.declared.entry.Turn.{Turn}
use Rattle.search.specs.declared.entry.Turn.TheVariants.{Look, Try, Back}
use Rattle.search_laws.specs.Trial.{need, until_won, until_not_won}
use Rattle.search.specs.Backs.{back}
use Rattle.search.specs.Search.{wins, skipped, Opened, opened, open_at, below, value, cost, alike, decides, Result, result, final, size, sizes, rest, work, Leads, Holds, Goes}

-- the positions by their states

pub won_facts : (t : Tree) → state t ≡ Won → (minimax t ≡ true) × (need t ≡ 0)
unfolding minimax need
won_facts (node Won r c m) e = (refl, refl)
won_facts (node NotWon r c m) e = absurd (cc)
won_facts (node Attacker r c m) e = absurd (cc)
won_facts (node Defender r c m) e = absurd (cc)

pub not_won_facts : (t : Tree) → state t ≡ NotWon → (minimax t ≡ false) × (need t ≡ 0)
unfolding minimax need
not_won_facts (node NotWon r c m) e = (refl, refl)
not_won_facts (node Won r c m) e = absurd (cc)
not_won_facts (node Attacker r c m) e = absurd (cc)
not_won_facts (node Defender r c m) e = absurd (cc)

abbrev pub side : Bool → State
side true = Attacker
side false = Defender

pub open_facts : (t : Tree) (a : Bool) → state t ≡ side a → (minimax t ≡ value (opened a (moves t))) × (need t ≡ 1 + cost (opened a (moves t)))
unfolding minimax need
open_facts (node Attacker r c m) true e = (refl, omega arith)
open_facts (node Defender r c m) false e = (refl, omega arith)
open_facts (node Attacker r c m) false e = absurd (cc)
open_facts (node Defender r c m) true e = absurd (cc)
open_facts (node Won r c m) true e = absurd (cc)
open_facts (node NotWon r c m) true e = absurd (cc)
open_facts (node Won r c m) false e = absurd (cc)
open_facts (node NotWon r c m) false e = absurd (cc)

pub size_is : (t : Tree) → size t ≡ 3 + sizes (moves t)
unfolding size
size_is (node s r c m) = refl

-- looking

pub look-ended : (es : List Entry) (t : Tree) (ts : List Tree) (n : ℕ) (v : Side)
    → minimax t ≡ wins v → need t ≡ 0 → Goes Look es t ts n (Back v) es t ts n
unfolding Goes Holds work
look-ended es t ts n v ev en t₀ ts₀ h =
    let z = size_is t in
    let e : n + need t ≡ n = omega arith in
    ((h.1, sym (ap (λ b. final (below es ts) b (n + need t)) ev ∙ ap (final (below es ts) (wins v)) e) ∙ h.2), omega arith)

pub look_open : (es : List Entry) (t : Tree) (ts : List Tree) (n k : ℕ) (s : Side)
    → state t ≡ side (wins s) → k ≡ length (next t)
    → Goes Look es t ts n (Try (record { next = 0; count = k; side = s })) es t ts (n + 1)
unfolding Goes Holds work
look_open es t ts n k s ea ek t₀ ts₀ h =
    let a = wins s in
    let f = open_facts t a ea in
    let z = size_is t in
    let e : n + need t ≡ (n + 1) + cost (opened a (moves t)) = omega arith in (
      (h.0, ek, h.1, sym (ap (λ b. final (below es ts) b (n + need t)) f.0 ∙ ap (final (below es ts) (value (opened a (moves t)))) e) ∙ h.2),
      omega arith,
    )

-- the share

counted : Result → ℕ
counted (result v n) = n

more_if : (b : Bool) (x y : Result) (k : ℕ) → k ≤ counted x → k ≤ counted y → k ≤ counted (cond b x y)
more_if true x y k hx hy = hx
more_if false x y k hx hy = hy

final-more : (fs : List Opened) (v : Bool) (n k : ℕ) → k ≤ n → k ≤ counted (final fs v n)
unfolding final counted
final-more [] v n k h = h
final-more (f ∷ fs) v n k h =
    more_if (decides f v) (final fs v n) (final fs (value f) (n + cost f)) k
    (final-more fs v n k h) (final-more fs (value f) (n + cost f) k (omega arith))

pub look-spent : (es : List Entry) (t : Tree) (ts : List Tree) (n : ℕ) (a : Bool) (share : ℕ)
    → state t ≡ side a → share ≤ n → (t₀ : Tree) (ts₀ : List Tree) → Holds Look es t ts n t₀ ts₀ → share < need t₀
unfolding Holds counted
look-spent es t ts n a share ea full t₀ ts₀ h =
    let f = open_facts t a ea in
    let k : share + 1 ≤ counted (final (below es ts) (minimax t) (n + need t)) =
    final-more (below es ts) (minimax t) (n + need t) (share + 1) (omega arith) in
    let e : counted (final (below es ts) (minimax t) (n + need t)) ≡ need t₀ = ap counted h.2 in
    omega arith

-- the moves

skipped_end : (m : Moves) (i : ℕ) → length (successors m) ≤ i → skipped i m ≡ none
skipped_end none zero h = refl
skipped_end none (suc i) h = refl
skipped_end (move x t m) zero h = absurd (omega arith)
skipped_end (move x t m) (suc i) h = skipped_end m i (omega arith)

skipped_at : (m : Moves) (i : ℕ) → i < length (successors m)
    → (x : List ℕ) × (skipped i m ≡ move x (get_or (successors m) i nowhere) (skipped (suc i) m))
skipped_at none i h = absurd (omega arith)
skipped_at (move x t m) zero h = (x, refl)
skipped_at (move x t m) (suc i) h = skipped_at m i (omega arith)

done-value : (a : Bool) → value (opened a none) ≡ not a
unfolding some_won all_won
done-value true = refl
done-value false = refl

done-cost : (a : Bool) → cost (opened a none) ≡ 0
unfolding until_won until_not_won
done-cost true = refl
done-cost false = refl

sizes-none : sizes none ≡ 0
unfolding sizes
sizes-none = refl

sizes-move : (x : List ℕ) (t : Tree) (m : Moves) → sizes (move x t m) ≡ 1 + size t + sizes m
unfolding sizes
sizes-move x t m = refl

not_wins : (s : Side) → not (wins s) ≡ wins (other s)
not_wins Attacks = refl
not_wins Defends = refl

pub try_none : (e : Entry) (es : List Entry) (t : Tree) (ts : List Tree) (n : ℕ) (v : Side)
    → e.count ≤ e.next → v ≡ other e.side → Goes (Try e) es t ts n (Back v) es t ts n
unfolding Goes Holds work
try_none e es t ts n v d o t₀ ts₀ h =
    let s = skipped_end (moves t) e.next (omega (arith, h.1)) in
    let b = ap (λ m. value (opened (wins e.side) m)) s ∙ done-value (wins e.side) ∙ not_wins e.side ∙ ap wins (sym o) in
    let k = ap (λ m. cost (opened (wins e.side) m)) s ∙ done-cost (wins e.side) in
    let w = ap sizes s ∙ sizes-none in
    let p : n + cost (open_at e t) ≡ n = omega arith in
    ((h.2, sym (ap (λ w. final (below es ts) w (n + cost (open_at e t))) b ∙ ap (final (below es ts) (wins v)) p) ∙ h.3), omega arith)

-- the next move splits what is left
split : (a : Bool) (fs : List Opened) (x : List ℕ) (u : Tree) (m : Moves) (n : ℕ) (b : Bool) → minimax u ≡ b
    → final fs (value (opened a (move x u m))) (n + cost (opened a (move x u m))) ≡ final (opened a m ∷ fs) (minimax u) (n + need u)
unfolding final some_won all_won until_won until_not_won
split true fs x u m n true e = rw e (ap (final fs true) (omega arith))
split true fs x u m n false e = rw e (ap (final fs (some_won m)) (omega arith))
split false fs x u m n true e = rw e (ap (final fs (all_won m)) (omega arith))
split false fs x u m n false e = rw e (ap (final fs false) (omega arith))

module _ (e : Entry) (es : List Entry) (t : Tree) (ts : List Tree) (n : ℕ) (more : e.next < e.count)
    (falls : (i : ℕ) → i < length (next t) → rank (get_or (next t) i nowhere) < rank t) where
  abbrev waiting : Entry
  waiting = record { next = e.next + 1; count = e.count; side = e.side }

  try_move_lem : Goes (Try e) es t ts n Look (waiting ∷ es) (get_or (next t) e.next nowhere) (t ∷ ts) n
  unfolding Goes Holds work below rest Leads
  try_move_lem t₀ ts₀ h =
      let d : e.next < length (next t) = omega (arith, h.1) in
      let r = falls e.next d in
      let u = get_or (next t) e.next nowhere in
      let x = (skipped_at (moves t) e.next d).0 in
      let one : suc e.next ≡ e.next + 1 = omega arith in
      let m = skipped (e.next + 1) (moves t) in
      let s = (skipped_at (moves t) e.next d).1 ∙ ap (λ k. move x u (skipped k (moves t))) one in
      let w = ap sizes s ∙ sizes-move x u m in
      let a = wins e.side in
      let p = ap (λ m'. final (below es ts) (value (opened a m')) (n + cost (opened a m'))) s ∙ split a (below es ts) x u m n (minimax u) refl in
      ((omega arith, (h.0, h.1, h.2), sym p ∙ h.3), omega arith)

  pub try_taken : (es' : List Entry) (t' : Tree) (ts' : List Tree) → es' ≡ waiting ∷ es → t' ≡ get_or (next t) e.next nowhere → ts' ≡ t ∷ ts
      → Goes (Try e) es t ts n Look es' t' ts' n
  try_taken es' t' ts' a b c = rw (a, b, c) try_move_lem

-- coming back

module _ (e : Entry) (es : List Entry) (t t' : Tree) (ts ts' : List Tree) (n : ℕ) (v : Side) where
  back_decides : alike (wins e.side) (wins v) ≡ true → Goes (Back v) (e ∷ es) t (t' ∷ ts') n (Back v) es t' ts' n
  unfolding Goes Holds work below rest Leads final
  back_decides d t₀ ts₀ h = ((h.0.2, rw d at h.1), omega arith)

  back_on : alike (wins e.side) (wins v) ≡ false → Goes (Back v) (e ∷ es) t (t' ∷ ts') n (Try e) es t' ts' n
  unfolding Goes Holds work below rest Leads final
  back_on d t₀ ts₀ h = ((h.0.0, h.0.1, h.0.2, rw d at h.1), omega arith)

  pub came_decided : ts ≡ t' ∷ ts' → alike (wins e.side) (wins v) ≡ true → Goes (Back v) (e ∷ es) t ts n (Back v) es t' ts' n
  came_decided h d = rw h (back_decides d)

  pub came_on : ts ≡ t' ∷ ts' → alike (wins e.side) (wins v) ≡ false → Goes (Back v) (e ∷ es) t ts n (Try e) es t' ts' n
  came_on h d = rw h (back_on d)

pub wins_by : (s : Side) (b : Bool) → (b ≡ true → s ≡ Attacks) → (b ≡ false → s ≡ Attacks → ⊥) → b ≡ wins s
wins_by Attacks true f g = refl
wins_by Attacks false f g = absurd (g refl refl)
wins_by Defends true f g = let e = f refl in absurd (cc)
wins_by Defends false f g = refl

pub alike_same : (v s : Side) → v ≡ s → alike (wins s) (wins v) ≡ true
alike_same Attacks Attacks e = refl
alike_same Defends Defends e = refl
alike_same Attacks Defends e = absurd (cc)
alike_same Defends Attacks e = absurd (cc)

pub alike_other : (v s : Side) → (v ≡ s → ⊥) → alike (wins s) (wins v) ≡ false
alike_other Attacks Attacks n = absurd (n refl)
alike_other Defends Defends n = absurd (n refl)
alike_other Attacks Defends n = refl
alike_other Defends Attacks n = refl

-- the loops

pub leads-back : (es : List Entry) (t : Tree) (ts : List Tree) (t₀ : Tree) (ts₀ : List Tree)
    → Leads es t ts t₀ ts₀ → back (length es) t ts ≡ (t₀, ts₀)
unfolding Leads back
leads-back [] t ts t₀ ts₀ l = λ i. (l.0 i, l.1 i)
leads-back (e ∷ es) t [] t₀ ts₀ l = absurd l
leads-back (e ∷ es) t (u ∷ ts) t₀ ts₀ l = leads-back es u ts t₀ ts₀ l.2

pub leads_long : (es : List Entry) (t : Tree) (ts : List Tree) (t₀ : Tree) (ts₀ : List Tree) → Leads es t ts t₀ ts₀ → length es ≤ length ts
unfolding Leads
leads_long [] t ts t₀ ts₀ l = omega arith
leads_long (e ∷ es) t [] t₀ ts₀ l = absurd l
leads_long (e ∷ es) t (u ∷ ts) t₀ ts₀ l = let k = leads_long es u ts t₀ ts₀ l.2 in omega arith

-- what the turns ask

pub try_asks : (s : Turn) (e : Entry) (es : List Entry) (t : Tree) (ts : List Tree) (n : ℕ) (t₀ : Tree) (ts₀ : List Tree)
    → s ≡ Try e → Holds s es t ts n t₀ ts₀ → (e.count ≡ length (next t)) × (rank t + length es ≤ 32)
unfolding Holds
try_asks s e es t ts n t₀ ts₀ p h = let k : Holds (Try e) es t ts n t₀ ts₀ = rw p at h in (k.1, k.0)

pub back_asks : (s : Turn) (v : Side) (e : Entry) (es below : List Entry) (t : Tree) (ts : List Tree) (n : ℕ) (t₀ : Tree) (ts₀ : List Tree)
    → s ≡ Back v → es ≡ e ∷ below → Holds s es t ts n t₀ ts₀ → 0 < length ts
unfolding Holds
back_asks s v e es below t ts n t₀ ts₀ p q h =
    let k : Holds (Back v) (e ∷ below) t ts n t₀ ts₀ = rw (p, q) at h in
    let l = leads_long (e ∷ below) t ts t₀ ts₀ k.0 in
    omega arith

pub search_started : (es : List Entry) (t : Tree) (ts : List Tree) (d : ℕ) → es ≡ [] → rank t ≤ d → d ≤ 32 → Holds Look es t ts 0 t ts
unfolding Holds Leads below final
search_started es t ts d p low deep = rw p (omega arith, (refl, refl), ap (result (minimax t)) (omega arith))

-- a turn, from where the loop stands
pub turned : (s s₁ s' : Turn) (es es₁ es' : List Entry) (t t' : Tree) (ts ts' : List Tree) (n n' : ℕ) (t₀ : Tree) (ts₀ : List Tree)
    → s ≡ s₁ → es ≡ es₁ → Holds s es t ts n t₀ ts₀ → Goes s₁ es₁ t ts n s' es' t' ts' n'
    → Holds s' es' t' ts' n' t₀ ts₀ × (work s' es' t' ts' < work s es t ts)
unfolding Goes
turned s s₁ s' es es₁ es' t t' ts ts' n n' t₀ ts₀ p q h go = rw (p, q) (go t₀ ts₀ (rw (p, q) at h))

pub at-look : (s : Turn) (es : List Entry) (t : Tree) (ts : List Tree) (n : ℕ) (t₀ : Tree) (ts₀ : List Tree)
    → s ≡ Look → Holds s es t ts n t₀ ts₀ → Holds Look es t ts n t₀ ts₀ × Leads es t ts t₀ ts₀
unfolding Holds
at-look s es t ts n t₀ ts₀ p h = let k : Holds Look es t ts n t₀ ts₀ = rw p at h in (k, k.1)

pub search_ended : (s : Turn) (es : List Entry) (t : Tree) (ts : List Tree) (n : ℕ) (v : Side) (t₀ : Tree) (ts₀ : List Tree)
    → s ≡ Back v → es ≡ [] → Holds s es t ts n t₀ ts₀ → (t ≡ t₀) × (ts ≡ ts₀) × (wins v ≡ minimax t₀) × (n ≡ need t₀)
unfolding Holds Leads below final
search_ended s es t ts n v t₀ ts₀ p q h =
    let k : Holds (Back v) [] t ts n t₀ ts₀ = rw (p, q) at h in
    let e = k.1 in (k.0.0, k.0.1, (cc), (cc))
