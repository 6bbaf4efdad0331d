-- Trials of all moves, one after another.
use Rattle.std.proofs.Common.{◌≡◌, ℕ, zero, suc, ◌+◌, ◌*◌, ◌<◌, ◌≤◌, Bool, true, false, List, [], ◌∷◌, ◌++◌, length, get_or, Ok, Err, Some, None, Option, sym, refl, ap, ◌∙◌, subst, append_assoc, append-nil, suc-mul, Result, codes, arith}
use Rattle.std.proofs.lemmas.List.{length_push}
use Rattle.std.proofs.ByRecursion.{All-get_or}
use Rattle.game.specs.Rules.{Rules}
use Rattle.game.specs.Tree.{Tree, Moves, none, move, nowhere, successors, texts, Reading, next, rank}
use Rattle.search_laws.specs.Calls.{budget_limit}
use Rattle.search.specs.declared.budget.Budget.{Budget}
use Rattle.search_laws.specs.declared.answer.Answer.{Answer}
use Rattle.table.specs.Storings.{Storing}
use Rattle.search_laws.specs.Trial.{Trial, at_once, by_the_run, by_the_search}
use Rattle.search_laws.specs.Trial as trial
use Rattle.search_laws.specs.Words.{word, value_word}
use Rattle.solution_laws.specs.Solution.{AllTried, no_more, tried, Stops, spent, later, cost, first_win, onward}
use Rattle.solution.specs.declared.stop.Stop.{Stop}
use Rattle.solution.specs.Stops.{stop_word}
use Rattle.solution.specs.Attempts.{Adds, Attempted}
use Rattle.std.specs.Result.{IsErrAnd}
use Rattle.std.specs.List.{position, position_from}
use Rattle.std.proofs.lemmas.Iterator.Adapters.{position_from-zero}

few-moves : (n r depth width : ℕ) → n ≤ width → r ≤ depth → depth * width ≤ 6144 → (0 < n → 0 < r) → n ≤ 6144
few-moves zero r depth width a b c d = omega arith
few-moves (suc n) r zero width a b c d = let h = d (omega arith) in absurd (omega arith)
few-moves (suc n) r (suc depth) width a b c d = let h = suc-mul depth width in omega arith

-- a position has at most 6,144 moves
pub few : {start : Tree} {positions : Tree → Type 0} {depth width : ℕ} {reading : List ℕ → ℕ → Reading} → Rules start positions depth width reading
    → (t : Tree) → positions t → length (next t) ≤ 6144
few {depth = depth} {width = width} rules t p =
    few-moves (length (next t)) (rank t) depth width (rules.narrow t p) (rules.shallow t p) rules.small
    (λ l. let h = All-get_or (λ u. rank u < rank t) (next t) 0 nowhere l (rules.falls t p) in omega arith)

-- a trial costs no more than its budget
pub affordable : {S : Storing} {standing : S.Standing} {t : Tree} {b : ℕ} {a : Answer} {standing' : S.Standing} → Trial S standing t b a standing' → cost a ≤ b
affordable (at_once k v) = omega arith
affordable {b = b} (by_the_run k r d v) = omega arith
affordable {b = b} (by_the_search k r n v) = omega arith
affordable {b = b} (trial.spent k r n v) = omega arith

-- the moves from number i on
unfoldable pub beyond : ℕ → Moves → Moves
beyond zero m = m
beyond (suc i) none = none
beyond (suc i) (move x t m) = beyond i m

pub beyond-next : (i : ℕ) (m : Moves) → i < length (successors m) → beyond i m ≡ move (get_or (texts m) i []) (get_or (successors m) i nowhere) (beyond (suc i) m)
unfolding beyond
beyond-next zero none l = absurd (omega arith)
beyond-next zero (move x t m) l = refl
beyond-next (suc i) none l = absurd (omega arith)
beyond-next (suc i) (move x t m) l = beyond-next i m (omega arith)

pub beyond_end : (i : ℕ) (m : Moves) → length (successors m) ≤ i → beyond i m ≡ none
unfolding beyond
beyond_end zero none l = refl
beyond_end zero (move x t m) l = absurd (omega arith)
beyond_end (suc i) none l = refl
beyond_end (suc i) (move x t m) l = beyond_end i m (omega arith)

-- Before the move of number i: the sum so far, from n to n', and how the other moves' trials go on is how all go on.
pub record Trying (S : Storing) (b : ℕ) (standing : S.Standing) (m : Moves) (n : ℕ) (i : ℕ) (flags : List Bool) (standing' : S.Standing) (n' : ℕ) : Type 0 where
  pub count : length flags ≡ i
  pub so_far : ℕ
  pub sum : n' ≡ n + so_far
  pub bound : so_far ≤ budget_limit * i
  pub all : (ws : List Bool) (k : ℕ) (h : S.Standing) → AllTried S b standing' (beyond i m) ws k h → AllTried S b standing m (flags ++ ws) (so_far + k) h
  pub stop : (k : ℕ) (h : S.Standing) → Stops S b standing' (beyond i m) k h → Stops S b standing m (so_far + k) h

module _ (S : Storing) (b : ℕ) (standing : S.Standing) (m : Moves) (n : ℕ) where
  pub trying_start : (flags : List Bool) → flags ≡ [] → Trying S b standing m n 0 flags standing n
  unfolding beyond
  trying_start flags e = record {
    count = ap length e;
    so_far = 0;
    sum = omega arith;
    bound = omega arith;
    all = λ ws k h a. subst (λ (fs : List Bool). AllTried S b standing m (fs ++ ws) (0 + k) h) (sym e) (subst (λ (x : ℕ). AllTried S b standing m ws x h) (let s : k ≡ 0 + k = omega arith in s) a);
    stop = λ k h a. subst (λ (x : ℕ). Stops S b standing m x h) (let e : k ≡ 0 + k = omega arith in e) a;
  }

  module _ (i : ℕ) (flags : List Bool) (n' : ℕ) (h h' : S.Standing) (a : Answer) (low : i < length (successors m)) (small : b ≤ budget_limit)
      (t : Trying S b standing m n i flags h n') (r : Trial S h (get_or (successors m) i nowhere) b a h') where
    pub trying_next : (w : Bool) (more : List Bool) → more ≡ flags ++ (w ∷ []) → word a.verdict ≡ value_word w → Trying S b standing m n (i + 1) more h' (n' + cost a)
    trying_next w more pushed v =
        let e = beyond-next i m low in
        let p : suc i ≡ i + 1 = omega arith in
        record {
          count = ap length pushed ∙ length_push flags w ∙ ap (λ (j : ℕ). j + 1) t.count;
          so_far = t.so_far + cost a;
          sum = omega (arith, t.sum);
          bound = omega (arith, t.bound, affordable r);
          all = λ ws k z x.
              let x' = subst (λ (j : ℕ). AllTried S b h' (beyond j m) ws k z) (sym p) x in
              let y = t.all (w ∷ ws) (cost a + k) z (subst (λ (q : Moves). AllTried S b h q (w ∷ ws) (cost a + k) z) (sym e) (tried r v x')) in
              let s : t.so_far + (cost a + k) ≡ (t.so_far + cost a) + k = omega arith in
              let u : flags ++ (w ∷ ws) ≡ more ++ ws = sym (append_assoc flags (w ∷ []) ws) ∙ ap (λ (q : List Bool). q ++ ws) (sym pushed) in
              subst (λ (q : List Bool). AllTried S b standing m q ((t.so_far + cost a) + k) z) u (subst (λ (q : ℕ). AllTried S b standing m (flags ++ (w ∷ ws)) q z) s y);
          stop = λ k z x.
              let x' = subst (λ (j : ℕ). Stops S b h' (beyond j m) k z) (sym p) x in
              let y = t.stop (cost a + k) z (subst (λ (q : Moves). Stops S b h q (cost a + k) z) (sym e) (later w r v x')) in
              let s : t.so_far + (cost a + k) ≡ (t.so_far + cost a) + k = omega arith in
              subst (λ (q : ℕ). Stops S b standing m q z) s y;
        }

    pub trying_stop : word a.verdict ≡ codes "spent" → length (successors m) ≤ 6144 → Adds (λ k. Stops S b standing m k h') n (n' + cost a)
    trying_stop v few = record {
      cost = t.so_far + cost a;
      sum = omega (arith, t.sum);
      bound = omega (arith, t.bound, affordable r);
      holds = t.stop (cost a) h' (subst (λ (q : Moves). Stops S b h q (cost a) h') (sym (beyond-next i m low)) (spent r v));
    }

  pub trying_end : (i : ℕ) (flags : List Bool) (n' : ℕ) (h : S.Standing) → length (successors m) ≤ 6144 → i ≡ length (successors m) → Trying S b standing m n i flags h n'
      → Adds (λ k. AllTried S b standing m flags k h) n n'
  trying_end i flags n' h few l t =
      let y = t.all [] 0 h (subst (λ (q : Moves). AllTried S b h q [] 0 h) (sym (beyond_end i m (omega arith))) no_more) in
      let s : t.so_far + 0 ≡ t.so_far = omega arith in
      record {
        cost = t.so_far;
        sum = t.sum;
        bound = omega (arith, t.bound);
        holds = subst (λ (q : List Bool). AllTried S b standing m q t.so_far h) (append-nil flags) (subst (λ (q : ℕ). AllTried S b standing m (flags ++ []) q h) s y);
      }

-- a trial of a move, from a position and with a budget that are the same
pub trial_at : {S : Storing} {standing standing' : S.Standing} {t t' : Tree} {b b' : Budget} {a : Answer} (i : ℕ) → t' ≡ t → b' ≡ b
    → Trial S standing (get_or (next t') i nowhere) b'.amount a standing' → Trial S standing (get_or (next t) i nowhere) b.amount a standing'
trial_at {S = S} {standing = standing} {standing' = standing'} {t = t} {b' = b'} {a = a} i e f r =
    subst (λ (x : Budget). Trial S standing (get_or (next t) i nowhere) x.amount a standing') f
    (subst (λ (x : Tree). Trial S standing (get_or (next x) i nowhere) b'.amount a standing') e r)

-- equal flags say the same trials
pub same_flags : {S : Storing} {b : ℕ} {standing standing' : S.Standing} {m : Moves} {ws vs : List Bool} {n n' : ℕ} → ws ≡ vs
    → Adds (λ k. AllTried S b standing m vs k standing') n n' → Adds (λ k. AllTried S b standing m ws k standing') n n'
same_flags {S = S} {b = b} {standing = standing} {standing' = standing'} {m = m} {n = n} {n' = n'} e a =
    subst (λ (fs : List Bool). Adds (λ k. AllTried S b standing m fs k standing') n n') (sym e) a

pub attempt_spent : {S : Storing} {b : ℕ} {standing standing' : S.Standing} {m : Moves} (ws : List Bool) {n n' : ℕ} (r : Result (Unit {0}) Stop) (stop : Stop) → stop_word stop ≡ codes "spent"
    → IsErrAnd r (λ e. e ≡ stop) → Adds (λ k. Stops S b standing m k standing') n n' → Attempted S b standing m ws n r standing' n'
attempt_spent ws (Ok u) stop s h a = elim h [ ]
attempt_spent ws (Err e) stop s h a = (ap stop_word h ∙ s, a)

map_in : (ℕ → ℕ) → Option ℕ → Option ℕ
map_in f None = None
map_in f (Some i) = Some (f i)

-- the first move that wins is at the first flag that is set
from-first : (ws : List Bool) (n : ℕ) → position_from (λ (w : Bool). w) n ws ≡ map_in (λ (i : ℕ). n + i) (first_win ws)
unfolding map_in
from-first [] n = refl
from-first (true ∷ ws) n = ap Some (let e : n ≡ n + 0 = omega arith in e)
from-first (false ∷ ws) n = from-first ws (n + 1) ∙ shift (first_win ws)
  where
    shift : (o : Option ℕ) → map_in (λ (i : ℕ). (n + 1) + i) o ≡ map_in (λ (i : ℕ). n + i) (onward o)
    shift None = refl
    shift (Some i) = ap Some (let e : (n + 1) + i ≡ n + suc i = omega arith in e)

pub position_first_win : (ws : List Bool) → position (λ (w : Bool). w) ws ≡ first_win ws
unfolding map_in
position_first_win ws = position_from-zero (λ (w : Bool). w) ws ∙ from-first ws 0 ∙ same (first_win ws)
  where
    same : (o : Option ℕ) → map_in (λ (i : ℕ). 0 + i) o ≡ o
    same None = refl
    same (Some i) = ap Some (let e : 0 + i ≡ i = omega arith in e)
