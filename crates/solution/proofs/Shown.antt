-- The lines of a solution in the buffer, and what its answer means.
use Rattle.std.proofs.Common.{◌≡◌, ℕ, suc, ◌+◌, ◌*◌, ◌/◌, ◌%◌, ◌≤◌, Bool, true, false, cond, not, ◌||◌, eqb, ltb, leb, List, [], ◌∷◌, ◌++◌, length, take, drop, Some, None, Option, Ok, Err, Result, sym, refl, ap, ◌∙◌, subst, ap₂, append_assoc, arith, length-append, length-drop}
use Rattle.std.specs.List.{AllByRecursion}
use Rattle.std.specs.Result.{IsErrAnd}
use Rattle.std.proofs.lemmas.Bool.{le-ltb, ltb-false}
use Rattle.std.proofs.lemmas.List.{drop-drop, take_at, drop_at}
use Rattle.game.specs.Limits.{records_needed}
use Rattle.game.specs.declared.decline.Decline.{Decline}
use Rattle.game.specs.Declines.{number}
use Rattle.search_laws.specs.Calls.{budget_limit}
use Rattle.game.specs.declared.state.State.{State}
use Rattle.game.specs.declared.state.State.TheVariants as states
use Rattle.game.specs.Tree.{Tree, state, next}
use Rattle.table.specs.declared.pair.Pair.{Pair}
use Rattle.search.specs.declared.budget.Budget as budgets
use Rattle.table.specs.Storings.{Storing}
use Rattle.solution_laws.specs.Lines.{Line, bytes, all_bytes, lines_in, written_over, Fits}
use Rattle.solution_laws.specs.Solution.{Solves}
use Rattle.solution_laws.specs.Claims.{SolutionsAreRight, SpentIsMeant, SolutionsFit}
use Rattle.solution_laws.specs.Words.{word}
use Rattle.solution_laws.proofs.Reading.{lines_are_read_lem}
use Rattle.solution_laws.specs.declared.ending.Ending.{Ending}
use Rattle.solution.specs.declared.page.Page.{Page}
use Rattle.solution.specs.declared.stop.Stop.{Stop}
use Rattle.solution.specs.Stops.{end_word}
use Rattle.solution.specs.declared.answer.Solution.{Solution}
use Rattle.solution.specs.Pages.{put, laid, room}
use Rattle.solution.specs.Following.{Followed}
use Rattle.solution.specs.Limits.{buffer_limit}
use Rattle.solution.specs.Calls.{is_attacker, declined, Solved, Answered, Means, Right}

-- lines laid from place n on

laid_from : (ls : List Line) (n : ℕ) (front rest : List ℕ) → AllByRecursion Fits ls → length front ≡ 8 * n → 8 * length ls ≤ length rest
    → laid ls n (front ++ rest) ≡ front ++ (all_bytes ls ++ drop (8 * length ls) rest)
laid_from [] n front rest f e l = refl
laid_from (l ∷ ls) n front rest f e h =
    let bl : length (bytes l) ≡ 8 = omega (arith, f.0.1) in
    let tk : take (8 * n) (front ++ rest) ≡ front = take_at front rest (8 * n) e in
    let dr : drop (8 * n + 8) (front ++ rest) ≡ drop 8 rest = sym (drop-drop 8 (8 * n) (front ++ rest)) ∙ ap (drop 8) (drop_at front rest (8 * n) e) in
    let p : put n l (front ++ rest) ≡ (front ++ bytes l) ++ drop 8 rest = ap₂ (λ (x y : List ℕ). x ++ (bytes l ++ y)) tk dr ∙ sym (append_assoc front (bytes l) (drop 8 rest)) in
    let la = length-append front (bytes l) in
    let ld = length-drop 8 rest in
    let ih = laid_from ls (n + 1) (front ++ bytes l) (drop 8 rest) f.1 (omega arith) (omega arith) in
    let dd : drop (8 * length ls) (drop 8 rest) ≡ drop (8 * suc (length ls)) rest = drop-drop (8 * length ls) 8 rest ∙ ap (λ (x : ℕ). drop x rest) (let q : 8 + 8 * length ls ≡ 8 * suc (length ls) = omega arith in q) in
    ap (laid ls (n + 1)) p ∙ ih ∙ append_assoc front (bytes l) (all_bytes ls ++ drop (8 * length ls) (drop 8 rest))
    ∙ ap (λ (x : List ℕ). front ++ x) (sym (append_assoc (bytes l) (all_bytes ls) (drop (8 * length ls) (drop 8 rest))) ∙ ap (λ (x : List ℕ). (bytes l ++ all_bytes ls) ++ x) dd)

laid-over : (ls : List Line) (buffer : List ℕ) → AllByRecursion Fits ls → length ls ≤ length buffer / 8 → laid ls 0 buffer ≡ written_over ls buffer
laid-over ls buffer f h = laid_from ls 0 [] buffer f refl (omega arith)

pub shown : (positions : Tree → Type 0) (S : Storing) (b i : ℕ) (t : Tree) (standing : S.Standing) (page : Page) (r : Result (Unit {0}) Stop) (standing' : S.Standing) (page' : Page) (n n' : ℕ) (e : Ending)
    → SolutionsFit positions S → positions t → page.lines ≡ 0 → page.keys ≡ 0 → page.duals ≡ 0 → n ≡ 0 → word e ≡ end_word r
    → Followed S b 1 (Some i) t standing page n r standing' page' n'
    → Solved S standing t i b page.buffer.now (record { ending = e; lines = page'.lines; keys = page'.keys; duals = page'.duals; sum = n' }) standing' page'.buffer.now
shown positions S b i t standing page r standing' page' n n' e fit pt zl zk zd zn en f =
    let m : room page ≡ length page.buffer.now / 8 = omega arith in
    let w = f.written in
    record {
      part = f.part;
      solves = subst (λ (x : ℕ). Solves S b 1 (Some i) t standing x f.part standing') m f.solves;
      ending = en ∙ sym f.ending;
      lines = omega (arith, w.lines);
      keys = omega (arith, w.keys);
      duals = omega (arith, w.duals);
      sum = omega (arith, f.sum);
      shown = w.shown ∙ ap (λ (x : ℕ). laid f.part.lines x page.buffer.now) zl ∙ laid-over f.part.lines page.buffer.now (fit standing t b i (room page) f.part standing' pt f.solves) (omega (arith, f.fits));
    }

-- what is checked of a position, the intended move and the buffer, where the budget and the records are taken
pub accepted : (t : Tree) (i n l : ℕ) (budget : budgets.Budget) {b : ℕ} → budget.amount ≡ b → records_needed ≤ n → declined t i b n l ≡ declined t i 0 records_needed l
accepted t i n l budget {b = b} e m =
    let within = subst (λ (x : ℕ). x ≤ budget_limit) e budget.within in
    ap₂ (λ (x y : Bool). cond x (Some 1) (cond y (Some 2) (declined t i 0 records_needed l))) (le-ltb budget_limit b within) (le-ltb n records_needed m)

-- the buffer is then none that is too long
pub short : (t : Tree) (i l : ℕ) → declined t i 0 records_needed l ≡ None → l ≤ buffer_limit
short t i l e = ltb-false buffer_limit l (go (not (eqb (l % 8) 0)) (ltb buffer_limit l) (is_attacker (state t)) (leb (length (next t)) i) e)
  where
    go : (d x m k : Bool) → ◌≡◌ {A = Option ℕ} (cond (d || x) (Some 3) (cond (not m) (Some 4) (cond k (Some 5) None))) None → x ≡ false
    go false false m k e = refl
    go false true m k e = cc
    go true x m k e = cc

-- a solution with a budget of this amount
pub budgeted : {S : Storing} {standing standing' : S.Standing} {t : Tree} {i b b' : ℕ} {buffer buffer' : List ℕ} {a : Solution} → b ≡ b'
    → Solved S standing t i b buffer a standing' buffer' → Solved S standing t i b' buffer a standing' buffer'
budgeted {S = S} {standing = standing} {standing' = standing'} {t = t} {i = i} {buffer = buffer} {buffer' = buffer'} {a = a} e s =
    subst (λ (b : ℕ). Solved S standing t i b buffer a standing' buffer') e s

pub refused : (positions : Tree → Type 0) (S : Storing) (standing : S.Standing) (t : Tree) (i b : ℕ) (rs rs' : List Pair) (buffer : List ℕ) (r : Result Solution Decline) (d : Decline)
    → IsErrAnd r (λ x. x ≡ d) → declined t i b (length rs) (length buffer) ≡ Some (number d) → rs' ≡ rs
    → Answered S standing t i b rs buffer r standing rs' buffer × Right positions S standing t b r standing buffer
refused positions S standing t i b rs rs' buffer (Ok a) d e n s = elim e [ ]
refused positions S standing t i b rs rs' buffer (Err x) d e n s = ((n ∙ ap (λ z. Some (number z)) (sym e), refl, s, refl), refl)

-- a solution that is not declined starts with the attacker to move

attacker : (s : State) → is_attacker s ≡ true → s ≡ states.Attacker
attacker states.Won e = cc
attacker states.NotWon e = cc
attacker states.Attacker e = refl
attacker states.Defender e = cc

pub attacked : (t : Tree) (i b n l : ℕ) → declined t i b n l ≡ None → state t ≡ states.Attacker
attacked t i b n l e = attacker (state t) (go (ltb budget_limit b) (ltb n records_needed) (not (eqb (l % 8) 0) || ltb buffer_limit l) (is_attacker (state t)) (leb (length (next t)) i) e)
  where
    go : (a c d m k : Bool) →
        ◌≡◌ {A = Option ℕ} (cond a (Some 1) (cond c (Some 2) (cond d (Some 3) (cond (not m) (Some 4) (cond k (Some 5) None))))) None
        → m ≡ true
    go true c d m k e = cc
    go false true d m k e = cc
    go false false true m k e = cc
    go false false false true k e = refl
    go false false false false k e = cc

-- what an answer means

pub means : (positions : Tree → Type 0) (S : Storing) (standing : S.Standing) (t : Tree) (i b : ℕ) (buffer : List ℕ) (a : Solution) (standing' : S.Standing) (buffer' : List ℕ)
    → SolutionsFit positions S → SolutionsAreRight positions S → SpentIsMeant S → positions t → state t ≡ states.Attacker
    → Solved S standing t i b buffer a standing' buffer' → Means positions S standing t b a standing' buffer'
means positions S standing t i b buffer a standing' buffer' fit right meant pt at s =
    let p = s.part in
    let n = length buffer / 8 in
    let read : lines_in a.lines buffer' ≡ Some p.lines =
    ap₂ (λ (k : ℕ) (x : List ℕ). lines_in k x) s.lines s.shown ∙ lines_are_read_lem p.lines buffer (fit standing t b i n p standing' pt s.solves) in
    record {
      lines = p.lines;
      read = read;
      keys = s.keys;
      duals = s.duals;
      sound = λ h. (right standing t b i n p standing' h pt at s.solves).sound;
      attacks_win = λ h. (right standing t b i n p standing' h pt at s.solves).attacks_win;
      keys_have_lines = λ h e. (right standing t b i n p standing' h pt at s.solves).keys_have_lines (sym s.ending ∙ e);
      spent = λ e. meant standing t b i n p standing' s.solves (sym s.ending ∙ e);
    }
