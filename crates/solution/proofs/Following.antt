-- What the program does at a position of a solution, step by step.
use Rattle.std.proofs.Common.{◌≡◌, ◌≢◌, ℕ, suc, ◌+◌, ◌-◌, ◌*◌, ◌<◌, ◌≤◌, Bool, List, [], ◌∷◌, ◌++◌, length, get_or, take, Some, None, Option, Ok, Err, Result, sym, refl, ap, ◌∙◌, subst, append_assoc, codes, arith, length-append, length-take}
use Rattle.std.specs.Result.{IsErrAnd}
use Rattle.game.specs.declared.state.State.TheVariants.{Attacker, Defender}
use Rattle.game.specs.Tree.{Tree, Moves, nowhere, state, moves, next, words}
use Rattle.search.specs.declared.budget.Budget.{Budget}
use Rattle.table.specs.Storings.{Storing}
use Rattle.solution_laws.specs.declared.ending.Ending.{Ending}
use Rattle.solution_laws.specs.declared.ending.Ending.TheVariants.{Done, Spent, Cut}
use Rattle.solution_laws.specs.Lines.{Line}
use Rattle.solution_laws.specs.Words.{word}
use Rattle.solution_laws.specs.Solution.{AllTried, Stops, best, wins, Part, no_line, then, reply_line, Solves, stopped, no_win, full, win, defends, Replies, no_reply, no_room, last, reply}
use Rattle.solution_laws.proofs.Choice.{best-wins, true_below}
use Rattle.solution_laws.proofs.Spent.{tried-length}
use Rattle.solution.specs.declared.page.Page.{Page}
use Rattle.solution.specs.declared.page.Full.{Full}
use Rattle.solution.specs.declared.stop.Stop.{Stop}
use Rattle.solution.specs.declared.stop.Stop.TheVariants as stops
use Rattle.solution.specs.Stops.{stop_word, end_word}
use Rattle.solution.specs.Attempts.{most, Adds}
use Rattle.solution.specs.Pages.{room, Written, Writes}
use Rattle.solution.specs.Following.{Followed, Attacked, Attacks}
use Rattle.solution.proofs.Pages.{written_none, written-join, room_after}
use Rattle.solution.proofs.Attempts.{beyond, beyond-next, beyond_end}

pub chosen_number : {S : Storing} {b n : ℕ} {standing standing' : S.Standing} (t : Tree) (i : Option ℕ) (j : ℕ) (ws : List Bool) → AllTried S b standing (moves t) ws n standing' → best i ws ≡ Some j → j < length (next t)
chosen_number t i j ws s o = let g = true_below ws j (best-wins i ws j o) in let n = tried-length s in omega arith

-- what comes after a move, from a position and with a budget that are the same
pub followed_at : {S : Storing} {k : ℕ} {t t' : Tree} {b b' : Budget} {standing standing' : S.Standing} {page page' : Page} {n n' : ℕ} {r : Result (Unit {0}) Stop} (j : ℕ) → t' ≡ t → b' ≡ b
    → Followed S b'.amount k None (get_or (next t') j nowhere) standing page n r standing' page' n'
    → Followed S b.amount k None (get_or (next t) j nowhere) standing page n r standing' page' n'
followed_at {S = S} {k = k} {t = t} {b' = b'} {standing = standing} {standing' = standing'} {page = page} {page' = page'} {n = n} {n' = n'} {r = r} j e f z =
    subst (λ (x : Budget). Followed S x.amount k None (get_or (next t) j nowhere) standing page n r standing' page' n') f
    (subst (λ (x : Tree). Followed S b'.amount k None (get_or (next x) j nowhere) standing page n r standing' page' n') e z)

module _ (S : Storing) (b k : ℕ) (i : Option ℕ) (t : Tree) (standing : S.Standing) (page : Page) (n : ℕ) where
  -- nothing is written
  pub no_line_followed : (r : Result (Unit {0}) Stop) (e : Ending) (c : ℕ) (standing' : S.Standing) (n' : ℕ) → word e ≡ end_word r → n' ≡ n + c → c ≤ most
      → Solves S b k i t standing (room page) (no_line e c) standing' → Followed S b k i t standing page n r standing' page n'
  no_line_followed r e c standing' n' d s l z = record {
    part = no_line e c;
    solves = z;
    ending = d;
    sum = s;
    written = written_none page;
    fits = omega arith;
    bound = omega arith;
  }

  module _ (standing' : S.Standing) (n' : ℕ) (e : state t ≡ Attacker) where
    pub spent_attacks : (r : Result (Option ℕ) Stop) (stop : Stop) → IsErrAnd r (λ s. s ≡ stop)
        → (stop_word stop ≡ codes "spent") × Adds (λ c. Stops S b standing (moves t) c standing') n n' → Attacks S b k i t standing page n r standing' page n'
    spent_attacks (Ok o) stop h a = elim h [ ]
    spent_attacks (Err s) stop h a =
        no_line_followed (Err s) Spent a.1.cost standing' n' (sym (ap stop_word h ∙ a.0)) a.1.sum a.1.bound (stopped e a.1.holds refl)

    pub no_win_attacks : (ws : List Bool) → Adds (λ c. AllTried S b standing (moves t) ws c standing') n n' → best i ws ≡ None
        → Followed S b k i t standing page n (Ok tt) standing' page n'
    no_win_attacks ws a o = no_line_followed (Ok tt) Done a.cost standing' n' refl a.sum a.bound (no_win e a.holds o refl)

    pub cut_attacks : (r : Result (Option ℕ) Stop) (f : Full) (j : ℕ) (ws : List Bool) (page' : Page) → IsErrAnd r (λ s. stop_word s ≡ codes "cut")
        → Adds (λ c. AllTried S b standing (moves t) ws c standing') n n' → best i ws ≡ Some j → Writes (wins k j ws (words t)) page (Err f) page'
        → Attacks S b k i t standing page n r standing' page' n'
    cut_attacks (Ok o) f j ws page' h a o' w = elim h [ ]
    cut_attacks (Err s) f j ws page' h a o w =
        let ls = wins k j ws (words t) in
        let m = length-take (room page) ls in
        record {
          part = record { ending = Cut; lines = take (room page) ls; sum = a.cost };
          solves = full e a.holds o w.0 refl;
          ending = sym h;
          sum = a.sum;
          written = w.1;
          fits = omega arith;
          bound = omega (arith, a.bound);
        }

    pub win_followed : (j : ℕ) (standing'' : S.Standing) (page' page'' : Page) (n'' : ℕ) (r : Result (Unit {0}) Stop)
        → Attacked S b k i t standing page n j standing' page' n'
        → Followed S b (k + 1) None (get_or (next t) j nowhere) standing' page' n' r standing'' page'' n''
        → Followed S b k i t standing page n r standing'' page'' n''
    win_followed j standing'' page' page'' n'' r a f =
        let ls = wins k j a.flags (words t) in
        let u = get_or (next t) j nowhere in
        let p : k + 1 ≡ suc k = omega arith in
        let z = subst (λ (x : ℕ). Solves S b x None u standing' (room page') f.part standing'') p f.solves in
        let y = subst (λ (x : ℕ). Solves S b (suc k) None u standing' x f.part standing'') (room_after ls a.writes.1) z in
        let m = length-append ls f.part.lines in
        record {
          part = then ls a.tried.cost f.part;
          solves = win e a.tried.holds a.chosen a.writes.0 y;
          ending = f.ending;
          sum = omega (arith, f.sum, a.tried.sum);
          written = written-join ls f.part.lines a.writes.1 f.written;
          fits = omega (arith, f.fits, a.writes.0, room_after ls a.writes.1);
          bound = omega (arith, f.bound, a.tried.bound);
        }

-- the replies, before the move of number i
module _ (S : Storing) (b k : ℕ) (t : Tree) (standing : S.Standing) (page : Page) (n : ℕ) where
  pub record Replying (i : ℕ) (h : S.Standing) (page' : Page) (n' : ℕ) : Type 0 where
    pub so_far : List Line
    pub cost : ℕ
    pub sum : n' ≡ n + cost
    pub written : Written so_far page page'
    pub fits : length so_far ≤ room page
    pub bound : cost ≤ most * length so_far
    pub goes_on : (q : Part) (h' : S.Standing) → Replies S b k (beyond i (moves t)) h (room page') q h' → Replies S b k (moves t) standing (room page) (then so_far cost q) h'

  then_none : (q : Part) → q ≡ then [] 0 q
  then_none q = λ i. record { ending = q.ending; lines = q.lines; sum = (let e : q.sum ≡ 0 + q.sum = omega arith in e) i }

  pub replying_start : Replying 0 standing page n
  unfolding beyond
  replying_start = record {
    so_far = [];
    cost = 0;
    sum = omega arith;
    written = written_none page;
    fits = omega arith;
    bound = omega arith;
    goes_on = λ q h' r. subst (λ (x : Part). Replies S b k (moves t) standing (room page) x h') (then_none q) r;
  }

  then_then : (ls ms : List Line) (m c : ℕ) (q : Part) → then ls m (then ms c q) ≡ then (ls ++ ms) (m + c) q
  then_then ls ms m c q =
      let e : m + (c + q.sum) ≡ (m + c) + q.sum = omega arith in
      λ i. record { ending = q.ending; lines = sym (append_assoc ls ms q.lines) i; sum = e i }

  module _ (i : ℕ) (h : S.Standing) (p1 : Page) (n1 : ℕ) (r : Replying i h p1 n1) (low : i < length (next t)) where
    line : Line
    line = reply_line k (get_or (words t) i [])

    pub replying_cut : (o : Option ℕ) (x : Result (Unit {0}) Stop) (f : Full) (p2 : Page) → IsErrAnd x (λ s. stop_word s ≡ codes "cut") → state t ≡ Defender
        → Writes (reply_line k (get_or (words t) i []) ∷ []) p1 (Err f) p2 → Followed S b k o t standing page n x h p2 n1
    unfolding line
    replying_cut o (Ok u) f p2 z e w = elim z [ ]
    replying_cut o (Err s) f p2 d e w =
        let z : room p1 ≡ 0 = omega (arith, w.0) in
        let v = r.goes_on (no_line Cut 0) h (subst (λ (m : Moves). Replies S b k m h (room p1) (no_line Cut 0) h) (sym (beyond-next i (moves t) low)) (no_room z refl)) in
        let y = subst (λ (m : ℕ). Written (take m (line ∷ [])) p1 p2) z w.1 in
        let l = length-append r.so_far [] in
        record {
          part = then r.so_far r.cost (no_line Cut 0);
          solves = defends e v;
          ending = sym d;
          sum = omega (arith, r.sum);
          written = written-join r.so_far [] r.written y;
          fits = omega (arith, r.fits);
          bound = omega (arith, r.bound);
        }

    module _ (p2 : Page) (w : Writes (reply_line k (get_or (words t) i []) ∷ []) p1 (Ok tt) p2)
        (x : Result (Unit {0}) Stop) (h' : S.Standing) (p3 : Page) (n3 : ℕ) (f : Followed S b (k + 1) None (get_or (next t) i nowhere) h p2 n1 x h' p3 n3) where
      lines : List Line
      lines = line ∷ f.part.lines

      joined : Written lines p1 p3
      unfolding line lines
      joined = written-join (line ∷ []) f.part.lines w.1 f.written

      after : Solves S b (suc k) None (get_or (next t) i nowhere) h (room p1 - 1) f.part h'
      unfolding line lines
      after =
          let p : k + 1 ≡ suc k = omega arith in
          let z = subst (λ (y : ℕ). Solves S b y None (get_or (next t) i nowhere) h (room p2) f.part h') p f.solves in
          subst (λ (y : ℕ). Solves S b (suc k) None (get_or (next t) i nowhere) h y f.part h') (room_after (line ∷ []) w.1) z

      longer : length (r.so_far ++ lines) ≡ suc (length r.so_far + length f.part.lines)
      unfolding line lines
      longer = let l = length-append r.so_far lines in omega arith

      fitting : length (r.so_far ++ lines) ≤ room page
      unfolding line lines
      fitting =
          let r1 = room_after r.so_far r.written in
          let r2 = room_after (line ∷ []) w.1 in
          omega (arith, r.fits, f.fits, w.0, longer)

      pub replying-last : (o : Option ℕ) (stop : Stop) (y : Result (Unit {0}) Stop) → state t ≡ Defender → x ≡ Err stop → IsErrAnd y (λ s. s ≡ stop)
          → Followed S b k o t standing page n y h' p3 n3
      unfolding line lines
      replying-last o stop (Ok u) e d z = elim z [ ]
      replying-last o stop (Err s) e d z =
          let en : word f.part.ending ≡ stop_word s = f.ending ∙ ap end_word d ∙ ap stop_word (sym z) in
          let nd : word f.part.ending ≢ codes "done" = λ q. stops_short s (sym en ∙ q) in
          let v = r.goes_on (then (line ∷ []) 0 f.part) h' (subst (λ (m : Moves). Replies S b k m h (room p1) (then (line ∷ []) 0 f.part) h') (sym (beyond-next i (moves t) low)) (last (omega (arith, w.0)) after nd)) in
          record {
            part = then r.so_far r.cost (then (line ∷ []) 0 f.part);
            solves = defends e v;
            ending = en;
            sum = omega (arith, f.sum, r.sum);
            written = written-join r.so_far lines r.written joined;
            fits = fitting;
            bound = omega (arith, r.bound, f.bound, longer);
          }
        where
          stops_short : (s : Stop) → stop_word s ≡ codes "done" → ⊥
          stops_short stops.Spent q = absurd (cc)
          stops_short stops.Cut q = absurd (cc)

      pub replying-next : end_word x ≡ codes "done" → Replying (i + 1) h' p3 n3
      unfolding line lines
      replying-next d =
          let dn : word f.part.ending ≡ codes "done" = f.ending ∙ d in
          let p : suc i ≡ i + 1 = omega arith in
          record {
            so_far = r.so_far ++ lines;
            cost = r.cost + f.part.sum;
            sum = omega (arith, r.sum, f.sum);
            written = written-join r.so_far lines r.written joined;
            fits = fitting;
            bound = omega (arith, r.bound, f.bound, longer);
            goes_on = λ q h'' z.
                let z1 = subst (λ (y : ℕ). Replies S b k (beyond y (moves t)) h' (room p3) q h'') (sym p) z in
                let z2 = subst (λ (y : ℕ). Replies S b k (beyond (suc i) (moves t)) h' y q h'') (room_after lines joined) z1 in
                let z3 = subst (λ (m : Moves). Replies S b k m h (room p1) (then lines f.part.sum q) h'') (sym (beyond-next i (moves t) low)) (reply (omega (arith, w.0)) after dn z2) in
                let z4 = r.goes_on (then lines f.part.sum q) h'' z3 in
                subst (λ (y : Part). Replies S b k (moves t) standing (room page) y h'') (then_then r.so_far lines r.cost f.part.sum q) z4;
          }

  pub replying_end : (o : Option ℕ) (i : ℕ) (h : S.Standing) (p1 : Page) (n1 : ℕ) → Replying i h p1 n1 → length (next t) ≤ i → state t ≡ Defender
      → Followed S b k o t standing page n (Ok tt) h p1 n1
  replying_end o i h p1 n1 r l e =
      let v = r.goes_on (no_line Done 0) h (subst (λ (m : Moves). Replies S b k m h (room p1) (no_line Done 0) h) (sym (beyond_end i (moves t) l)) (no_reply refl)) in
      let m = length-append r.so_far [] in
      record {
        part = then r.so_far r.cost (no_line Done 0);
        solves = defends e v;
        ending = refl;
        sum = omega (arith, r.sum);
        written = written-join r.so_far [] r.written (written_none p1);
        fits = omega (arith, r.fits);
        bound = omega (arith, r.bound);
      }
