-- From every stand each call has exactly one outcome.
use Rattle.std.specs.Prelude.{◌%◌, cond, not, ◌||◌, ◌==◌, nat_le, nat_lt}
use Rattle.std.proofs.Common.{◌≡◌, ℕ, ◌/◌, Bool, true, false, leb, List, [], ◌∷◌, length, Some, None, Option, sym, refl, ap, ◌∙◌, subst, arith}
use Rattle.std.proofs.lemmas.Bool.{leb-true, leb-false}
use Rattle.game.specs.Tree.{Tree, Reading, position, refused, state, next}
use Rattle.game.specs.Rules.{Rules}
use Rattle.game.specs.Limits.{records_needed}
use Rattle.game.specs.declared.decline.Decline.{Decline}
use Rattle.game.specs.declared.decline.Decline.TheVariants.{Budget, Records, Buffer, NotAttacker, MoveNumber, TakeBack}
use Rattle.game.specs.Declines.{number}
use Rattle.game.proofs.Declines.{number_tells}
use Rattle.game.specs.declared.game.Game as game
use Rattle.table.specs.declared.Table as table
use Rattle.search_laws.specs.Claims.{TrialsAgree, TrialsEnd}
use Rattle.search_laws.specs.Calls.{budget_limit, trial_decline}
use Rattle.solution_laws.specs.Lines.{written_over, keys, duals}
use Rattle.solution_laws.specs.Words.{word}
use Rattle.solution_laws.specs.Solution.{Part}
use Rattle.solution_laws.specs.Claims.{SolutionsAgree, SolutionsEnd}
use Rattle.search_laws.proofs.Courses.{trials_agree_lem}
use Rattle.search_laws.proofs.Deciding.{trials_end_lem}
use Rattle.solution_laws.proofs.Agree.{solutions_agree_lem}
use Rattle.solution_laws.proofs.Clash.{clash}
use Rattle.solution_laws.proofs.Endings.{same_ending}
use Rattle.solution_laws.proofs.Ends.{solutions_end}
use Rattle.solution.specs.declared.answer.Solution.{Solution}
use Rattle.solution.specs.Limits.{buffer_limit}
use Rattle.solution.specs.Calls.{is_attacker, declined, Solved}
use Rattle.tester.specs.declared.reply.Reply.{Reply}
use Rattle.tester.specs.declared.reply.Reply.TheVariants.{NotSet, Declined, Tried, Solved as IsSolved}
use Rattle.tester.specs.Calls.{Stand, Asked, set, play, take_back, trial, solution, clear, Lent, Does, sets, not_set, plays, not_played, takes_back, not_taken_back, tries, not_tried, solves, not_solved, clears}
use Rattle.tester.specs.Claims.{OneWay, RecordsAreNotRead}

-- two solutions from one stand answer the same, and leave the same buffer and table

one_solution : (a b : Solution) (p q : Part) → p ≡ q → word a.ending ≡ word p.ending → word b.ending ≡ word q.ending → a.lines ≡ length p.lines → b.lines ≡ length q.lines
    → a.keys ≡ keys p.lines → b.keys ≡ keys q.lines → a.duals ≡ duals p.lines → b.duals ≡ duals q.lines → a.sum ≡ p.sum → b.sum ≡ q.sum → a ≡ b
one_solution a b p q e e1 e2 l1 l2 k1 k2 d1 d2 s1 s2 =
    let x1 : a.ending ≡ b.ending = same_ending a.ending b.ending (e1 ∙ ap (λ (r : Part). word r.ending) e ∙ sym e2) in
    let x2 : a.lines ≡ b.lines = l1 ∙ ap (λ (r : Part). length r.lines) e ∙ sym l2 in
    let x3 : a.keys ≡ b.keys = k1 ∙ ap (λ (r : Part). keys r.lines) e ∙ sym k2 in
    let x4 : a.duals ≡ b.duals = d1 ∙ ap (λ (r : Part). duals r.lines) e ∙ sym d2 in
    let x5 : a.sum ≡ b.sum = s1 ∙ ap (λ (r : Part). r.sum) e ∙ sym s2 in
    λ i. record { ending = x1 i; lines = x2 i; keys = x3 i; duals = x4 i; sum = x5 i }

one_decline : (o : Option ℕ) (d e : Decline) → o ≡ Some (number d) → o ≡ Some (number e) → d ≡ e
one_decline o d e p q = number_tells d e (cc)

module _ {G T : Type 0} (g : game.Ghosts G) (h : table.Ghosts T) (trials : TrialsAgree h.storing) (solutions : SolutionsAgree h.storing) where
  one : (s : Stand h) {c : Asked} {l : Lent} {r r' : Reply} {k k' : Lent} {t t' : Stand h} → Does g h s c l r k t → Does g h s c l r' k' t'
      → (r ≡ r') × (k.buffer ≡ k'.buffer) × (t ≡ t')
  one s (sets {t = t} e) (sets {t = u} f) =
      let q : t ≡ u = cc in (refl, refl, λ i. record { current = q i; earlier = []; standing = s.standing })
  one s (sets e) (not_set f) = clash (cc)
  one s (not_set e) (sets f) = clash (cc)
  one s (not_set {e = d} e) (not_set {e = d'} f) =
      let p : d.cause ≡ d'.cause = number_tells d.cause d'.cause (cc) in
      let q : d.place ≡ d'.place = cc in
      (λ i. NotSet (record { cause = p i; place = q i }), refl, refl)
  one s (plays e) (plays f) = (refl, refl, refl)
  one s (plays e) (not_played n f) = absurd (omega arith)
  one s (not_played n e) (plays f) = absurd (omega arith)
  one s (not_played {d = d} n e) (not_played {d = d'} n' f) = (ap Declined (number_tells d d' (n ∙ sym n')), refl, refl)
  one s (takes_back {t = t} {ts = ts} e) (takes_back {t = u} {ts = us} f) =
      let p : t ≡ u = cc in
      let q : ts ≡ us = cc in
      (refl, refl, λ i. record { current = p i; earlier = q i; standing = s.standing })
  one s (takes_back e) (not_taken_back n f) = clash (cc)
  one s (not_taken_back n e) (takes_back f) = clash (cc)
  one s (not_taken_back {d = d} n e) (not_taken_back {d = d'} n' f) = (ap Declined (number_tells d d' (n ∙ sym n')), refl, refl)
  one s (tries {b = b} {a = a} {standing' = x} n d t) (tries {a = a'} {standing' = y} n' d' t') =
      let f = trials s.standing s.current b a a' x y t t' in
      (ap Tried f.0, refl, λ i. record { current = s.current; earlier = s.earlier; standing = f.1 i })
  one s (tries n d t) (not_tried f) = clash (cc)
  one s (not_tried f) (tries n d t) = clash (cc)
  one s (not_tried {b = b} {l = l} {d = d} e) (not_tried {d = d'} f) = (ap Declined (one_decline (trial_decline b (length l.records)) d d' e f), refl, refl)
  one s (solves {i = i} {b = b} {l = l} {a = a} {standing' = x} n d v) (solves {a = a'} {standing' = y} n' d' w) =
      let f = solutions s.standing s.current b i (length l.buffer / 8) v.part w.part x y v.solves w.solves in (
        ap IsSolved (one_solution a a' v.part w.part f.0 v.ending w.ending v.lines w.lines v.keys w.keys v.duals w.duals v.sum w.sum),
        v.shown ∙ ap (λ (p : Part). written_over p.lines l.buffer) f.0 ∙ sym w.shown,
        λ j. record { current = s.current; earlier = s.earlier; standing = f.1 j },
      )
  one s (solves n d v) (not_solved f) = clash (cc)
  one s (not_solved f) (solves n d v) = clash (cc)
  one s (not_solved {i = i} {b = b} {l = l} {d = d} e) (not_solved {d = d'} f) =
      (ap Declined (one_decline (declined s.current i b (length l.records) (length l.buffer)) d d' e f), refl, refl)
  one s clears clears = (refl, refl, refl)

-- a call is accepted, or declined by a cause
data Checked (o : Option ℕ) : Type 0 where
  accepts : o ≡ None → Checked o
  declines : (d : Decline) → o ≡ Some (number d) → Checked o

-- one cause is checked before others
check_first : (c : Bool) (d : Decline) (o : Option ℕ) → Checked o → Checked (cond c (Some (number d)) o)
check_first true d o k = declines d refl
check_first false d o k = k

checked_trial : (b n : ℕ) → Checked (trial_decline b n)
checked_trial b n = check_first (nat_lt budget_limit b) Budget _ (check_first (nat_lt n records_needed) Records None (accepts refl))

checked_solution : (t : Tree) (i b n l : ℕ) → Checked (declined t i b n l)
checked_solution t i b n l =
    check_first (nat_lt budget_limit b) Budget _ (check_first (nat_lt n records_needed) Records _ (check_first (not (l % 8 == 0) || nat_lt buffer_limit l) Buffer _
    (check_first (not (is_attacker (state t))) NotAttacker _ (check_first (nat_le (length (next t)) i) MoveNumber None (accepts refl)))))

module _ {G T : Type 0} (g : game.Ghosts G) (h : table.Ghosts T) (rules : Rules g.start g.positions g.depth g.width g.reading) (trials : TrialsEnd h.storing) (solutions : SolutionsEnd h.storing) where
  abbrev Outcome : Stand h → Asked → Lent → Type 0
  Outcome s c l = (r : Reply) × (l' : Lent) × (s' : Stand h) × Does g h s c l r l' s'

  some_set : (s : Stand h) (x : List ℕ) (aim : ℕ) (l : Lent) (v : Reading) → g.reading x aim ≡ v → Outcome s (set x aim) l
  some_set s x aim l (position t) e = (_, _, _, sets e)
  some_set s x aim l (refused n k) e =
      let c = (rules.refuses x aim n k e).caused in
      (NotSet (record { cause = c.0; place = k }), _, _, not_set (subst (λ (m : ℕ). g.reading x aim ≡ refused m k) (sym c.1) e))

  some_play : (s : Stand h) (i : ℕ) (l : Lent) (v : Bool) → leb (length (next s.current)) i ≡ v → Outcome s (play i) l
  some_play s i l true e = (_, _, _, not_played {d = MoveNumber} refl (leb-true (length (next s.current)) i e))
  some_play s i l false e = (_, _, _, plays (leb-false (length (next s.current)) i e))

  some_take_back : (s : Stand h) (l : Lent) (ts : List Tree) → s.earlier ≡ ts → Outcome s take_back l
  some_take_back s l [] e = (_, _, _, not_taken_back {d = TakeBack} refl e)
  some_take_back s l (t ∷ ts) e = (_, _, _, takes_back e)

  try_trial : (s : Stand h) (b : ℕ) (l : Lent) → Checked (trial_decline b (length l.records)) → Outcome s (trial b) l
  try_trial s b l (declines d e) = (_, _, _, not_tried {d = d} e)
  try_trial s b l (accepts e) = let z = trials s.standing s.current b in (_, l, _, tries refl e z.1.1)

  try_solution : (s : Stand h) (i b : ℕ) (l : Lent) → Checked (declined s.current i b (length l.records) (length l.buffer)) → Outcome s (solution i b) l
  try_solution s i b l (declines d e) = (_, _, _, not_solved {d = d} e)
  try_solution s i b l (accepts e) =
      let z = solutions s.standing s.current b i (length l.buffer / 8) in
      let p : Part = z.0 in
      let buffer' : List ℕ = written_over p.lines l.buffer in
      let v : Solved h.storing s.standing s.current i b l.buffer (record { ending = p.ending; lines = length p.lines; keys = keys p.lines; duals = duals p.lines; sum = p.sum }) z.1 buffer' =
      record { part = p; solves = z.2; ending = refl; lines = refl; keys = refl; duals = refl; sum = refl; shown = refl } in
      (_, record { records = l.records; buffer = buffer' }, _, solves refl e v)

  some : (s : Stand h) (c : Asked) (l : Lent) → Outcome s c l
  some s (set x aim) l = some_set s x aim l (g.reading x aim) refl
  some s (play i) l = some_play s i l (leb (length (next s.current)) i) refl
  some s take_back l = some_take_back s l s.earlier refl
  some s (trial b) l = try_trial s b l (checked_trial b (length l.records))
  some s (solution i b) l = try_solution s i b l (checked_solution s.current i b (length l.records) (length l.buffer))
  some s clear l = (_, _, _, clears)

-- a trial that is not declined has an outcome
pub some_trial : {G T : Type 0} (g : game.Ghosts G) (h : table.Ghosts T) (s : Stand h) (b : ℕ) (l : Lent) → trial_decline b (length l.records) ≡ None
    → (r : Reply) × (l' : Lent) × (s' : Stand h) × Does g h s (trial b) l r l' s'
some_trial g h s b l e = let z = trials_end_lem h.storing s.standing s.current b in (_, l, _, tries refl e z.1.1)

pub one_way_lem : {G T : Type 0} (g : game.Ghosts G) (h : table.Ghosts T) → Rules g.start g.positions g.depth g.width g.reading → OneWay g h
one_way_lem g h rules =
    let agree = trials_agree_lem h.storing in
    let end = trials_end_lem h.storing in
    record { some = some g h rules end (solutions_end h.storing end); one = λ s c l r r' k k' t t' d e. one g h agree (solutions_agree_lem h.storing agree) s d e }

-- a call goes the same way whatever pairs are in the records that it is lent
module _ {G T : Type 0} {g : game.Ghosts G} {h : table.Ghosts T} (k : Lent) where
  relent : {s t : Stand h} {c : Asked} {l l' : Lent} {r : Reply} → length l.records ≡ length k.records → l.buffer ≡ k.buffer → Does g h s c l r l' t
      → (k' : Lent) × (k'.buffer ≡ l'.buffer) × Does g h s c k r k' t
  relent n b (sets e) = (k, sym b, sets e)
  relent n b (not_set e) = (k, sym b, not_set e)
  relent n b (plays e) = (k, sym b, plays e)
  relent n b (not_played m e) = (k, sym b, not_played m e)
  relent n b (takes_back e) = (k, sym b, takes_back e)
  relent n b (not_taken_back m e) = (k, sym b, not_taken_back m e)
  relent n b (tries {b = budget} m d t) = (k, sym b, tries refl (subst (λ (x : ℕ). trial_decline budget x ≡ None) n d) t)
  relent n b (not_tried {b = budget} {d = cause} d) = (k, sym b, not_tried (subst (λ (x : ℕ). trial_decline budget x ≡ Some (number cause)) n d))
  relent {s = s} n b (solves {i = i} {b = budget} {a = a} {standing' = standing'} {buffer' = buffer'} m d v) = (
    record { records = k.records; buffer = buffer' },
    refl,
    solves refl (subst (λ (x : List ℕ). declined s.current i budget (length k.records) (length x) ≡ None) b (rw (← n) d))
        (subst (λ (x : List ℕ). Solved h.storing s.standing s.current i budget x a standing' buffer') b v),
  )
  relent {s = s} n b (not_solved {i = i} {b = budget} {d = cause} d) = (
    k,
    sym b,
    not_solved (subst (λ (x : List ℕ). declined s.current i budget (length k.records) (length x) ≡ Some (number cause)) b (rw (← n) d)),
  )
  relent n b clears = (k, sym b, clears)

pub records_are_not_read_lem : {G T : Type 0} (g : game.Ghosts G) (h : table.Ghosts T) → Rules g.start g.positions g.depth g.width g.reading → RecordsAreNotRead g h
records_are_not_read_lem g h rules s c l k r r' l' k' t t' n b d e =
    let x = relent k n b d in
    let y = (one_way_lem g h rules).one s c k r r' x.0 k' t t' x.2 e in
    (y.0, sym x.1 ∙ y.1, y.2)
