-- What calls come to, given what a game reads, what a trial answers, and what a solution writes.
use Rattle.std.specs.Prelude.{◌++◌, cond, drop}
use Rattle.std.proofs.Common.{◌≡◌, ℕ, ◌/◌, ◌≤◌, Bool, List, [], length, Some, None, sym, refl, ap, ap₂, ◌∙◌, subst}
use Rattle.std.proofs.lemmas.Bool.{le-ltb}
use Rattle.game.specs.Tree.{Tree, position, refused}
use Rattle.game.specs.Declines.{number}
use Rattle.game.specs.Limits.{records_needed}
use Rattle.game.specs.declared.decline.Decline.{Decline}
use Rattle.game.specs.declared.game.Game as game
use Rattle.table.specs.declared.Table as table
use Rattle.search_laws.specs.declared.answer.Answer.{Answer}
use Rattle.search_laws.specs.Calls.{budget_limit, trial_decline}
use Rattle.search_laws.specs.Trial.{Trial}
use Rattle.search_laws.specs.Words.{word}
use Rattle.solution_laws.specs.declared.ending.Ending.TheVariants.{Done as IsDone}
use Rattle.solution_laws.specs.Lines.{Line, written_over, keys, duals}
use Rattle.solution_laws.specs.Solution as laws
use Rattle.solution_laws.specs.Solution.{Part}
use Rattle.solution_laws.proofs.Clash.{clash}
use Rattle.solution.specs.declared.answer.Solution.{Solution}
use Rattle.solution.specs.Limits.{buffer_limit}
use Rattle.solution.specs.Calls.{declined, Solved}
use Rattle.tester.specs.declared.reply.Reply.{Reply}
use Rattle.tester.specs.declared.reply.Reply.TheVariants.{Done, NotSet, Tried, Solved as IsSolved}
use Rattle.tester.specs.Calls.{Stand, set, trial, solution, Lent, Does, sets, not_set, tries, solves}
use Rattle.tester.specs.Claims.{OneWay}
use Rattle.diagrams.specs.Outcomes.{Sets, DeclinedAs, Declines, Tries, Writes}

-- a trial with a budget that is taken and records enough is not declined
not_declined : (b n : ℕ) → b ≤ budget_limit → records_needed ≤ n → trial_decline b n ≡ None
not_declined b n within enough =
    ap₂ (λ (x y : Bool). cond x (Some 1) (cond y (Some 2) None)) (le-ltb budget_limit b within) (le-ltb n records_needed enough)

-- nor is a solution, if one with no budget and a buffer of the greatest length is not
not_declined_solution : (t : Tree) (i b n : ℕ) → b ≤ budget_limit → records_needed ≤ n → declined t i 0 records_needed buffer_limit ≡ None →
    declined t i b n buffer_limit ≡ None
not_declined_solution t i b n within enough e =
    ap₂ (λ (x y : Bool). cond x (Some 1) (cond y (Some 2) (declined t i 0 records_needed buffer_limit))) (le-ltb budget_limit b within) (le-ltb n records_needed enough) ∙ e

module _ {G T : Type 0} (g : game.Ghosts G) (h : table.Ghosts T) where
  set_only : {x : List ℕ} {aim : ℕ} {t : Tree} {s s' : Stand h} {l l' : Lent} {r : Reply} → g.reading x aim ≡ position t → Does g h s (set x aim) l r l' s'
      → (r ≡ Done) × (l' ≡ l) × (s' ≡ record { current = t; earlier = []; standing = s.standing })
  set_only {t = t} {s = s} p (sets {t = u} e) =
      let q : u ≡ t = cc in (refl, refl, λ i. record { current = q i; earlier = []; standing = s.standing })
  set_only p (not_set e) = clash (cc)

  pub sets_up : (x : List ℕ) (aim : ℕ) (t : Tree) → g.reading x aim ≡ position t → Sets g h x aim t
  sets_up x aim t p s l = ((Done, l, _, sets p), λ r l' s' d. set_only p d)

  declined_only : {x : List ℕ} {aim n k : ℕ} {s s' : Stand h} {l l' : Lent} {r : Reply} → g.reading x aim ≡ refused n k → Does g h s (set x aim) l r l' s'
      → DeclinedAs r n k × (l' ≡ l) × (s' ≡ s)
  declined_only p (sets e) = clash (cc)
  declined_only p (not_set {e = e} f) = (record { decline = e; is = refl; number = cc; place = cc }, refl, refl)

  pub turns_down : (x : List ℕ) (aim : ℕ) (d : Decline) (k : ℕ) → g.reading x aim ≡ refused (number d) k → Declines g h x aim (number d) k
  turns_down x aim d k p s l = ((NotSet (record { cause = d; place = k }), l, s, not_set p), λ r l' s' z. declined_only p z)

  module _ (one : OneWay g h) where
    pub tried : (s : Stand h) (b : ℕ) (a : Answer) (standing' : h.storing.Standing) (P : Stand h → Type 0) → b ≤ budget_limit →
        Trial h.storing s.standing s.current b a standing' → P (record { current = s.current; earlier = s.earlier; standing = standing' }) →
        Tries g h s b (word a.verdict) a.expansions a.entries P
    tried s b a standing' P within t p l enough =
        let at : Stand h = record { current = s.current; earlier = s.earlier; standing = standing' } in
        let d : Does g h s (trial b) l (Tried a) l at = tries refl (not_declined b (length l.records) within enough) t in (
          (Tried a, l, at, d),
          λ r l' s' z.
              let o = one.one s (trial b) l (Tried a) r l l' at s' d z in (
                record { answer = a; is = sym o.0; verdict = refl; expansions = refl; entries = refl },
                ap (λ (y : Stand h). y.current) (sym o.2),
                ap (λ (y : Stand h). y.earlier) (sym o.2),
                subst P o.2 p,
              ),
        )

    pub written : (t : Tree) (i : ℕ) (ls : List Line) (x : List ℕ) → declined t i 0 records_needed buffer_limit ≡ None →
        ((standing : h.storing.Standing) (b : ℕ) → laws.Solution h.storing b i t standing 4096 (record { ending = IsDone; lines = ls; sum = 0 }) standing) →
        ((before : List ℕ) → written_over ls before ≡ x ++ drop (length x) before) →
        Writes g h t i x (length ls) (keys ls) (duals ls) 0
    written t i ls x accepts w shown s b l e within enough long =
        let p : Part = record { ending = IsDone; lines = ls; sum = 0 } in
        let a : Solution = record { ending = IsDone; lines = length ls; keys = keys ls; duals = duals ls; sum = 0 } in
        let k : Lent = record { records = l.records; buffer = written_over ls l.buffer } in
        let room : length l.buffer / 8 ≡ 4096 = ap (λ (n : ℕ). n / 8) long in
        let made : laws.Solution h.storing b i s.current s.standing (length l.buffer / 8) p s.standing =
        subst (λ (n : ℕ). laws.Solution h.storing b i s.current s.standing n p s.standing) (sym room)
        (subst (λ (u : Tree). laws.Solution h.storing b i u s.standing 4096 p s.standing) (sym e) (w s.standing b)) in
        let taken : declined s.current i b (length l.records) (length l.buffer) ≡ None =
        subst (λ (n : ℕ). declined s.current i b (length l.records) n ≡ None) (sym long)
        (subst (λ (u : Tree). declined u i b (length l.records) buffer_limit ≡ None) (sym e) (not_declined_solution t i b (length l.records) within enough accepts)) in
        let v : Solved h.storing s.standing s.current i b l.buffer a s.standing (written_over ls l.buffer) =
        record { part = p; solves = made; ending = refl; lines = refl; keys = refl; duals = refl; sum = refl; shown = refl } in
        let d : Does g h s (solution i b) l (IsSolved a) k s = solves refl taken v in (
          (IsSolved a, k, s, d),
          λ r l' s' z.
              let o = one.one s (solution i b) l (IsSolved a) r k l' s s' d z in (
                record { answer = a; is = sym o.0; ending = refl; lines = refl; keys = refl; duals = refl; sum = refl },
                sym o.1 ∙ shown l.buffer,
                sym o.2,
              ),
        )
