-- Lists of calls, one after another. Each call from a good stand is right and leaves a good stand; so in every list.
use Rattle.std.proofs.Common.{◌≡◌, ℕ, ◌≤◌, List, ◌++◌, length, None, refl, subst}
use Rattle.std.proofs.ByRecursion.{All-get_or}
use Rattle.game.specs.Rules.{Rules}
use Rattle.std.specs.Prelude.{codes, ◌≢◌}
use Rattle.game.specs.Tree.{Tree, code, nowhere, next}
use Rattle.game.specs.declared.game.Game as game
use Rattle.table.specs.declared.Table as table
use Rattle.search_laws.specs.declared.answer.Answer.{Answer}
use Rattle.search_laws.specs.Trial.{Trial}
use Rattle.search_laws.specs.Calls.{trial_decline}
use Rattle.search_laws.specs.Words.{word}
use Rattle.table.specs.Storings.{Keeping}
use Rattle.search_laws.specs.Claims.{Sound, TrialsAreRight, VerdictsLast, SpentIsMeant, TrialsEnd}
use Rattle.search_laws.proofs.Laws.{ranging}
use Rattle.search_laws.proofs.Trials as trials
use Rattle.search_laws.proofs.Trials.{trials_are_right_lem}
use Rattle.search_laws.proofs.Courses.{verdicts_last_lem}
use Rattle.search_laws.proofs.Deciding.{trials_end_lem}
use Rattle.solution_laws.specs.Claims as claims
use Rattle.solution_laws.specs.Claims.{SolutionsAreRight, SolutionsFit}
use Rattle.solution_laws.proofs.Clash.{clash}
use Rattle.solution_laws.proofs.Fitting.{solutions_fit}
use Rattle.solution_laws.proofs.Right.{solutions_are_right_lem}
use Rattle.solution_laws.proofs.Spent.{spent-is-meant}
use Rattle.solution.specs.declared.answer.Solution.{Solution}
use Rattle.solution.proofs.Shown.{attacked, means}
use Rattle.tester.specs.declared.reply.Reply.{Reply}
use Rattle.tester.specs.declared.reply.Reply.TheVariants.{Tried, Solved}
use Rattle.tester.specs.Calls.{Stand, made, Asked, trial, Lent, Does, sets, not_set, plays, not_played, takes_back, not_taken_back, tries, not_tried, solves, not_solved, clears, Event, Calls, none, then}
use Rattle.tester.specs.Claims.{TrialRight, SolutionRight, Right, Linked, Good, Each, EveryListStands}

-- a list goes on with another
abbrev pub joined : {G T : Type 0} {g : game.Ghosts G} {h : table.Ghosts T} {s s' s'' : Stand h} {es fs : List Event}
    → Calls g h s es s' → Calls g h s' fs s'' → Calls g h s (es ++ fs) s''
joined none r = r
joined (then d q) r = then d (joined q r)

-- what holds of a game's and a table's trials and solutions
pub record Theorems {G T : Type 0} (g : game.Ghosts G) (h : table.Ghosts T) : Type 0 where
  pub rules : Rules g.start g.positions g.depth g.width g.reading
  pub keeping : Keeping h.storing
  pub right : TrialsAreRight g.positions h.storing
  pub last : VerdictsLast g.positions h.storing
  pub meant : SpentIsMeant h.storing
  pub ends : TrialsEnd h.storing
  pub solved : SolutionsAreRight g.positions h.storing
  pub fit : SolutionsFit g.positions h.storing
  pub solution_meant : claims.SpentIsMeant h.storing

pub theorems : {G T : Type 0} (g : game.Ghosts G) (h : table.Ghosts T) → Rules g.start g.positions g.depth g.width g.reading → Keeping h.storing → Theorems g h
theorems g h rules keeping =
    let right = trials_are_right_lem g.positions (ranging rules) h.storing keeping in
    record {
      rules = rules;
      keeping = keeping;
      right = right;
      last = verdicts_last_lem g.positions (ranging rules) h.storing keeping;
      meant = trials.spent-is-meant h.storing;
      ends = trials_end_lem h.storing;
      solved = solutions_are_right_lem rules h.storing right;
      fit = solutions_fit rules h.storing;
      solution_meant = spent-is-meant h.storing (trials.spent-is-meant h.storing);
    }

-- a call that is no trial and no solution, or that is declined
plain : {G T : Type 0} (g : game.Ghosts G) (h : table.Ghosts T) (s : Stand h) (c : Asked) (r : Reply) (l : Lent)
    → ((a : Answer) → r ≡ Tried a → ⊥) → ((a : Solution) → r ≡ Solved a → ⊥) → Right g h s c r l
plain g h s c r l p q = record { of_trial = λ b a e f. absurd (p a f); of_solution = λ i b a e f. absurd (q a f) }

module _ {G T : Type 0} (g : game.Ghosts G) (h : table.Ghosts T) (th : Theorems g h) where
  -- a table that was cleared shows nothing, so nothing false
  empty : (x : h.storing.Standing) → Sound g.positions (h.storing.shows (h.storing.cleared x))
  empty x t pt p e = let n = th.keeping.empties x (code t) in clash (cc)

  -- a trial from the same stand with a larger budget, if it is not declined, has the same verdict
  tried_again : (s : Stand h) (b b' : ℕ) (a : Answer) (standing' : h.storing.Standing) (l : Lent) → Good g.positions s → Trial h.storing s.standing s.current b a standing' → (word a.verdict ≢ codes "spent") → b ≤ b'
      → trial_decline b' (length l.records) ≡ None → (r : Reply) (l' : Lent) (s' : Stand h) → Does g h s (trial b') l r l' s'
      → (a' : Answer) × (r ≡ Tried a') × (word a'.verdict ≡ word a.verdict)
  tried_again s b b' a standing' l k t n o e r l' s' (tries {a = a'} {standing' = standing''} m d t') =
      (a', refl, th.last s.standing s.current b b' a a' standing' standing'' k.sound k.here o t t' n)
  tried_again s b b' a standing' l k t n o e r l' s' (not_tried d) = clash (cc)

  trial_right : (s : Stand h) (b : ℕ) (a : Answer) (standing' : h.storing.Standing) → Good g.positions s → Trial h.storing s.standing s.current b a standing' → TrialRight g h s b a
  trial_right s b a standing' k t =
      let f = th.right s.standing s.current b a standing' k.sound k.here t in
      record {
        won = f.1;
        not_won = f.2;
        lasts = λ n b' l o e.
            let z = th.ends s.standing s.current b' in
            ((Tried z.0, l, _, tries refl e z.1.1), tried_again s b b' a standing' l k t n o e);
        spent = th.meant s.standing s.current b a standing' t;
      }

  -- each rule: from a good stand the call is right, and leaves a good one
  pub keeps : {s s' : Stand h} {c : Asked} {l l' : Lent} {r : Reply} → Does g h s c l r l' s' → Good g.positions s → Right g h s c r l' × Good g.positions s'
  keeps {s = s} (sets {x = x} {aim = aim} {t = t} e) k = (
    plain g h _ _ _ _ (λ a f. clash (cc)) (λ a f. clash (cc)),
    record { here = th.rules.reads x aim t e; linked = tt; sound = k.sound },
  )
  keeps (not_set e) k = (plain g h _ _ _ _ (λ a f. clash (cc)) (λ a f. clash (cc)), k)
  keeps {s = s} (plays {i = i} e) k = (
    plain g h _ _ _ _ (λ a f. clash (cc)) (λ a f. clash (cc)),
    record {
      here = All-get_or g.positions (next s.current) i nowhere e (th.rules.closed s.current k.here);
      linked = (k.here, (i, e, refl), k.linked);
      sound = k.sound;
    },
  )
  keeps (not_played n e) k = (plain g h _ _ _ _ (λ a f. clash (cc)) (λ a f. clash (cc)), k)
  keeps {s = s} (takes_back e) k =
      let z = subst (λ (us : List Tree). Linked g.positions s.current us) e k.linked in
      (plain g h _ _ _ _ (λ a f. clash (cc)) (λ a f. clash (cc)), record { here = z.0; linked = z.2; sound = k.sound })
  keeps (not_taken_back n e) k = (plain g h _ _ _ _ (λ a f. clash (cc)) (λ a f. clash (cc)), k)
  keeps {s = s} (tries {b = b} {a = a} {standing' = standing'} n d t) k = (
    record {
      of_trial = λ b' a' e f.
          let p : b ≡ b' = cc in
          let q : a ≡ a' = cc in
          subst (λ (x : ℕ). TrialRight g h s x a') p (subst (λ (x : Answer). TrialRight g h s b x) q (trial_right s b a standing' k t));
      of_solution = λ i b' a' e f. clash (cc);
    },
    record { here = k.here; linked = k.linked; sound = (th.right s.standing s.current b a standing' k.sound k.here t).0 },
  )
  keeps (not_tried d) k = (plain g h _ _ _ _ (λ a f. clash (cc)) (λ a f. clash (cc)), k)
  keeps {s = s} (solves {i = i} {b = b} {l = l} {a = a} {standing' = standing'} {buffer' = buffer'} n d v) k =
      let m = means g.positions h.storing s.standing s.current i b l.buffer a standing' buffer' th.fit th.solved th.solution_meant k.here
      (attacked s.current i b (length l.records) (length l.buffer) d) v in (
        record {
          of_trial = λ b' a' e f. clash (cc);
          of_solution = λ i' b' a' e f.
              let p : b ≡ b' = cc in
              let q : a ≡ a' = cc in
              subst (λ (x : ℕ). SolutionRight s.current x a' buffer') p (subst (λ (x : Solution). SolutionRight s.current b x buffer') q
              (record { lines = m.lines; read = m.read; attacks_win = m.attacks_win k.sound; keys_have_lines = m.keys_have_lines k.sound; spent = m.spent; keys = m.keys; duals = m.duals }));
        },
        record { here = k.here; linked = k.linked; sound = m.sound k.sound },
      )
  keeps (not_solved d) k = (plain g h _ _ _ _ (λ a f. clash (cc)) (λ a f. clash (cc)), k)
  keeps clears k = (
    plain g h _ _ _ _ (λ a f. clash (cc)) (λ a f. clash (cc)),
    record { here = k.here; linked = k.linked; sound = empty _ },
  )

  begins : (taken : h.storing.Standing) → Good g.positions (made g h taken)
  begins taken = record { here = th.rules.begun; linked = tt; sound = empty _ }

  each : {s s' : Stand h} {es : List Event} → (run : Calls g h s es s') → Good g.positions s → Each run
  each none k = tt
  each (then d r) k = let n = keeps d k in (k, n.0, n.1, each r n.1)

  -- where a list of calls from a making leaves a tester is a good stand
  reaches : {s s' : Stand h} {es : List Event} → Calls g h s es s' → Good g.positions s → Good g.positions s'
  reaches none k = k
  reaches (then d r) k = reaches r (keeps d k).1

  pub every : EveryListStands g h
  every taken es s run = each run (begins taken)

  -- after whatever list of calls from a making
  pub right_after : {taken : h.storing.Standing} {s s' : Stand h} {c : Asked} {l l' : Lent} {r : Reply} {es : List Event} → Calls g h (made g h taken) es s → Does g h s c l r l' s' → Right g h s c r l'
  right_after {taken = taken} run d = (keeps d (reaches run (begins taken))).0
