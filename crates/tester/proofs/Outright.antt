-- What is right about a call after some list of calls is right outright: each part has one proof at most, or a test finds one.
use Rattle.std.proofs.Common.{◌≡◌, ℕ, zero, suc, ◌-◌, ◌<◌, Bool, true, false, List, [], ◌∷◌, ◌++◌, length, get_or, ◌/◌, codes, Some, None, Option, sym, refl, ap, ◌∙◌, subst, arith}
use Rattle.std.proofs.Math.Bool.{Bool-set}
use Rattle.std.proofs.Math.Logic.{∥∥₁_elim, ∥∥₁_map}
use Rattle.std.proofs.Math.Nat.{ℕ_set}
use Rattle.std.specs.Coded.{le_prop}
use Rattle.std.specs.Str.{bytes_eq}
use Rattle.std.proofs.lemmas.Slice.Eq.{bytes_eq-Decides}
use Rattle.game.specs.Tree.{Tree, moves, words, minimax}
use Rattle.game.specs.declared.game.Game as game
use Rattle.table.specs.declared.Table as table
use Rattle.search_laws.specs.declared.answer.Verdict.{Verdict}
use Rattle.search_laws.specs.declared.answer.Answer.{Answer}
use Rattle.search_laws.specs.Calls.{trial_decline}
use Rattle.search_laws.specs.Trial.{need, share}
use Rattle.search_laws.specs.Words.{word}
use Rattle.search_laws.proofs.Trials as trials
use Rattle.solution_laws.specs.Lines.{Line, attacks, lines_in, keys, duals}
use Rattle.solution_laws.specs.Claims.{by_text, reached, ForAWin, Follows}
use Rattle.solution_laws.specs.Words as endings
use Rattle.solution_laws.proofs.Clash.{clash}
use Rattle.solution_laws.proofs.Spent.{spent-is-meant}
use Rattle.solution.specs.declared.answer.Solution.{Solution}
use Rattle.tester.specs.declared.reply.Reply.{Reply}
use Rattle.tester.specs.declared.reply.Reply.TheVariants.{Tried, Solved}
use Rattle.tester.specs.Calls.{Stand, Asked, trial, solution, Lent, Does, tries, not_tried, solves, Event, Calls, none, then}
use Rattle.tester.specs.Claims.{TrialRight, SolutionRight, Right, Each, AllRight}
use Rattle.tester.proofs.Single.{some_trial}
use Rattle.tester.proofs.Doing.{renamed}

no_two : IsProp ⊥
no_two x y = absurd x

-- a line for a win: the position that it starts from and the one that it leads to are computed

for_a_win : (start : Tree) (above : List Line) (l : Line) → ∥ ForAWin start above l ∥₁ → ForAWin start above l
for_a_win start above l x = from (reached start above (l.ply - 1)) refl
  where
    to : (t : Tree) (o : Option Tree) → reached start above (l.ply - 1) ≡ Some t → by_text l.text (moves t) ≡ o → ForAWin start above l
    to t None e f = absurd (∥∥₁_elim x no_two (λ y.
        let p : t ≡ y.0 = let q = y.2 in cc in
        let z = y.3 in
        let k : by_text l.text (moves t) ≡ Some y.1 = subst (λ (r : Tree). by_text l.text (moves r) ≡ Some y.1) (sym p) z in
        clash (cc)))
    to t (Some u) e f = (
      t,
      u,
      e,
      f,
      ∥∥₁_elim x (Bool-set _ _) (λ y.
          let p : t ≡ y.0 = let q = y.2 in cc in
          let z = y.3 in
          let k : by_text l.text (moves t) ≡ Some y.1 = subst (λ (r : Tree). by_text l.text (moves r) ≡ Some y.1) (sym p) z in
          let m : u ≡ y.1 = cc in
          subst (λ (r : Tree). minimax r ≡ true) (sym m) y.4),
    )

    from : (o : Option Tree) → reached start above (l.ply - 1) ≡ o → ForAWin start above l
    from None e = absurd (∥∥₁_elim x no_two (λ y. let q = y.2 in clash (cc)))
    from (Some t) e = to t (by_text l.text (moves t)) e refl

-- a key's line, among the lines

abbrev IsKey : List ℕ → Line → Type 0
IsKey w l = (l.ply ≡ 1) × (attacks l.sign ≡ true) × (l.text ≡ w)

abbrev HasKey : List ℕ → List Line → Type 0
HasKey w ls = (above : List Line) × (l : Line) × (below : List Line) × (ls ≡ above ++ (l ∷ below)) × IsKey w l

is_one? : (n : ℕ) → Dec (n ≡ 1)
is_one? zero = no (λ e. absurd (omega arith))
is_one? (suc zero) = yes refl
is_one? (suc (suc n)) = no (λ e. absurd (omega arith))

is_key? : (w : List ℕ) (l : Line) → Dec (IsKey w l)
is_key? w l = go (is_one? l.ply) (attacks l.sign) refl (bytes_eq l.text w) refl
  where
    go : Dec (l.ply ≡ 1) → (b : Bool) → attacks l.sign ≡ b → (c : Bool) → bytes_eq l.text w ≡ c → Dec (IsKey w l)
    go (yes e) true f true k = yes (e, f, (bytes_eq-Decides l.text w).0 k)
    go (no n) b f c k = no (λ y. n y.0)
    go (yes e) false f c k = no (λ y. let p = y.1 in clash (cc))
    go (yes e) true f false k = no (λ y. let p = (bytes_eq-Decides l.text w).1 y.2 in clash (cc))

later : (w : List ℕ) (l : Line) (ls : List Line) → (IsKey w l → ⊥) → HasKey w (l ∷ ls) → HasKey w ls
later w l ls n ([], k, below, e, y) = let p : l ≡ k = cc in absurd (n (subst (IsKey w) (sym p) y))
later w l ls n (a ∷ above, k, below, e, y) = (above, k, below, (let p : ls ≡ above ++ (k ∷ below) = cc in p), y)

nowhere_in : (w : List ℕ) → HasKey w [] → ⊥
nowhere_in w ([], k, below, e, y) = clash (cc)
nowhere_in w (a ∷ above, k, below, e, y) = clash (cc)

has_key : (w : List ℕ) (ls : List Line) → ∥ HasKey w ls ∥₁ → HasKey w ls
has_key w [] x = absurd (∥∥₁_elim x no_two (nowhere_in w))
has_key w (l ∷ ls) x = by_test (is_key? w l) (λ n. has_key w ls (∥∥₁_map x (later w l ls n)))
  where
    by_test : Dec (IsKey w l) → ((IsKey w l → ⊥) → HasKey w ls) → HasKey w (l ∷ ls)
    by_test (yes y) f = ([], l, ls, refl, y)
    by_test (no n) f = let z = f n in (l ∷ z.0, z.1, z.2, ap (λ (k : List Line). l ∷ k) z.3, z.4)

-- a solution

module _ (t : Tree) (b : ℕ) (a : Solution) (buffer : List ℕ) (meant : endings.word a.ending ≡ codes "spent" → (u : Tree) × Follows t u × (share b < need u)) (x : ∥ SolutionRight t b a buffer ∥₁) where
  -- with the lines that the buffer says
  with_lines : (ls : List Line) → lines_in a.lines buffer ≡ Some ls → SolutionRight t b a buffer
  with_lines ls r =
      let same : (y : SolutionRight t b a buffer) → ls ≡ y.lines = λ y. let q = y.read in cc in
      record {
        lines = ls;
        read = r;
        attacks_win = λ above l below e f. for_a_win t above l (∥∥₁_map x (λ y. y.attacks_win above l below (sym (same y) ∙ e) f));
        keys_have_lines = λ d i m w.
            let z = has_key (get_or (words t) i []) ls (∥∥₁_map x (λ y. let k = y.keys_have_lines d i m w in (k.0, k.1, k.2, same y ∙ k.3, (k.4, k.5, k.6)))) in
            (z.0, z.1, z.2, z.3, z.4.0, z.4.1, z.4.2);
        spent = meant;
        keys = ∥∥₁_elim x (ℕ_set _ _) (λ y. y.keys ∙ ap keys (sym (same y)));
        duals = ∥∥₁_elim x (ℕ_set _ _) (λ y. y.duals ∙ ap duals (sym (same y)));
      }

  solution_outright : SolutionRight t b a buffer
  solution_outright = go (lines_in a.lines buffer) refl
    where
      go : (o : Option (List Line)) → lines_in a.lines buffer ≡ o → SolutionRight t b a buffer
      go None e = absurd (∥∥₁_elim x no_two (λ y. let q = y.read in clash (cc)))
      go (Some ls) e = with_lines ls e

module _ {G T : Type 0} (g : game.Ghosts G) (h : table.Ghosts T) where
  again : {s s' : Stand h} {b : ℕ} {l l' : Lent} {r : Reply} (v : Verdict) → Does g h s (trial b) l r l' s' → trial_decline b (length l.records) ≡ None
      → ∥ ((a : Answer) × (r ≡ Tried a) × (word a.verdict ≡ word v)) ∥₁ → (a : Answer) × (r ≡ Tried a) × (word a.verdict ≡ word v)
  again v (tries {a = a} n d t) o x = (
    a,
    refl,
    (bytes_eq-Decides (word a.verdict) (word v)).0 (∥∥₁_elim x (Bool-set _ _) (λ y.
        let p : a ≡ y.0 = let q = y.1 in cc in
        (bytes_eq-Decides (word a.verdict) (word v)).1 (ap (λ (z : Answer). word z.verdict) p ∙ y.2))),
  )
  again v (not_tried d) o x = clash (cc)

  trial_outright : (s : Stand h) (b : ℕ) (a : Answer) → ∥ TrialRight g h s b a ∥₁ → TrialRight g h s b a
  trial_outright s b a x = record {
    won = λ v. ∥∥₁_elim x (Bool-set _ _) (λ y. y.won v);
    not_won = λ v. ∥∥₁_elim x (Bool-set _ _) (λ y. y.not_won v);
    lasts = λ n b' l o d. (some_trial g h s b' l d, λ r l' s' e. again a.verdict e d (∥∥₁_map x (λ y. (y.lasts n b' l o d).1 r l' s' e)));
    spent = λ v. ∥∥₁_elim x le_prop (λ y. y.spent v);
  }

  -- a solution says spent only where it is meant, from wherever it starts
  spent_of : {s s' : Stand h} {i b : ℕ} {l l' : Lent} {a : Solution} → Does g h s (solution i b) l (Solved a) l' s' → endings.word a.ending ≡ codes "spent"
      → (u : Tree) × Follows s.current u × (share b < need u)
  spent_of {s = s} {i = i} {b = b} (solves {l = l} {a = a} {standing' = standing'} n d v) w =
      spent-is-meant h.storing (trials.spent-is-meant h.storing) s.standing s.current b i (length l.buffer / 8) v.part standing' v.solves (sym v.ending ∙ w)

  pub outright : {s s' : Stand h} {c : Asked} {l l' : Lent} {r : Reply} → Does g h s c l r l' s' → ∥ Right g h s c r l' ∥₁ → Right g h s c r l'
  outright {s = s} {l' = l'} d x = record {
    of_trial = λ b a e f. trial_outright s b a (∥∥₁_map x (λ y. y.of_trial b a e f));
    of_solution = λ i b a e f. solution_outright s.current b a l'.buffer (spent_of (renamed (sym e) (sym f) d)) (∥∥₁_map x (λ y. y.of_solution i b a e f));
  }

  pub all_right : {s s' : Stand h} {es : List Event} → (run : Calls g h s es s') → ∥ Each run ∥₁ → AllRight run
  all_right none x = tt
  all_right (then d r) x = (outright d (∥∥₁_map x (λ y. y.1)), all_right r (∥∥₁_map x (λ y. y.3)))
