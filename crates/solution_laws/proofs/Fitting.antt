-- The lines of a solution have eight bytes each.
use Rattle.std.proofs.Common.{◌≡◌, ℕ, suc, ◌+◌, ◌<◌, ◌≤◌, Bool, true, false, cond, eqb, List, [], ◌∷◌, length, Option, ap, arith}
use Rattle.std.specs.List.{AllByRecursion}
use Rattle.std.proofs.ByRecursion.{All-get_or, All-append, All-take}
use Rattle.game.specs.declared.state.State.TheVariants.{Attacker}
use Rattle.game.specs.Rules.{Rules}
use Rattle.game.specs.Tree.{Tree, Reading, Moves, nowhere, state, rank, moves, successors, texts, next, words, ended}
use Rattle.table.specs.Storings.{Storing}
use Rattle.solution_laws.specs.Lines.{Fits}
use Rattle.solution_laws.specs.Solution.{other_line, reply_line, others_from, wins, Part, Solves, won, not_won, stopped, no_win, full, win, defends, Replies, no_reply, no_room, last, reply}
use Rattle.solution_laws.specs.Claims.{SolutionsFit}
use Rattle.solution_laws.proofs.Texts.{length-texts}
use Rattle.solution_laws.proofs.Choice.{true_below, best-wins}
use Rattle.solution_laws.proofs.Spent.{tried-length}

others-fit : (k j i : ℕ) (ws : List Bool) (xs : List (List ℕ)) → k < 100 → AllByRecursion (λ x. length x ≡ 5) xs → AllByRecursion Fits (others_from k j i ws xs)
others-fit k j i [] xs l f = tt
others-fit k j i (w ∷ ws) [] l f = tt
others-fit k j i (false ∷ ws) (x ∷ xs) l f = others-fit k j (suc i) ws xs l f.1
others-fit k j i (true ∷ ws) (x ∷ xs) l f = go (eqb i j) (others-fit k j (suc i) ws xs l f.1)
  where
    go : (v : Bool) → AllByRecursion Fits (others_from k j (suc i) ws xs) → AllByRecursion Fits (cond v (others_from k j (suc i) ws xs) (other_line k x ∷ others_from k j (suc i) ws xs))
    go true h = h
    go false h = ((l, f.0), h)

wins-fit : (k j : ℕ) (ws : List Bool) (xs : List (List ℕ)) → k < 100 → j < length xs → AllByRecursion (λ x. length x ≡ 5) xs → AllByRecursion Fits (wins k j ws xs)
wins-fit k j ws xs l h f = ((l, All-get_or (λ x. length x ≡ 5) xs j [] h f), others-fit k j 0 ws xs l f)

module _ {start : Tree} {positions : Tree → Type 0} {depth width : ℕ} {reading : List ℕ → ℕ → Reading} (rules : Rules start positions depth width reading)
    (S : Storing) (b : ℕ) where
  attacker_rank : (t : Tree) → positions t → state t ≡ Attacker → 0 < rank t
  attacker_rank t pt e = rules.ranked t pt (ap ended e)

  mutual
    solves_fit : {k : ℕ} {i : Option ℕ} {t : Tree} {standing : S.Standing} {room : ℕ} {p : Part} {standing' : S.Standing} → Solves S b k i t standing room p standing'
        → positions t → k + rank t ≤ 33 → AllByRecursion Fits p.lines
    solves_fit (won e d) pt l = tt
    solves_fit (not_won e d) pt l = tt
    solves_fit (stopped e st d) pt l = tt
    solves_fit (no_win e ts be d) pt l = tt
    solves_fit {k = k} {i = i} {t = t} {room = room} (full {j = j} {ws = ws} e ts be r d) pt l =
        let g = true_below ws j (best-wins i ws j be) in
        let n = tried-length ts in
        let m = length-texts (moves t) in
        let a = attacker_rank t pt e in
        All-take Fits room (wins k j ws (words t)) (wins-fit k j ws (words t) (omega arith) (omega arith) (rules.five t pt))
    solves_fit {k = k} {i = i} {t = t} (win {j = j} {ws = ws} {p = p} e ts be r more) pt l =
        let g = true_below ws j (best-wins i ws j be) in
        let n = tried-length ts in
        let m = length-texts (moves t) in
        let a = attacker_rank t pt e in
        let h : j < length (next t) = omega arith in
        let c = All-get_or (λ u. rank u < rank t) (next t) j nowhere h (rules.falls t pt) in
        All-append Fits (wins k j ws (words t)) p.lines (wins-fit k j ws (words t) (omega arith) (omega arith) (rules.five t pt))
        (solves_fit more (All-get_or positions (next t) j nowhere h (rules.closed t pt)) (omega arith))
    solves_fit {t = t} (defends e rs) pt l =
        let a = rules.ranked t pt (ap ended e) in
        replies_fit rs (rank t) (rules.closed t pt) (rules.falls t pt) (rules.five t pt) (omega arith) (omega arith)

    replies_fit : {k : ℕ} {m : Moves} {standing : S.Standing} {room : ℕ} {p : Part} {standing' : S.Standing} → Replies S b k m standing room p standing'
        → (r : ℕ) → AllByRecursion positions (successors m) → AllByRecursion (λ u. rank u < r) (successors m) → AllByRecursion (λ x. length x ≡ 5) (texts m) → k < 100 → k + r ≤ 33 → AllByRecursion Fits p.lines
    replies_fit (no_reply d) r c f x l s = tt
    replies_fit (no_room z d) r c f x l s = tt
    replies_fit (last z more e) r c f x l s = ((l, x.0), solves_fit more c.0 (omega (arith, f.0)))
    replies_fit {k = k} (reply {x = y} {p = p} {q = q} z more e rs) r c f x l s =
        All-append Fits (reply_line k y ∷ p.lines) q.lines ((l, x.0), solves_fit more c.0 (omega (arith, f.0))) (replies_fit rs r c.1 f.1 x.1 l s)

pub solutions_fit : {start : Tree} {positions : Tree → Type 0} {depth width : ℕ} {reading : List ℕ → ℕ → Reading} → Rules start positions depth width reading
    → (S : Storing) → SolutionsFit positions S
solutions_fit rules S standing t b i room p standing' pt sol =
    let s = rules.shallow t pt in
    let d = rules.low in
    solves_fit rules S b sol pt (omega arith)
