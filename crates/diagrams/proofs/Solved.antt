-- A solution of a position from which each move ends the game: its lines.
use Rattle.std.proofs.Common.{◌≡◌, ℕ, zero, suc, ◌≤◌, Bool, true, false, cond, not, List, [], ◌∷◌, length, map, get_or, nat_le, Some, None, sym, refl, ap, ap₂, ◌∙◌, subst, append-nil}
use Rattle.std.proofs.lemmas.List.{length-map}
use Rattle.game.specs.Tree.{Tree, state, nowhere, moves, next, words}
use Rattle.game.specs.declared.state.State.{State}
use Rattle.game.specs.declared.state.State.TheVariants.{Won, NotWon, Attacker}
use Rattle.game.specs.Limits.{records_needed}
use Rattle.table.specs.Storings.{Storing}
use Rattle.solution_laws.specs.declared.ending.Ending.TheVariants.{Done}
use Rattle.solution_laws.specs.Lines.{Line}
use Rattle.solution_laws.specs.Solution.{Solution, AllTried, first_win, best, wins, win, won}
use Rattle.solution.specs.Calls.{is_attacker, declined}
use Rattle.solution.specs.Limits.{buffer_limit}
use Rattle.diagrams.proofs.Ended.{is_won, states, all_ended, ended_tried}

-- what a position and its moves show
abbrev pub Shows : Tree → List State → List (List ℕ) → Type 0
Shows t ss xs = (state t ≡ Attacker) × (states (moves t) ≡ ss) × (words t ≡ xs)

state_at : (ts : List Tree) (i : ℕ) → state (get_or ts i nowhere) ≡ get_or (map state ts) i NotWon
state_at [] i = refl
state_at (t ∷ ts) zero = refl
state_at (t ∷ ts) (suc i) = state_at ts i

-- how many moves it has
pub count : (t : Tree) (ss : List State) (xs : List (List ℕ)) → Shows t ss xs → length (next t) ≡ length ss
count t ss xs h = sym (length-map (next t) state) ∙ ap (λ (vs : List State). length vs) h.1

-- the state of the position after a move
pub state_after : (t : Tree) (i : ℕ) (ss : List State) (xs : List (List ℕ)) → Shows t ss xs → state (get_or (next t) i nowhere) ≡ get_or ss i NotWon
state_after t i ss xs h = state_at (next t) i ∙ ap (λ (vs : List State). get_or vs i NotWon) h.1

-- it is not declined where the number is one of a move
pub accepts : (t : Tree) (i : ℕ) (ss : List State) (xs : List (List ℕ)) → Shows t ss xs → nat_le (length ss) i ≡ false → declined t i 0 records_needed buffer_limit ≡ None
accepts t i ss xs h n =
    ap₂ (λ (s : State) (m : ℕ). cond (not (is_attacker s)) (Some 4) (cond (nat_le m i) (Some 5) None)) h.0 (count t ss xs h)
    ∙ ap (λ (v : Bool). cond v (Some 5) None) n

-- its lines, where all moves end the game, and the intended one is a key
pub solved : (S : Storing) (t : Tree) (i : ℕ) (ss : List State) (xs : List (List ℕ)) (ls : List Line) → Shows t ss xs → all_ended ss ≡ true → get_or ss i NotWon ≡ Won →
    get_or (map is_won ss) i false ≡ true → wins 1 i (map is_won ss) xs ≡ ls → length ls ≤ 4096 → (standing : S.Standing) (b : ℕ) →
    Solution S b i t standing 4096 (record { ending = Done; lines = ls; sum = 0 }) standing
solved S t i ss xs ls h e n g l r standing b =
    let ws : List Bool = map is_won ss in
    let ended : all_ended (states (moves t)) ≡ true = ap all_ended h.1 ∙ e in
    let all : AllTried S b standing (moves t) ws 0 standing = subst (λ (vs : List State). AllTried S b standing (moves t) (map is_won vs) 0 standing) h.1 (ended_tried S standing b (moves t) ended) in
    let same : wins 1 i ws (words t) ≡ ls = ap (wins 1 i ws) h.2 ∙ l in
    let first : best (Some i) ws ≡ Some i = ap (λ (c : Bool). cond c (Some i) (first_win ws)) g in
    let fits : length (wins 1 i ws (words t)) ≤ 4096 = subst (λ (ks : List Line). length ks ≤ 4096) (sym same) r in
    let end : state (get_or (next t) i nowhere) ≡ Won = state_after t i ss xs h ∙ n in
    subst (λ (ks : List Line). Solution S b i t standing 4096 (record { ending = Done; lines = ks; sum = 0 }) standing) (append-nil (wins 1 i ws (words t)) ∙ same)
    (win h.0 all first fits (won end refl))
