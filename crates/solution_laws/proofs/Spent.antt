-- Where a solution is spent.
use Rattle.std.proofs.Common.{◌≡◌, ℕ, suc, ◌<◌, Bool, List, length, get_or, Option, refl, ap, codes, arith}
use Rattle.game.specs.Tree.{Tree, Moves, nowhere, moves, successors}
use Rattle.table.specs.Storings.{Storing}
use Rattle.search_laws.specs.Trial.{need, share}
use Rattle.search_laws.specs.Claims.{SpentIsMeant as TrialsSpent}
use Rattle.solution_laws.specs.Solution.{AllTried, no_more, tried, Stops, spent, later, Part, Solves, won, not_won, stopped, no_win, full, win, defends, Replies, no_reply, no_room, last, reply}
use Rattle.solution_laws.specs.Words.{word}
use Rattle.solution_laws.specs.Claims.{Follows, at_once, further, SpentIsMeant}
use Rattle.solution_laws.proofs.Choice.{true_below, best-wins}

-- there is a flag for each move
pub tried-length : {S : Storing} {b : ℕ} {standing : S.Standing} {m : Moves} {ws : List Bool} {n : ℕ} {standing' : S.Standing} → AllTried S b standing m ws n standing' → length ws ≡ length (successors m)
tried-length no_more = refl
tried-length (tried r v more) = ap suc (tried-length more)

module _ (S : Storing) (meant : TrialsSpent S) (b : ℕ) (start : Tree) where
  abbrev Beyond : Type 0
  Beyond = (u : Tree) × Follows start u × (share b < need u)

  -- the positions that these moves lead to follow on the start
  abbrev Led : Moves → Type 0
  Led m = (i : ℕ) → i < length (successors m) → Follows start (get_or (successors m) i nowhere)

  led : (u : Tree) → Follows start u → Led (moves u)
  led u f i l = further f i l

  stops_beyond : {standing : S.Standing} {m : Moves} {n : ℕ} {standing' : S.Standing} → Stops S b standing m n standing' → Led m → Beyond
  stops_beyond {standing = standing} (spent {standing' = h} {t = t} {a = a} r v) l = (t, l 0 (omega arith), meant standing t b a h r v)
  stops_beyond (later w r v more) l = stops_beyond more (λ i p. l (suc i) (omega arith))

  mutual
    solves_beyond : {k : ℕ} {i : Option ℕ} {t : Tree} {standing : S.Standing} {room : ℕ} {p : Part} {standing' : S.Standing} →
        Solves S b k i t standing room p standing' → Led (moves t) → word p.ending ≡ codes "spent" → Beyond
    solves_beyond (won e d) l s = absurd (cc)
    solves_beyond (not_won e d) l s = absurd (cc)
    solves_beyond (stopped e st d) l s = stops_beyond st l
    solves_beyond (no_win e tr be d) l s = absurd (cc)
    solves_beyond (full e tr be r d) l s = absurd (cc)
    solves_beyond {i = i} {t = t} (win {j = j} {ws = ws} e tr be r more) l s =
        let g = true_below ws j (best-wins i ws j be) in
        let n = tried-length tr in
        solves_beyond more (led _ (l j (omega arith))) s
    solves_beyond (defends e rs) l s = replies_beyond rs l s

    replies_beyond : {k : ℕ} {m : Moves} {standing : S.Standing} {room : ℕ} {p : Part} {standing' : S.Standing} →
        Replies S b k m standing room p standing' → Led m → word p.ending ≡ codes "spent" → Beyond
    replies_beyond (no_reply d) l s = absurd (cc)
    replies_beyond (no_room z d) l s = absurd (cc)
    replies_beyond (last z more e) l s = solves_beyond more (led _ (l 0 (omega arith))) s
    replies_beyond (reply z more e rs) l s = replies_beyond rs (λ i o. l (suc i) (omega arith)) s

pub spent-is-meant : (S : Storing) → TrialsSpent S → SpentIsMeant S
spent-is-meant S meant standing t b i room p standing' sol e = solves_beyond S meant b t sol (λ j l. at_once j l) e
