-- The rules of the proof-number run: what comes of entering a position, and of a frame's work on its successors' pairs.
use Rattle.std.specs.Prelude.{ℕ, suc, ◌+◌, ◌-◌, ◌<◌, ◌≤◌, min, cond, ◌⊎◌, List, map, Some, None, Option, ◌==◌, slice_index_or, slice_set}
use Rattle.game.specs.declared.state.State.{State}
use Rattle.game.specs.declared.state.State.TheVariants.{Won, NotWon, Attacker, Defender}
use Rattle.game.specs.Tree.{Tree, nowhere, state, code, next}
use Rattle.table.specs.declared.pair.Pair.{Pair}
use Rattle.table.specs.declared.side.Side.{Side}
use Rattle.table.specs.declared.side.Side.TheVariants.{Attacker as Attacks, Defender as Defends}
use Rattle.table.specs.Numbers.{top, capped, least, others}
use Rattle.table.specs.Pairs.{Shown, won, not_won, fresh}
use Rattle.table.specs.Frames.{owns, againsts, chosen_at, FramePair}
use Rattle.table.specs.Storings.{Storing}
use Rattle.search_laws.specs.declared.thresholds.Thresholds.{Thresholds}

-- the side to move; no frame belongs to a position that has ended
abbrev pub mover : State → Side
mover Won = Attacks
mover NotWon = Attacks
mover Attacker = Attacks
mover Defender = Defends

-- a successor's pair when a frame lists it: decided if it has ended, else the table's, else (1, 1)
abbrev pub or_fresh : Option Pair → Pair
or_fresh (Some p) = p
or_fresh None = fresh

abbrev pub listed_as : State → Option Pair → Pair
listed_as Won o = won
listed_as NotWon o = not_won
listed_as Attacker o = or_fresh o
listed_as Defender o = or_fresh o

abbrev pub listed : Shown → Tree → Pair
listed shown t = listed_as (state t) (shown (code t))

-- A frame's own pair, by its successors' pairs: with the attacker to move the least of their proof numbers and the capped sum of their
-- disproof numbers. With the defender to move the two words are exchanged, here and in all that follows.
abbrev pub OwnPair : Tree → List Pair → Pair → Type 0
OwnPair t ps p = FramePair (mover (state t)) ps p

-- a number of a pair has reached its threshold; neither has
abbrev pub Reached : Thresholds → Pair → Type 0
Reached l p = (l.proof ≤ p.proof) ⊎ (l.disproof ≤ p.disproof)

abbrev pub Below : Thresholds → Pair → Type 0
Below l p = (p.proof < l.proof) × (p.disproof < l.disproof)

-- the number of the successor that a frame takes, the first of least proof number, and the position that it leads to
abbrev pub chosen : Tree → List Pair → ℕ
chosen t ps = chosen_at (mover (state t)) ps

abbrev pub taken : Tree → List Pair → Tree
taken t ps = slice_index_or (next t) (chosen t ps) nowhere

-- thresholds as the side to move sees them
abbrev pub turned : Side → Thresholds → Thresholds
turned Attacks l = l
turned Defends l = record { proof = l.disproof; disproof = l.proof }

-- That successor's thresholds, from the least proof number among the others and the capped sum of the others' disproof numbers: the
-- lesser of the frame's own and 1 + the least; and `top` if the frame's own is, else the frame's own minus the sum.
abbrev pub handed_down : Thresholds → ℕ → ℕ → Thresholds
handed_down l second rest = record {
  proof = min l.proof (1 + second);
  disproof = cond (l.disproof == top) top (l.disproof - rest);
}

abbrev pub thresholds_at : Side → Thresholds → List Pair → Thresholds
thresholds_at s l ps =
    turned s (handed_down (turned s l) (least (others (chosen_at s ps) (owns s ps))) (capped (others (chosen_at s ps) (againsts s ps))))

abbrev pub taken_thresholds : Tree → Thresholds → List Pair → Thresholds
taken_thresholds t l ps = thresholds_at (mover (state t)) l ps

-- the pairs with a new one for the successor that is taken
abbrev pub replaced : Tree → List Pair → Pair → List Pair
replaced t ps q = slice_set ps (chosen t ps) q

-- What a run comes to: it is stopped undecided, or has given a pair; with where the table then stands, and the expansions left.
pub data Outcome (A : Type 0) : Type 0 where
  stopped : A → Outcome A
  gave : A → ℕ → Pair → Outcome A

mutual
  -- A position is entered with two thresholds, from where the table stands and with so many expansions left. With none left the run stops.
  -- Else one is counted, the successors' pairs are listed in move order, and the frame works on them.
  pub data Enters (S : Storing) : S.Standing → ℕ → Tree → Thresholds → Outcome S.Standing → Type 0 where
    none_left : {standing : S.Standing} {t : Tree} {l : Thresholds} → Enters S standing 0 t l (stopped standing)
    counted : {standing : S.Standing} {left : ℕ} {t : Tree} {l : Thresholds} {o : Outcome S.Standing} →
        Works S standing left t l (map (listed (S.shows standing)) (next t)) o → Enters S standing (suc left) t l o

  -- A frame works. With a number of its pair at its threshold it stores the pair by code and gives it. Else it enters the successor that it
  -- takes. Where the run stops there, it stops; where that gives a pair, this replaces the successor's, and the frame works on.
  pub data Works (S : Storing) : S.Standing → ℕ → Tree → Thresholds → List Pair → Outcome S.Standing → Type 0 where
    gives : {standing : S.Standing} {left : ℕ} {t : Tree} {l : Thresholds} {ps : List Pair} {p : Pair} → OwnPair t ps p → Reached l p →
        Works S standing left t l ps (gave (S.stored standing (code t) p) left p)
    stops : {standing standing' : S.Standing} {left : ℕ} {t : Tree} {l : Thresholds} {ps : List Pair} {p : Pair} → OwnPair t ps p → Below l p →
        Enters S standing left (taken t ps) (taken_thresholds t l ps) (stopped standing') →
        Works S standing left t l ps (stopped standing')
    works_on : {standing standing' : S.Standing} {left left' : ℕ} {t : Tree} {l : Thresholds} {ps : List Pair} {p q : Pair} {o : Outcome S.Standing} →
        OwnPair t ps p → Below l p →
        Enters S standing left (taken t ps) (taken_thresholds t l ps) (gave standing' left' q) →
        Works S standing' left' t l (replaced t ps q) o → Works S standing left t l ps o

-- the thresholds of a run
abbrev pub tops : Thresholds
tops = record { proof = top; disproof = top }
