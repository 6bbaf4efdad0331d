-- The successor that a frame takes, and the thresholds that it hands down.
use Rattle.std.proofs.Common.{ℕ, ◌-◌, ◌<◌, ◌≤◌, Bool, true, false, cond, eqb, List, [], ◌∷◌, length, arith}
use Rattle.table.specs.declared.pair.Pair.{Pair}
use Rattle.table.specs.declared.side.Side.{Side}
use Rattle.table.specs.declared.side.Side.TheVariants.{Attacker, Defender}
use Rattle.table.specs.Numbers.{top, capped, least, others}
use Rattle.table.specs.Frames.{owns, againsts, chosen_at, FramePair}
use Rattle.table.proofs.Passes as passes
use Rattle.search_laws.specs.declared.thresholds.Thresholds.{Thresholds}
use Rattle.search_laws.specs.Run.{Below, turned, handed_down, thresholds_at}
use Rattle.search_laws.specs.Claims.{UpToTop}

-- a frame that goes on has numbers below `top`
pub below_top : (s : Side) (l : Thresholds) (ps : List Pair) (p : Pair) → UpToTop l → FramePair s ps p → Below l p →
    (least (owns s ps) < top) × (capped (againsts s ps) < top)
below_top Attacker l ps p h k b = (omega (arith, h.0, b.0, k.least), omega (arith, h.1, b.1, k.sum))
below_top Defender l ps p h k b = (omega (arith, h.1, b.1, k.least), omega (arith, h.0, b.0, k.sum))

some_pair : (s : Side) (ps : List Pair) → least (owns s ps) < top → 0 < length ps
some_pair s [] h = absurd (omega arith)
some_pair s (p ∷ ps) h = omega arith

pub chosen_in : (s : Side) (l : Thresholds) (ps : List Pair) (p : Pair) → UpToTop l → FramePair s ps p → Below l p → chosen_at s ps < length ps
chosen_in s l ps p h k b = passes.chosen_in s ps (some_pair s ps (below_top s l ps p h k b).0)

rest-low : (b : Bool) (x y : ℕ) → x ≤ top → cond b top (x - y) ≤ top
rest-low true x y h = omega arith
rest-low false x y h = omega arith

handed-low : (l : Thresholds) (n k : ℕ) → UpToTop l → UpToTop (handed_down l n k)
handed-low l n k h = (omega (arith, h.0), rest-low (eqb l.disproof top) l.disproof k h.1)

pub turned-low : (s : Side) (l : Thresholds) → UpToTop l → UpToTop (turned s l)
turned-low Attacker l h = h
turned-low Defender l h = (h.1, h.0)

pub thresholds-low : (s : Side) (l : Thresholds) (ps : List Pair) → UpToTop l → UpToTop (thresholds_at s l ps)
thresholds-low s l ps h = turned-low s _ (handed-low (turned s l) (least (others (chosen_at s ps) (owns s ps))) (capped (others (chosen_at s ps) (againsts s ps))) (turned-low s l h))
