-- The numbers of a frame's pair form a pair, and one only.
use Rattle.std.proofs.Common.{◌≡◌, ℕ, T, List, [], ◌∷◌, refl}
use mathlib.Core.HLevel.{is_prop→PathP}
use Rattle.std.proofs.Math.Dec.{T_prop}
use Rattle.table.specs.declared.pair.Pair.{Pair}
use Rattle.table.specs.declared.side.Side.{Side}
use Rattle.table.specs.declared.side.Side.TheVariants.{Attacker, Defender}
use Rattle.table.specs.Numbers.{capped, least, well}
use Rattle.table.specs.Pairs.{own, against}
use Rattle.table.specs.Frames.{owns, againsts, FramePair}
use Rattle.table.proofs.Formed.{exchanged, none_formed, more_formed}

-- two pairs are equal if their numbers are
pub same_pair : (p q : Pair) → p.proof ≡ q.proof → p.disproof ≡ q.disproof → p ≡ q
same_pair p q a b = λ i. record {
  proof = a i;
  disproof = b i;
  formed = is_prop→PathP (λ j. T (well (a j) (b j))) (λ j. T_prop (well (a j) (b j))) p.formed q.formed i;
}

-- the pair that has these two numbers
abbrev pub facing : Side → (n k : ℕ) → T (well n k) → Pair
facing Attacker n k f = record { proof = n; disproof = k; formed = f }
facing Defender n k f = record { proof = k; disproof = n; formed = exchanged n k f }

pub numbers_formed : (s : Side) (p : Pair) → T (well (own s p) (against s p))
numbers_formed Attacker p = p.formed
numbers_formed Defender p = exchanged p.proof p.disproof p.formed

pub whole_formed : (s : Side) (ps : List Pair) → T (well (least (owns s ps)) (capped (againsts s ps)))
whole_formed s [] = none_formed
whole_formed s (p ∷ ps) = more_formed (own s p) (against s p) (owns s ps) (againsts s ps) (numbers_formed s p) (whole_formed s ps)

-- a frame's pair
abbrev pub pair_at : Side → List Pair → Pair
pair_at s ps = facing s (least (owns s ps)) (capped (againsts s ps)) (whole_formed s ps)

pub frame_pair : (s : Side) (ps : List Pair) → FramePair s ps (pair_at s ps)
frame_pair Attacker ps = record { least = refl; sum = refl }
frame_pair Defender ps = record { least = refl; sum = refl }

pub only_pair : (s : Side) (ps : List Pair) (p : Pair) → FramePair s ps p → p ≡ pair_at s ps
only_pair Attacker ps p h = same_pair p (pair_at Attacker ps) h.least h.sum
only_pair Defender ps p h = same_pair p (pair_at Defender ps) h.sum h.least
