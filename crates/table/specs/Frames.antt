-- What a frame has from its successors' pairs, in move order, for the side to move.
use Rattle.std.specs.Prelude.{◌≡◌, ℕ, List, map}
use Rattle.table.specs.declared.pair.Pair.{Pair}
use Rattle.table.specs.declared.side.Side.{Side}
use Rattle.table.specs.declared.figures.Figures.{Figures}
use Rattle.table.specs.declared.figures.Tally.{Tally}
use Rattle.table.specs.Numbers.{capped, least, first, others}
use Rattle.table.specs.Pairs.{own, against}

abbrev pub owns : Side → List Pair → List ℕ
owns s ps = map (own s) ps

abbrev pub againsts : Side → List Pair → List ℕ
againsts s ps = map (against s) ps

-- the place that it takes: the first of least number
abbrev pub chosen_at : Side → List Pair → ℕ
chosen_at s ps = first (least (owns s ps)) (owns s ps)

-- its own pair: the number of the side to move is the least of the successors', and the other number is the capped sum of theirs
pub record FramePair (s : Side) (ps : List Pair) (p : Pair) : Type 0 where
  pub least : own s p ≡ least (owns s ps)
  pub sum : against s p ≡ capped (againsts s ps)

-- the figures of a frame
pub record Figured (s : Side) (ps : List Pair) (f : Figures) : Type 0 where
  pub pair : FramePair s ps f.pair
  pub place : f.place ≡ chosen_at s ps
  pub second : f.second ≡ least (others (chosen_at s ps) (owns s ps))
  pub rest : f.rest ≡ capped (others (chosen_at s ps) (againsts s ps))

-- the same of the pairs so far
pub record Tallied (s : Side) (ps : List Pair) (f : Tally) : Type 0 where
  pub lowest : f.least ≡ least (owns s ps)
  pub place : f.place ≡ chosen_at s ps
  pub second : f.second ≡ least (others (chosen_at s ps) (owns s ps))
  pub all : f.sum ≡ capped (againsts s ps)
  pub rest : f.rest ≡ capped (others (chosen_at s ps) (againsts s ps))
