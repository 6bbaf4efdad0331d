-- Pairs as the side to move sees them, and what a table shows.
use Rattle.std.specs.Prelude.{ℕ, List, None, Option}
use Rattle.table.specs.declared.pair.Pair.{Pair}
use Rattle.table.specs.declared.side.Side.{Side}
use Rattle.table.specs.declared.side.Side.TheVariants.{Attacker, Defender}
use Rattle.table.specs.Numbers.{top}

abbrev pub won : Pair
won = record { proof = 0; disproof = top; formed = tt }

abbrev pub not_won : Pair
not_won = record { proof = top; disproof = 0; formed = tt }

-- what stands for a position of which nothing is known
abbrev pub fresh : Pair
fresh = record { proof = 1; disproof = 1; formed = tt }

abbrev pub other : Side → Side
other Attacker = Defender
other Defender = Attacker

-- the number that the side to move wants to bring to 0, and the other
abbrev pub own : Side → Pair → ℕ
own Attacker p = p.proof
own Defender p = p.disproof

abbrev pub against : Side → Pair → ℕ
against Attacker p = p.disproof
against Defender p = p.proof

-- a code is five words
abbrev pub Code : Type 0
Code = List ℕ

-- what a table shows: for each code a pair or none
abbrev pub Shown : Type 0
Shown = Code → Option Pair

-- nothing is shown
abbrev pub nothing : Shown
nothing c = None
