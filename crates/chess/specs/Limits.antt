-- The limits of a chess problem.
use Rattle.std.specs.Prelude.{ℕ, ◌-◌, ◌*◌}

-- an aim is to mate in 1 to 7 moves
abbrev pub aim_limit : ℕ
aim_limit = 7

-- the attacker's moves and the defender's between them
abbrev pub plies_limit : ℕ
plies_limit = 2 * aim_limit - 1

-- no position has more legal moves
abbrev pub moves_limit : ℕ
moves_limit = 415
