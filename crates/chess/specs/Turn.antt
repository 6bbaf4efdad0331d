-- Whose turn it is by the plies left.
use Rattle.std.specs.Prelude.{◌≡◌, ℕ, ◌%◌, ◌↔◌}
use Rattle.chess_attacks.specs.declared.men.Side.{Side}

-- the plies left are odd exactly when the attacker is to move
abbrev pub AttackersTurn : ℕ → Side → Side → Type 0
AttackersTurn plies mover attacker = (plies % 2 ≡ 1) ↔ (mover ≡ attacker)
