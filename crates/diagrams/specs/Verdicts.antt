-- Trials' verdicts in the words of the games: whether the attacker mates within the plies left, and whether it forces its margin.
use Rattle.std.specs.Prelude.{◌≡◌, ℕ, codes}
use Rattle.game.specs.declared.game.Game as game
use Rattle.table.specs.declared.Table as table
use Rattle.chess_attacks.specs.declared.men.Side as chess_side
use Rattle.chess_moves.specs.declared.diagram.Diagram as chess_diagram
use Rattle.chess_rules.specs.Lawful.{Lawful}
use Rattle.chess.specs.Mates.{Mates}
use Rattle.chess.specs.Trees as chess
use Rattle.othello_rules.specs.declared.side.Side as othello_side
use Rattle.othello_rules.specs.declared.diagram.Diagram as othello_diagram
use Rattle.othello.specs.Forcing.{Forces}
use Rattle.othello.specs.Endings as othello
use Rattle.search_laws.specs.declared.answer.Answer.{Answer}
use Rattle.search_laws.specs.Words.{word}
use Rattle.tester.specs.Calls.{Stand}
use Rattle.tester.specs.Claims.{TrialRight}

-- From a stand at a chess position, a trial that is right says won only where the attacker mates within the plies left, and not-won only where
-- it does not. That every trial is right is `of_trial` of the `Right` that `Tester::trial` promises, from wherever a tester stands.
abbrev pub VerdictsAreMates : {G T : Type 0} → game.Ghosts G → table.Ghosts T → Type 0
VerdictsAreMates g h =
    (s : Stand h) (a : chess_side.Side) (n : ℕ) (d : chess_diagram.Diagram) (b : ℕ) (answer : Answer) →
    s.current ≡ chess.tree a n d → Lawful d → TrialRight g h s b answer →
    (word answer.verdict ≡ codes "won" → Mates a n d) × (word answer.verdict ≡ codes "not-won" → Mates a n d → ⊥)

-- Likewise, from a stand at an Othello position, it says won only where the attacker forces its margin, and not-won only where it does not.
abbrev pub VerdictsAreMargins : {G T : Type 0} → game.Ghosts G → table.Ghosts T → Type 0
VerdictsAreMargins g h =
    (s : Stand h) (a : othello_side.Side) (aim : ℕ) (d : othello_diagram.Diagram) (b : ℕ) (answer : Answer) →
    s.current ≡ othello.tree a aim d → TrialRight g h s b answer →
    (word answer.verdict ≡ codes "won" → Forces a aim d) × (word answer.verdict ≡ codes "not-won" → Forces a aim d → ⊥)
