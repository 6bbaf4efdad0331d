use Rattle.std.proofs.Common.{refl}
use Rattle.table.specs.Numbers.{capped}
use Rattle.tester.proofs.Single.{one_way_lem}
use Rattle.chess.specs.Laws.{chess_rules_hold}
use Rattle.othello.specs.Lawful.{lawful}
use Rattle.diagrams.proofs.Chess.{chess_diagrams}
use Rattle.diagrams.proofs.Othello.{othello_diagrams, with_none, with_newest, four, three, two, twice}
use Rattle.diagrams.proofs.diagrams_stand.Goals as goal

pub returns-clause-chess : goal.returns-clause-chess
returns-clause-chess g c = chess_diagrams _ g.T.Table (one_way_lem _ g.T.Table chess_rules_hold) (λ x aim. refl)

pub returns-clause-othello : goal.returns-clause-othello
returns-clause-othello g c = othello_diagrams _ g.T.Table (one_way_lem _ g.T.Table lawful) (λ x aim. refl)

pub returns-clause-none : goal.returns-clause-none
returns-clause-none g c = with_none _ _ (one_way_lem _ _ lawful) (λ x. four) (λ x. three) (λ x. two)

pub returns-clause-newest : goal.returns-clause-newest
returns-clause-newest g c = with_newest _ _ (one_way_lem _ _ lawful) (λ x. twice)

pub returns-clause-sum : goal.returns-clause-sum
unfolding capped
returns-clause-sum g c = refl
