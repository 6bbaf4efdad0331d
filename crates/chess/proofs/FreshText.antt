-- The position of a fresh game by its text: computed.
use Rattle.std.proofs.Common.{◌≡◌, refl}
use Rattle.board.specs.Masks.{member}
use Rattle.form.specs.Forms.{reading_from}
use Rattle.game.specs.Tree.{position}
use Rattle.chess_attacks.specs.Lists.{line, lines, leaps, attackers, attacked, checked}
use Rattle.chess_moves.specs.Count.{tally}
use Rattle.chess_rules.specs.Lawful.{pawns_inner, rules_kept, lawful}
use Rattle.chess_rules.proofs.Tested.{lawful_means}
use Rattle.chess_text.specs.Letters.{man_of, side_of, run_of, file_of}
use Rattle.chess_text.specs.Reading.{empty}
use Rattle.chess_text.specs.Diagrams.{Stands, cells, row_text, below}
use Rattle.chess.specs.Positions.{two_kings, fresh_tree}
use Rattle.chess.specs.Setting.{reading_of}
use Rattle.chess.specs.First.{first_lawful}
use Rattle.chess.specs.Fresh.{fresh_text, FreshIsItsText}

fresh_stands : Stands fresh_text two_kings
unfolding row_text below cells
fresh_stands = record { sound = record { squares = refl; row = tt }; blanks = 0; text = refl }

fresh_set : reading_of fresh_text 1 ≡ position fresh_tree
unfolding lawful rules_kept pawns_inner tally checked attacked attackers lines line leaps member reading_from man_of side_of run_of file_of empty
fresh_set = refl

pub fresh : FreshIsItsText fresh_tree reading_of
fresh = record { stands = fresh_stands; keeps = (lawful_means two_kings).0 first_lawful; tree = refl; is_set = fresh_set }
