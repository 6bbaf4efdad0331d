-- The chess diagrams, computed.
use Rattle.std.proofs.Common.{◌≡◌, ℕ, ◌-◌, ◌*◌, ◌≤◌, Bool, true, false, cond, ◌&&◌, nat_le, List, [], ◌∷◌, get_or, Ok, codes, refl, ap, ap₂, ◌∙◌, lit≤}
use Rattle.std.proofs.lemmas.Bool.{le-leb}
use Rattle.board.specs.Masks.{member}
use Rattle.form.specs.Forms.{reading_from, reading}
use Rattle.game.specs.Tree.{Tree, position, refused, state, code}
use Rattle.game.specs.States.{word}
use Rattle.game.specs.declared.decline.Decline.TheVariants as causes
use Rattle.game.specs.declared.game.Game as game
use Rattle.game.specs.declared.state.State.{State}
use Rattle.game.specs.declared.state.State.TheVariants.{Won, NotWon}
use Rattle.table.specs.declared.Table as table
use Rattle.table.specs.Storings.{Storing}
use Rattle.search_laws.specs.declared.answer.Verdict.TheVariants as verdicts
use Rattle.diagrams.proofs.Ended.{answer}
use Rattle.search_laws.specs.Trial.{Trial, at_once, known_as}
use Rattle.solution_laws.specs.Lines.{Line}
use Rattle.solution_laws.specs.Solution.{chosen_line, other_line}
use Rattle.chess_attacks.specs.Lists.{line, lines, leaps, attackers, attacked, checked}
use Rattle.chess_moves.specs.declared.diagram.Diagram.{Diagram}
use Rattle.chess_moves.specs.After.{after}
use Rattle.chess_moves.specs.Moves.{one, tries, moves_to, moves_from}
use Rattle.chess_moves.specs.Count.{tally}
use Rattle.chess_rules.specs.Lawful.{pawns_inner, rules_kept, lawful}
use Rattle.chess_text.specs.Letters.{man_of, side_of, run_of, file_of}
use Rattle.chess_text.specs.Reading.{empty, form}
use Rattle.chess.specs.Limits.{aim_limit}
use Rattle.chess.specs.Trees.{tree, state_of}
use Rattle.chess.specs.Setting.{judged, reading_of}
use Rattle.diagrams.specs.Chess.{one_key_text, one_key, one_key_tree, four_keys_text, four_keys, four_keys_tree, stalemate_text, stalemate, stalemate_tree, ChessDiagrams}
use Rattle.tester.specs.Claims.{OneWay}
use Rattle.diagrams.specs.Outcomes.{Sets}
use Rattle.diagrams.proofs.Outcomes.{sets_up, turns_down, tried, written}
use Rattle.diagrams.proofs.Solved.{Shows, count, state_after, accepts, solved}

-- what is set up of a text that says a lawful diagram
set_up : (x : List ℕ) (aim : ℕ) (d : Diagram) → (nat_le 1 aim && nat_le aim aim_limit) ≡ true → reading form x ≡ Ok d → lawful d ≡ true →
    reading_of x aim ≡ position (tree d.mover (2 * aim - 1) d)
set_up x aim d a r k =
    ap (λ (v : Bool). cond v (judged aim (reading form x)) (refused 7 0)) a ∙ ap (judged aim) r
    ∙ ap (λ (v : Bool). cond v (position (tree d.mover (2 * aim - 1) d)) (refused 9 0)) k

-- what the texts say

one_key_read : reading form one_key_text ≡ Ok one_key
unfolding reading_from man_of side_of run_of file_of empty
one_key_read = refl

one_key_lawful : lawful one_key ≡ true
unfolding lawful rules_kept pawns_inner tally checked attacked attackers lines line leaps member
one_key_lawful = refl

four_keys_read : reading form four_keys_text ≡ Ok four_keys
unfolding reading_from man_of side_of run_of file_of empty
four_keys_read = refl

four_keys_lawful : lawful four_keys ≡ true
unfolding lawful rules_kept pawns_inner tally checked attacked attackers lines line leaps member
four_keys_lawful = refl

stalemate_read : reading form stalemate_text ≡ Ok stalemate
unfolding reading_from man_of side_of run_of file_of empty
stalemate_read = refl

stalemate_lawful : lawful stalemate ≡ true
unfolding lawful rules_kept pawns_inner tally checked attacked attackers lines line leaps member
stalemate_lawful = refl

-- one key

abbrev one_key_states : List State
one_key_states =
    NotWon ∷ NotWon ∷ NotWon ∷ NotWon ∷ NotWon ∷ NotWon ∷ NotWon ∷ NotWon ∷ NotWon ∷ NotWon ∷ NotWon ∷ Won ∷ NotWon ∷ NotWon ∷ NotWon ∷ NotWon ∷ NotWon ∷ []

abbrev one_key_words : List (List ℕ)
one_key_words = codes "a1b1 " ∷ codes "a1c1 " ∷ codes "a1d1 " ∷ codes "a1e1 " ∷ codes "a1f1 " ∷ codes "a1a2 " ∷ codes "a1a3 " ∷ codes "a1a4 " ∷ codes "a1a5 " ∷ codes "a1a6 " ∷ codes "a1a7 " ∷ codes "a1a8 " ∷ codes "g1f1 " ∷ codes "g1h1 " ∷ codes "g1f2 " ∷ codes "g1g2 " ∷ codes "g1h2 " ∷ []

one_key_shows : Shows one_key_tree one_key_states one_key_words
unfolding tree state_of moves_from moves_to tries one after checked attacked attackers lines line leaps member
one_key_shows = (refl, refl, refl)

abbrev pub one_key_lines : List Line
one_key_lines = chosen_line 1 (codes "a1a8 ") ∷ []

-- four keys

abbrev four_keys_states : List State
four_keys_states =
    NotWon ∷ NotWon ∷ NotWon ∷ NotWon ∷ NotWon ∷ NotWon ∷ NotWon ∷ NotWon ∷ NotWon ∷ NotWon ∷ Won ∷ NotWon ∷ NotWon ∷ NotWon ∷ NotWon ∷ NotWon ∷ NotWon ∷ Won ∷ Won ∷ NotWon ∷ Won ∷ NotWon ∷ NotWon ∷ NotWon ∷ NotWon ∷ NotWon ∷ []

abbrev four_keys_words : List (List ℕ)
four_keys_words = codes "g6b1 " ∷ codes "g6g1 " ∷ codes "g6c2 " ∷ codes "g6g2 " ∷ codes "g6d3 " ∷ codes "g6g3 " ∷ codes "g6e4 " ∷ codes "g6g4 " ∷ codes "g6f5 " ∷ codes "g6g5 " ∷ codes "g6h5 " ∷ codes "g6a6 " ∷ codes "g6b6 " ∷ codes "g6c6 " ∷ codes "g6d6 " ∷ codes "g6e6 " ∷ codes "g6f6 " ∷ codes "g6h6 " ∷ codes "g6g7 " ∷ codes "g6h7 " ∷ codes "g6g8 " ∷ codes "f7e6 " ∷ codes "f7f6 " ∷ codes "f7e7 " ∷ codes "f7e8 " ∷ codes "f7f8 " ∷ []

four_keys_shows : Shows four_keys_tree four_keys_states four_keys_words
unfolding tree state_of moves_from moves_to tries one after checked attacked attackers lines line leaps member
four_keys_shows = (refl, refl, refl)

abbrev pub four_keys_lines : List Line
four_keys_lines =
    chosen_line 1 (codes "g6g7 ") ∷ other_line 1 (codes "g6h5 ") ∷ other_line 1 (codes "g6h6 ") ∷ other_line 1 (codes "g6g8 ") ∷ []

-- a stalemate

stalemate_ends : state stalemate_tree ≡ NotWon
unfolding tree state_of moves_from moves_to tries one after checked attacked attackers lines line leaps member
stalemate_ends = refl

-- a trial of a position that has ended, and is not won
ended_trial : (S : Storing) (standing : S.Standing) (t : Tree) (b : ℕ) → state t ≡ NotWon → Trial S standing t b (answer verdicts.NotWon 0 0) standing
ended_trial S standing t b e = at_once {w = false} (ap (λ (v : State). known_as v (S.shows standing (code t))) e) refl

-- an empty text

departs_at_once : (aim : ℕ) → judged aim (reading form []) ≡ refused 8 0
unfolding reading_from
departs_at_once aim = refl

empty_text : (aim : ℕ) → 1 ≤ aim → aim ≤ 7 → reading_of [] aim ≡ refused 8 0
empty_text aim some few =
    ap₂ (λ (x y : Bool). cond (x && y) (judged aim (reading form [])) (refused 7 0)) (le-leb 1 aim some) (le-leb aim 7 few) ∙ departs_at_once aim

module _ {G T : Type 0} (g : game.Ghosts G) (h : table.Ghosts T) (one_way : OneWay g h) (reads : (x : List ℕ) (aim : ℕ) → g.reading x aim ≡ reading_of x aim) where
  taken : (x : List ℕ) (aim : ℕ) (d : Diagram) → (nat_le 1 aim && nat_le aim aim_limit) ≡ true → reading form x ≡ Ok d → lawful d ≡ true →
      Sets g h x aim (tree d.mover (2 * aim - 1) d)
  taken x aim d a r k = sets_up g h x aim _ (reads x aim ∙ set_up x aim d a r k)

  pub chess_diagrams : ChessDiagrams g h
  chess_diagrams = record {
    one_key_set = taken one_key_text 1 one_key refl one_key_read one_key_lawful;
    one_key_count = count one_key_tree one_key_states one_key_words one_key_shows;
    one_key_move = ap (λ (xs : List (List ℕ)). get_or xs 11 []) one_key_shows.2;
    one_key_mates = ap word (state_after one_key_tree 11 one_key_states one_key_words one_key_shows);
    one_key_solved =
        written g h one_way one_key_tree 11 one_key_lines (codes "01!a1a8 ") (accepts one_key_tree 11 one_key_states one_key_words one_key_shows refl)
        (solved h.storing one_key_tree 11 one_key_states one_key_words one_key_lines one_key_shows refl refl refl refl (lit≤ tt)) (λ before. refl);
    four_keys_set = taken four_keys_text 1 four_keys refl four_keys_read four_keys_lawful;
    four_keys_move = ap (λ (xs : List (List ℕ)). get_or xs 18 []) four_keys_shows.2;
    four_keys_solved =
        written g h one_way four_keys_tree 18 four_keys_lines (codes "01!g6g7 01+g6h5 01+g6h6 01+g6g8 ") (accepts four_keys_tree 18 four_keys_states four_keys_words four_keys_shows refl)
        (solved h.storing four_keys_tree 18 four_keys_states four_keys_words four_keys_lines four_keys_shows refl refl refl refl (lit≤ tt)) (λ before. refl);
    stalemate_set = taken stalemate_text 1 stalemate refl stalemate_read stalemate_lawful;
    stalemate_ended = ap word stalemate_ends;
    stalemate_tried = λ s b e within.
        tried g h one_way s b (answer verdicts.NotWon 0 0) s.standing (λ s'. s' ≡ s) within (ended_trial h.storing s.standing s.current b (ap state e ∙ stalemate_ends)) refl;
    aim_of_seven = taken one_key_text 7 one_key refl one_key_read one_key_lawful;
    aim_of_eight = turns_down g h one_key_text 8 causes.Aim 0 (reads one_key_text 8);
    aim_of_zero = turns_down g h one_key_text 0 causes.Aim 0 (reads one_key_text 0);
    empty_text = λ aim some few. turns_down g h [] aim causes.Form 0 (reads [] aim ∙ empty_text aim some few);
  }
