-- Chess diagrams: two mates in one, with what a solution writes, wherever the table stands and whatever the budget is; a stalemate; and aims
-- and texts that are taken and declined.
use Rattle.std.specs.Prelude.{◌≡◌, ℕ, ◌≤◌, List, [], length, replicate, Some, None, codes, slice_index_or, slice_set}
use Rattle.game.specs.Tree.{Tree, state, nowhere, next, words}
use Rattle.game.specs.States.{word}
use Rattle.game.specs.declared.game.Game as game
use Rattle.table.specs.declared.Table as table
use Rattle.search_laws.specs.Calls.{budget_limit}
use Rattle.chess_attacks.specs.Men.{Squares}
use Rattle.chess_attacks.specs.declared.men.Kind.{Kind}
use Rattle.chess_attacks.specs.declared.men.Kind.TheVariants.{King, Queen, Rook, Pawn}
use Rattle.chess_attacks.specs.declared.men.Side.{Side}
use Rattle.chess_attacks.specs.declared.men.Side.TheVariants.{White, Black}
use Rattle.chess_moves.specs.declared.diagram.Diagram.{Diagram}
use Rattle.chess.specs.Trees.{tree}
use Rattle.tester.specs.Calls.{Stand}
use Rattle.diagrams.specs.Outcomes.{Sets, Declines, Tries, Writes}

abbrev pub with : Squares → ℕ → Side → Kind → Squares
with b s a k = slice_set b s (Some (record { side = a; kind = k }))

abbrev pub no_man : Squares
no_man = replicate 64 None

-- the text of each diagram, and the diagram

abbrev pub one_key_text : List ℕ
one_key_text = codes "6k1/5ppp/8/8/8/8/8/R5K1 w - -"

abbrev pub one_key : Diagram
one_key = record {
  board = with (with (with (with (with (with no_man 0 White Rook) 6 White King) 53 Black Pawn) 54 Black Pawn) 55 Black Pawn) 62 Black King;
  mover = White;
  passing = None;
}

abbrev pub four_keys_text : List ℕ
four_keys_text = codes "7k/5K2/6Q1/8/8/8/8/8 w - -"

abbrev pub four_keys : Diagram
four_keys = record { board = with (with (with no_man 63 Black King) 53 White King) 46 White Queen; mover = White; passing = None }

abbrev pub stalemate_text : List ℕ
stalemate_text = codes "7k/5Q2/6K1/8/8/8/8/8 b - -"

abbrev pub stalemate : Diagram
stalemate = record { board = with (with (with no_man 63 Black King) 53 White Queen) 46 White King; mover = Black; passing = None }

-- each with the side to move to mate in one: one ply is left
abbrev pub one_key_tree : Tree
one_key_tree = tree White 1 one_key

abbrev pub four_keys_tree : Tree
four_keys_tree = tree White 1 four_keys

abbrev pub stalemate_tree : Tree
stalemate_tree = tree Black 1 stalemate

pub record ChessDiagrams {G T : Type 0} (g : game.Ghosts G) (h : table.Ghosts T) : Type 0 where
  -- one key
  pub one_key_set : Sets g h one_key_text 1 one_key_tree
  pub one_key_count : length (next one_key_tree) ≡ 17
  pub one_key_move : slice_index_or (words one_key_tree) 11 [] ≡ codes "a1a8 "
  pub one_key_mates : word (state (slice_index_or (next one_key_tree) 11 nowhere)) ≡ codes "won"
  pub one_key_solved : Writes g h one_key_tree 11 (codes "01!a1a8 ") 1 1 0 0
  -- four keys
  pub four_keys_set : Sets g h four_keys_text 1 four_keys_tree
  pub four_keys_move : slice_index_or (words four_keys_tree) 18 [] ≡ codes "g6g7 "
  pub four_keys_solved : Writes g h four_keys_tree 18 (codes "01!g6g7 01+g6h5 01+g6h6 01+g6g8 ") 4 4 0 0
  -- a stalemate has ended, and is not won; so a trial answers at once
  pub stalemate_set : Sets g h stalemate_text 1 stalemate_tree
  pub stalemate_ended : word (state stalemate_tree) ≡ codes "not-won"
  pub stalemate_tried : (s : Stand h) (b : ℕ) → s.current ≡ stalemate_tree → b ≤ budget_limit → Tries g h s b (codes "not-won") 0 0 (λ s'. s' ≡ s)
  -- an aim of 7 is taken, and leaves 13 plies; 8 is declined, and so is 0
  pub aim_of_seven : Sets g h one_key_text 7 (tree White 13 one_key)
  pub aim_of_eight : Declines g h one_key_text 8 7 0
  pub aim_of_zero : Declines g h one_key_text 0 7 0
  -- an empty text is declined, under each aim that is taken
  pub empty_text : (aim : ℕ) → 1 ≤ aim → aim ≤ 7 → Declines g h [] aim 8 0
