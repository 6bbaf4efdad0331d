-- The Othello diagrams, computed.
use Rattle.std.proofs.Common.{◌≡◌, ℕ, ◌≤◌, Bool, true, cond, List, [], ◌∷◌, map, codes, sym, refl, ap, ◌∙◌, subst, arith, lit<, lit≤}
use Rattle.std.proofs.lemmas.Bool.{le-ltb}
use Rattle.board.specs.Masks.{bit, member, word, size}
use Rattle.form.specs.Forms.{reading_from, reading as said}
use Rattle.game.specs.Tree.{Tree, node, none, move, position, refused, next, minimax, some_won, all_won}
use Rattle.game.specs.declared.decline.Decline.TheVariants as causes
use Rattle.game.specs.declared.game.Game as game
use Rattle.game.specs.declared.state.State.{State}
use Rattle.game.specs.declared.state.State.TheVariants.{Won, NotWon, Attacker, Defender}
use Rattle.table.specs.declared.Table as table
use Rattle.table.specs.Numbers.{capped}
use Rattle.table.specs.Pairs.{Shown, nothing, not_won}
use Rattle.table.specs.Slots.{turned, mixed, slot_of}
use Rattle.table.specs.Policies.{none_storing, newest_storing}
use Rattle.search_laws.specs.declared.answer.Answer.{Answer}
use Rattle.search_laws.specs.declared.answer.Verdict.TheVariants as verdicts
use Rattle.diagrams.proofs.Ended.{answer}
use Rattle.search_laws.specs.Run.{stopped, gave}
use Rattle.search_laws.specs.Trial.{Trial, need, until_won, until_not_won, at_once, by_the_run, by_the_search, spent}
use Rattle.search_laws.specs.Words.{word as word_of}
use Rattle.search_laws.proofs.Evaluating.{entered_after}
use Rattle.solution_laws.specs.Lines.{Line}
use Rattle.solution_laws.specs.Solution.{chosen_line}
use Rattle.othello_rules.specs.Rules as rules
use Rattle.othello_rules.specs.Rules.{run, after, begins, flipped, any, legal}
use Rattle.othello_rules.specs.Diagrams.{empties, placements}
use Rattle.othello_rules.specs.Reading.{form}
use Rattle.othello_rules.specs.declared.side.Side.TheVariants.{X}
use Rattle.othello.specs.Endings.{moves_of, state_of, rank_of, grown, tree}
use Rattle.othello.specs.Setting.{reading_of, reading}
use Rattle.tester.specs.Calls.{Stand}
use Rattle.tester.specs.Claims.{OneWay}
use Rattle.diagrams.specs.Outcomes.{Sets, Tries}
use Rattle.diagrams.specs.Othello.{first_empty, first_empty_text, to_place_text, to_place, to_pass_text, to_pass, AtPass, OthelloDiagrams, TrialsWithNone, TrialsWithNewest}
use Rattle.diagrams.proofs.Outcomes.{sets_up, turns_down, tried, written}
use Rattle.diagrams.proofs.Solved.{Shows, accepts, solved}

-- X places on a1, and every square is X's
abbrev placing : Tree
placing = node Attacker 2 (18446744073709551612 ∷ 2 ∷ 0 ∷ 0 ∷ 64 ∷ []) (move (codes "a1   ") (node Won 0 (18446744073709551615 ∷ 0 ∷ 1 ∷ 0 ∷ 64 ∷ []) none) none)

placing_is : to_place ≡ placing
unfolding tree grown rank_of state_of moves_of empties placements legal flipped rules.turned run after begins any bit member word size
placing_is = refl

-- O passes, X places on a1, and every square is X's
abbrev pub passing : Tree
passing =
    node Attacker 3 (18446744073709551612 ∷ 2 ∷ 1 ∷ 1 ∷ 0 ∷ [])
    (move (codes "pass ")
    (node Defender 2 (18446744073709551612 ∷ 2 ∷ 0 ∷ 1 ∷ 0 ∷ [])
    (move (codes "a1   ") (node NotWon 0 (18446744073709551615 ∷ 0 ∷ 1 ∷ 1 ∷ 0 ∷ []) none) none)) none)

pub passing_is : to_pass ≡ passing
unfolding tree grown rank_of state_of moves_of empties placements legal flipped rules.turned run after begins any bit member word size
passing_is = refl

-- what the texts set up, and what is declined

to_place_set : reading to_place_text 64 ≡ position to_place
unfolding reading_from empties size bit
to_place_set = refl

to_pass_set : reading to_pass_text 0 ≡ position to_pass
unfolding reading_from empties size bit
to_pass_set = refl

fourteen_empty : reading (first_empty_text 14) 0 ≡ position (tree X 0 (first_empty 14))
unfolding reading_from empties size bit
fourteen_empty = refl

fifteen_empty : reading (first_empty_text 15) 0 ≡ refused 10 0
unfolding reading_from empties size bit
fifteen_empty = refl

departs_at_once : (aim : ℕ) → reading_of (said form []) aim ≡ refused 8 0
unfolding reading_from
departs_at_once aim = refl

empty_text : (aim : ℕ) → aim ≤ 64 → reading [] aim ≡ refused 8 0
empty_text aim few = ap (λ (x : Bool). cond x (refused 7 0) (reading_of (said form []) aim)) (le-ltb 64 aim few) ∙ departs_at_once aim

-- the key

only_key : map minimax (next placing) ≡ true ∷ []
unfolding minimax some_won all_won
only_key = refl

abbrev key_states : List State
key_states = Won ∷ []

abbrev key_words : List (List ℕ)
key_words = codes "a1   " ∷ []

key_shows : Shows to_place key_states key_words
key_shows = subst (λ (t : Tree). Shows t key_states key_words) (sym placing_is) (refl, refl, refl)

abbrev key_lines : List Line
key_lines = chosen_line 1 (codes "a1   ") ∷ []

module _ {G T : Type 0} (g : game.Ghosts G) (h : table.Ghosts T) (one_way : OneWay g h) (reads : (x : List ℕ) (aim : ℕ) → g.reading x aim ≡ reading x aim) where
  taken : (x : List ℕ) (aim : ℕ) (t : Tree) → reading x aim ≡ position t → Sets g h x aim t
  taken x aim t e = sets_up g h x aim t (reads x aim ∙ e)

  pub othello_diagrams : OthelloDiagrams g h
  othello_diagrams = record {
    to_place_set = taken to_place_text 64 to_place to_place_set;
    only_move = key_shows.2;
    only_key = ap (λ (t : Tree). map minimax (next t)) placing_is ∙ only_key;
    to_place_solved =
        written g h one_way to_place 0 key_lines (codes "01!a1   ") (accepts to_place 0 key_states key_words key_shows refl)
        (solved h.storing to_place 0 key_states key_words key_lines key_shows refl refl refl refl (lit≤ tt)) (λ before. refl);
    to_pass_set = taken to_pass_text 0 to_pass to_pass_set;
    aim_of_65 = turns_down g h to_place_text 65 causes.Aim 0 (reads to_place_text 65);
    fourteen_empty = taken (first_empty_text 14) 0 (tree X 0 (first_empty 14)) fourteen_empty;
    fifteen_empty = turns_down g h (first_empty_text 15) 0 causes.Empties 0 (reads (first_empty_text 15) 0 ∙ fifteen_empty);
    empty_text = λ aim few. turns_down g h [] aim causes.Form 0 (reads [] aim ∙ empty_text aim few);
  }

-- the trials, given those of the table

abbrev not_won_after : ℕ → ℕ → Answer
not_won_after = answer verdicts.NotWon

module _ {G T : Type 0} (g : game.Ghosts G) (h : table.Ghosts T) (one_way : OneWay g h) where
  -- a trial that leaves the table standing where it does
  from : (s : Stand h) (b : ℕ) (a : Answer) (y : h.storing.Standing) (P : Stand h → Type 0) → AtPass s → b ≤ 4 → Trial h.storing s.standing to_pass b a y →
      P (record { current = s.current; earlier = s.earlier; standing = y }) → Tries g h s b (word_of a.verdict) a.expansions a.entries P
  from s b a y P e few t p =
      tried g h one_way s b a y P (omega (arith, few)) (subst (λ (u : Tree). Trial h.storing s.standing u b a y) (sym e) t) p

  pub with_none : ((x : h.storing.Standing) → Trial h.storing x to_pass 4 (not_won_after 2 0) x) → ((x : h.storing.Standing) → Trial h.storing x to_pass 3 (not_won_after 1 2) x)
      → ((x : h.storing.Standing) → Trial h.storing x to_pass 2 (answer verdicts.Spent 1 1) x) → TrialsWithNone g h
  with_none four three two = record {
    four = λ s e. from s 4 (not_won_after 2 0) s.standing (λ s'. Unit {0}) e (lit≤ tt) (four s.standing) tt;
    three = λ s e. from s 3 (not_won_after 1 2) s.standing (λ s'. Unit {0}) e (lit≤ tt) (three s.standing) tt;
    two = λ s e. from s 2 (answer verdicts.Spent 1 1) s.standing (λ s'. Unit {0}) e (lit≤ tt) (two s.standing) tt;
  }

  pub with_newest : ((x : h.storing.Standing) → (y : h.storing.Standing) × Trial h.storing (h.storing.cleared x) to_pass 4 (not_won_after 2 0) y × Trial h.storing y to_pass 4 (not_won_after 0 0) y)
      → TrialsWithNewest g h
  with_newest twice = record {
    twice = λ s before e c.
        let z = twice before in
        let first : Trial h.storing s.standing to_pass 4 (not_won_after 2 0) z.0 = subst (λ (x : h.storing.Standing). Trial h.storing x to_pass 4 (not_won_after 2 0) z.0) (sym c) z.1 in
        let s' : Stand h = record { current = s.current; earlier = s.earlier; standing = z.0 } in
        from s 4 (not_won_after 2 0) z.0 (λ s'. Tries g h s' 4 (codes "not-won") 0 0 (λ s''. s'' ≡ s')) e (lit≤ tt) first
        (from s' 4 (not_won_after 0 0) z.0 (λ s''. s'' ≡ s') e (lit≤ tt) z.2 refl);
  }

-- the trials of the two tables

pub four : Trial none_storing tt to_pass 4 (not_won_after 2 0) tt
unfolding capped
four = subst (λ (t : Tree). Trial none_storing tt t 4 (not_won_after 2 0) tt) (sym passing_is) (by_the_run refl (entered_after none_storing 40 tt 2 passing (gave _ 0 not_won) refl) refl refl)

pub three : Trial none_storing tt to_pass 3 (not_won_after 1 2) tt
unfolding capped minimax some_won all_won need until_won until_not_won
three = subst (λ (t : Tree). Trial none_storing tt t 3 (not_won_after 1 2) tt) (sym passing_is) (by_the_search refl (entered_after none_storing 40 tt 1 passing (stopped _) refl) (lit≤ tt) refl)

pub two : Trial none_storing tt to_pass 2 (answer verdicts.Spent 1 1) tt
unfolding capped minimax some_won all_won need until_won until_not_won
two = subst (λ (t : Tree). Trial none_storing tt t 2 (answer verdicts.Spent 1 1) tt) (sym passing_is) (spent refl (entered_after none_storing 40 tt 1 passing (stopped _) refl) (lit< tt) refl)

abbrev Twice : Tree → Type 0
Twice t = (y : Shown) × Trial newest_storing nothing t 4 (not_won_after 2 0) y × Trial newest_storing y t 4 (not_won_after 0 0) y

pub twice : Twice to_pass
unfolding capped turned mixed slot_of
twice = subst Twice (sym passing_is) (_, by_the_run refl (entered_after newest_storing 40 nothing 2 passing (gave _ 0 not_won) refl) refl refl, at_once refl refl)
