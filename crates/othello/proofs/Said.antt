-- What the game's reading gives, in the words of texts and positions.
use Rattle.std.proofs.Common.{◌≡◌, ℕ, ◌≤◌, Bool, true, false, cond, List, Ok, Err, Result, MatchResult, refl, ap, ◌∙◌, subst, nat_lt, arith}
use Rattle.std.proofs.lemmas.Bool.{ltb-false, ltb-true}
use Rattle.std.proofs.lemmas.Bool.Decides.{nat_tests}
use Rattle.board.specs.Masks.{bit, size}
use Rattle.form.specs.Forms.{Departs, reading as said}
use Rattle.game.specs.Tree.{Reading, position, refused}
use Rattle.othello_rules.specs.Diagrams.{empties}
use Rattle.othello_rules.specs.Texts.{Stands, Texts, squares}
use Rattle.othello_rules.specs.Reading.{form}
use Rattle.othello_rules.specs.declared.diagram.Diagram.{Diagram}
use Rattle.othello_rules.proofs.Departed.{read_means}
use Rattle.othello.specs.Limits.{aim_limit, empties_limit}
use Rattle.othello.specs.Endings.{tree}
use Rattle.othello.specs.Positions.{full, start}
use Rattle.othello.specs.Setting.{reading_of, reading, no_aim, departs, too_empty, Sets, taken, declined, ReadingSets}
use Rattle.othello.specs.Fresh.{fresh_text, FreshIsItsText}

module _ (t : List ℕ) (aim : ℕ) where
  sets_diagram : aim ≤ aim_limit → (d : Diagram) → Stands t d → (b : Bool) → nat_lt empties_limit (empties d) ≡ b
      → Sets t aim (cond b (refused 10 0) (position (tree d.mover aim d)))
  sets_diagram h d w true e = declined (too_empty d h w (ltb-true empties_limit (empties d) e))
  sets_diagram h d w false e = taken d h w (ltb-false empties_limit (empties d) e)

  sets_read : aim ≤ aim_limit → (r : Result Diagram ℕ) → MatchResult r (λ d. Stands t d) (λ n. Departs Texts t n) → Sets t aim (reading_of r aim)
  sets_read h (Ok d) w = sets_diagram h d w (nat_lt empties_limit (empties d)) refl
  sets_read h (Err n) w = declined (departs n h w)

  sets_aimed : (b : Bool) → nat_lt aim_limit aim ≡ b → Sets t aim (cond b (refused 7 0) (reading_of (said form t) aim))
  sets_aimed true e = declined (no_aim (ltb-true aim_limit aim e))
  sets_aimed false e = sets_read (ltb-false aim_limit aim e) (said form t) (read_means t).0

  sets_so : Sets t aim (reading t aim)
  sets_so = sets_aimed (nat_lt aim_limit aim) refl

  -- an aim within the limit leaves the reading to the text
  aimed : aim ≤ aim_limit → reading t aim ≡ reading_of (said form t) aim
  aimed h = let e : nat_lt aim_limit aim ≡ false = grind (arith, nat_tests) in ap (λ (b : Bool). cond b (refused 7 0) (reading_of (said form t) aim)) e

  by_text : aim ≤ aim_limit → (d : Diagram) → Stands t d → reading t aim ≡ cond (nat_lt empties_limit (empties d)) (refused 10 0) (position (tree d.mover aim d))
  by_text h d w = aimed h ∙ ap (λ (r : Result Diagram ℕ). reading_of r aim) ((read_means t).1 d w)

  sets_one : (r : Reading) → Sets t aim r → reading t aim ≡ r
  sets_one r (taken d h w f) =
      let e : nat_lt empties_limit (empties d) ≡ false = grind (arith, nat_tests) in
      by_text h d w ∙ ap (λ (b : Bool). cond b (refused 10 0) (position (tree d.mover aim d))) e
  sets_one r (declined (no_aim h)) =
      let e : nat_lt aim_limit aim ≡ true = grind (arith, nat_tests) in
      ap (λ (b : Bool). cond b (refused 7 0) (reading_of (said form t) aim)) e
  sets_one r (declined (departs n h w)) = aimed h ∙ ap (λ (r : Result Diagram ℕ). reading_of r aim) ((read_means t).2 n w)
  sets_one r (declined (too_empty d h w f)) =
      let e : nat_lt empties_limit (empties d) ≡ true = grind (arith, nat_tests) in
      by_text h d w ∙ ap (λ (b : Bool). cond b (refused 10 0) (position (tree d.mover aim d))) e

pub reading_sets : ReadingSets reading
reading_sets t aim r = (λ e. subst (Sets t aim) e (sets_so t aim), sets_one t aim r)

-- ---- the fresh game

pub fresh_stands : Stands fresh_text full
unfolding squares bit
fresh_stands = record { sound = record { apart = refl; x_fits = omega arith; o_fits = omega arith }; blanks = 0; text = refl }

full_few : empties full ≤ empties_limit
unfolding empties size bit
full_few = omega arith

pub fresh : FreshIsItsText start reading
fresh = record { stands = fresh_stands; tree = refl; is_set = (reading_sets fresh_text 0 _).1 (taken full (omega arith) fresh_stands full_few) }
