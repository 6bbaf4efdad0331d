-- What the reading rule says of a text is what the text means.
use Rattle.std.proofs.Common.{◌≡◌, ℕ, zero, suc, ◌+◌, ◌-◌, ◌*◌, ◌<◌, Bool, true, false, cond, ◌&&◌, leb, List, length, get_or, take, Some, None, Ok, Err, Option, Result, MatchResult, sym, refl, ap, ◌∙◌, subst, zero-add, arith}
use Rattle.std.proofs.Math.Seq.{take-suc}
use Rattle.std.proofs.lemmas.Bool.{and_parts, leb-true, false≢true}
use Rattle.std.proofs.lemmas.Bool.Decides.{nat_tests}
use Rattle.std.proofs.lemmas.List.{take_all}
use Rattle.form.specs.Forms.{Departs, Form, Lively, Says, TextsOf, led, reading}
use Rattle.form.proofs.Departing.{led-more, stopped, departs_at, read_end, read_so}
use Rattle.game.specs.Tree.{Tree, Reading, position, refused}
use Rattle.chess_moves.specs.declared.diagram.Diagram.{Diagram}
use Rattle.chess_rules.specs.Lawful.{lawful}
use Rattle.chess_rules.proofs.Tested.{lawful_means}
use Rattle.chess_text.specs.Diagrams.{Stands, Texts}
use Rattle.chess_text.specs.Reading.{form, IsFit}
use Rattle.chess_text.specs.Steps.{lively}
use Rattle.chess_text.proofs.Meaning.{stands, says}
use Rattle.chess.specs.Limits.{aim_limit}
use Rattle.chess.specs.Trees.{tree}
use Rattle.chess.specs.Setting.{judged, reading_of, Aims, Refuses, no_aim, no_text, no_position, SetsTree, Means, ReadingMeans}
use Rattle.chess.proofs.Set.{aim_set, diagram_set, not-lawful}

-- what reading gives of a text: what it says, or where it departs from the form
module _ {S A : Type 0} (f : Form S A) (Fit : S → Type 0) (l : Lively f Fit) (t : List ℕ) where
  abbrev Given : Result A ℕ → Type 0
  Given r = MatchResult r (λ a. Says f t a) (λ n. Departs (TextsOf f) t n)

  -- from the state that the first i bytes lead to, with m bytes to come
  from : (m i : ℕ) (s : S) → i + m ≡ length t → led f f.first (take i t) ≡ Some s → Fit s → Given (reading f t)
  from zero i s q e h =
      let whole : take i t ≡ t = take_all i t (omega arith) in
      let r = read_end f Fit l t s (subst (λ (x : List ℕ). led f f.first x ≡ Some s) whole e) h (f.content s) refl in
      subst Given r.0 r.1
  from (suc m) i s q e h = go (λ u. from m (suc i) u (omega arith)) (f.next s (get_or t i 0)) refl
    where
      inside : i < length t
      inside = omega arith

      go : ((u : S) → led f f.first (take (suc i) t) ≡ Some u → Fit u → Given (reading f t)) → (o : Option S) → f.next s (get_or t i 0) ≡ o → Given (reading f t)
      go on None z = subst Given (sym (stopped f 0 f.first t s i e inside z ∙ ap Err (zero-add i))) (departs_at f Fit l t i s e h inside z)
      go on (Some u) z =
          on u (ap (led f f.first) (take-suc t i 0 inside) ∙ (led-more f f.first s (take i t) (get_or t i 0) e ∙ z))
          (l.next_fits s (get_or t i 0) u h z)

  pub gives : Given (reading f t)
  unfolding led
  gives = from (length t) 0 f.first (zero-add (length t)) refl l.first_fits

module _ (t : List ℕ) (aim : ℕ) where
  -- what the diagram form gives of the text
  abbrev Read : Result Diagram ℕ → Type 0
  Read r = MatchResult r (λ d. Stands t d) (λ n. Departs Texts t n) × ((d : Diagram) → Stands t d → r ≡ Ok d) × ((n : ℕ) → Departs Texts t n → r ≡ Err n)

  read : Read (reading form t)
  read = read_so form Stands stands says t (reading form t) refl (gives form IsFit lively t)

  -- what is said of the text is meant
  said : Means t aim (reading_of t aim)
  said = by_aim (leb 1 aim && leb aim aim_limit) refl
    where
      by_law : (a : Aims aim) (d : Diagram) → Stands t d → (x : Bool) → lawful d ≡ x → Means t aim (cond x (position (tree d.mover (2 * aim - 1) d)) (refused 9 0))
      by_law a d s true e = let some = a.some in record {
        aims = a;
        diagram = d;
        stands = s;
        keeps = (lawful_means d).0 e;
        plies = 2 * aim - 1;
        left = omega arith;
        is = refl;
      }
      by_law a d s false e = no_position a d s (λ k. false≢true (sym e ∙ (lawful_means d).1 k))

      by_text : (a : Aims aim) (r : Result Diagram ℕ) → MatchResult r (λ d. Stands t d) (λ n. Departs Texts t n) → Means t aim (judged aim r)
      by_text a (Ok d) s = by_law a d s (lawful d) refl
      by_text a (Err n) p = no_text a n p

      by_aim : (x : Bool) → (leb 1 aim && leb aim aim_limit) ≡ x → Means t aim (cond x (judged aim (reading form t)) (refused 7 0))
      by_aim true e =
          let p = and_parts (leb 1 aim) (leb aim aim_limit) e in
          by_text (record { some = leb-true 1 aim p.0; few = leb-true aim aim_limit p.1 }) (reading form t) read.0
      by_aim false e = no_aim (λ a. let h = a.some in let k = a.few in let z : (leb 1 aim && leb aim aim_limit) ≡ true = grind (arith, nat_tests) in false≢true (sym e ∙ z))

  aim_refused : (Aims aim → ⊥) → (x : Bool) → (leb 1 aim && leb aim aim_limit) ≡ x → reading_of t aim ≡ refused 7 0
  aim_refused n true e =
      let p = and_parts (leb 1 aim) (leb aim aim_limit) e in
      absurd (n (record { some = leb-true 1 aim p.0; few = leb-true aim aim_limit p.1 }))
  aim_refused n false e = ap (λ (x : Bool). cond x (judged aim (reading form t)) (refused 7 0)) e

  -- what is meant is said
  refuses : (n k : ℕ) → Refuses t aim n k → reading_of t aim ≡ refused n k
  refuses n k (no_aim h) = aim_refused h (leb 1 aim && leb aim aim_limit) refl
  refuses n k (no_text a m p) = aim_set t aim a (Err m) (sym (read.2 m p))
  refuses n k (no_position a d s h) = diagram_set t aim a d false (sym (read.1 d s)) (not-lawful d h)

  sets : (u : Tree) → SetsTree t aim u → reading_of t aim ≡ position u
  sets u s =
      let some = s.aims.some in
      let left = s.left in
      let plies : 2 * aim - 1 ≡ s.plies = omega arith in
      diagram_set t aim s.aims s.diagram true (sym (read.1 s.diagram s.stands)) (sym ((lawful_means s.diagram).1 s.keeps))
      ∙ (ap (λ (n : ℕ). position (tree s.diagram.mover n s.diagram)) plies ∙ ap position (sym s.is))

  meant : (r : Reading) → Means t aim r → reading_of t aim ≡ r
  meant (position u) s = sets u s
  meant (refused n k) s = refuses n k s

pub means : ReadingMeans reading_of
means t aim r = (λ e. subst (Means t aim) e (said t aim), meant t aim r)
