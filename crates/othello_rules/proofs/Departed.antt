-- What reading gives, of every text: the diagram that the text stands for, or the place where it departs from the form.
use Rattle.std.proofs.Common.{◌≡◌, ℕ, ◌+◌, ◌<◌, List, [], ◌∷◌, ◌++◌, length, get_or, take, Some, None, Ok, Err, Option, Result, MatchResult, sym, refl, ap, ◌∙◌, subst, arith}
use Rattle.std.proofs.Math.Seq.{take-append_seam, get_or-append_seam}
use Rattle.std.proofs.lemmas.List.{append_assoc, append-nil, length-append}
use Rattle.form.specs.Forms.{Departs, Form, led, Says, TextsOf, reading, Lively}
use Rattle.form.proofs.Departing.{led-more, stopped, departs_at, read_end, read_so}
use Rattle.othello_rules.specs.Texts.{Stands, Texts}
use Rattle.othello_rules.specs.Reading.{form as rule, IsFit}
use Rattle.othello_rules.specs.Steps.{lively}
use Rattle.othello_rules.specs.declared.diagram.Diagram.{Diagram}
use Rattle.othello_rules.proofs.Meaning.{stands, says}

module _ {S A : Type 0} (f : Form S A) (Fit : S → Type 0) (l : Lively f Fit) where
  abbrev Reads : List ℕ → Type 0
  Reads t = MatchResult (reading f t) (λ a. Says f t a) (λ n. Departs (TextsOf f) t n)

  abbrev By : List ℕ → Result A ℕ → Type 0
  By t r = MatchResult r (λ a. Says f t a) (λ n. Departs (TextsOf f) t n)

  ends : (x : List ℕ) (u : S) → led f f.first x ≡ Some u → Fit u → Reads x
  ends x u e h = let r = read_end f Fit l x u e h (f.content u) refl in subst (By x) r.0 r.1

  stops : (x : List ℕ) (u : S) (b : ℕ) (t : List ℕ) → led f f.first x ≡ Some u → Fit u → f.next u b ≡ None → Reads (x ++ b ∷ t)
  stops x u b t e h z =
      let y = x ++ b ∷ t in
      let k : length x < length y = simp length-append (omega arith) in
      let front : led f f.first (take (length x) y) ≡ Some u = ap (led f f.first) (take-append_seam x (b ∷ t)) ∙ e in
      let here : f.next u (get_or y (length x) 0) ≡ None = ap (f.next u) (get_or-append_seam x b t 0) ∙ z in
      let at : Departs (TextsOf f) y (length x) = departs_at f Fit l y (length x) u front h k here in
      let gave : reading f y ≡ Err (length x) = stopped f 0 f.first y u (length x) front k here ∙ ap Err (let w : 0 + length x ≡ length x = omega arith in w) in
      subst (By y) (sym gave) at

  further : (x : List ℕ) (u : S) (b : ℕ) (t : List ℕ) → led f f.first x ≡ Some u → Fit u → (o : Option S) → f.next u b ≡ o
      → ((v : S) → led f f.first (x ++ b ∷ []) ≡ Some v → Fit v → Reads ((x ++ b ∷ []) ++ t)) → Reads (x ++ b ∷ t)
  further x u b t e h None z on = stops x u b t e h z
  further x u b t e h (Some v) z on = subst Reads (append_assoc x (b ∷ []) t) (on v (led-more f f.first u x b e ∙ z) (l.next_fits u b v h z))

  reads_on : (x t : List ℕ) (u : S) → led f f.first x ≡ Some u → Fit u → Reads (x ++ t)
  reads_on x [] u e h = subst Reads (sym (append-nil x)) (ends x u e h)
  reads_on x (b ∷ t) u e h = further x u b t e h (f.next u b) refl (reads_on (x ++ b ∷ []) t)

  reads : (t : List ℕ) → Reads t
  unfolding led
  reads t = reads_on [] t f.first refl l.first_fits

-- what a text stands for is read, and the place where it departs from the form
pub read_means : (t : List ℕ)
    → MatchResult (reading rule t) (λ d. Stands t d) (λ n. Departs Texts t n)
    × ((d : Diagram) → Stands t d → reading rule t ≡ Ok d)
    × ((n : ℕ) → Departs Texts t n → reading rule t ≡ Err n)
read_means t = read_so rule Stands stands says t (reading rule t) refl (reads rule IsFit lively t)
