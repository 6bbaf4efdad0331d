-- Where a move leads.
use Rattle.std.proofs.Common.{◌≡◌, ℕ, ◌<◌, ◌≤◌, true, false, List, length, get_or, Some, None, Option, sym, ap, ◌∙◌, arith, MatchOption}
use Rattle.std.proofs.ByRecursion.{All-get_or}
use Rattle.std.proofs.lemmas.Bool.{both_ways}
use Rattle.game.specs.Tree.{Tree, nowhere, next}
use Rattle.othello_rules.specs.Diagrams.{placements, placeable, placed, passed, turn}
use Rattle.othello_rules.specs.declared.diagram.Diagram.{Diagram}
use Rattle.othello_rules.specs.declared.side.Side.{Side}
use Rattle.othello_rules.specs.declared.turn.Turn.TheVariants.{Place, Pass}
use Rattle.othello.specs.Endings.{tree}
use Rattle.othello.specs.Positions.{tree_of}
use Rattle.othello.specs.declared.position.Position.{Position}
use Rattle.othello.specs.Grown.{all_placeable}
use Rattle.othello.specs.Listed.{count_place, count_turn, next_there, next_turn}

-- the move i of p leads to q
abbrev pub Leads : Position → ℕ → Position → Type 0
Leads p i q = (i < length (next (tree_of p))) × (tree_of q ≡ get_or (next (tree_of p)) i nowhere)

-- q has the attacker and the aim of p, and the diagram d
abbrev pub Same : Position → Diagram → Position → Type 0
Same p d q = (q.diagram ≡ d) × (q.attacker ≡ p.attacker) × (q.aim ≡ p.aim)

same_tree : (p q : Position) (d : Diagram) → Same p d q → tree_of q ≡ tree p.attacker p.aim d
same_tree p q d (e, f, g) =
    ap (λ (a : Side). tree a q.aim q.diagram) f ∙ ap (λ (n : ℕ). tree p.attacker n q.diagram) g ∙ ap (tree p.attacker p.aim) e

module _ (p : Position) (i : ℕ) where
  -- the list of the placements, and the square at the number
  module _ (e : Place ≡ turn p.diagram) (l : List ℕ) (is : l ≡ placements p.diagram) where
    pub past : length l ≤ i → length (next (tree_of p)) ≤ i
    past h = omega (arith, count_place p.attacker p.aim p.diagram e, ap length is)

    module _ (s : ℕ) (h : i < length l) (k : s ≡ get_or l i 0) where
      at : s ≡ get_or (placements p.diagram) i 0
      at = k ∙ ap (λ (xs : List ℕ). get_or xs i 0) is

      there : i < length (placements p.diagram)
      there = omega (arith, ap length is)

      may : (s < 64) × (placeable p.diagram s ≡ true)
      may = let P : ℕ → Type 0 = λ q. (q < 64) × (placeable p.diagram q ≡ true) in
          rw at (All-get_or P (placements p.diagram) i 0 there (all_placeable p.diagram))

      pub led : (r : Option Position)
          → MatchOption r (placeable p.diagram s ≡ false) (λ q. (placeable p.diagram s ≡ true) × (q.diagram ≡ placed p.diagram s) × (q.attacker ≡ p.attacker) × (q.aim ≡ p.aim))
          → MatchOption r (length (next (tree_of p)) ≤ i) (Leads p i)
      led None c = absurd (both_ways (placeable p.diagram s) c may.1)
      led (Some q) c = (
        omega (arith, count_place p.attacker p.aim p.diagram e, there),
        same_tree p q (placed p.diagram s) (c.1, c.2, c.3)
            ∙ ap (λ (n : ℕ). tree p.attacker p.aim (placed p.diagram n)) at
            ∙ next_there p.attacker p.aim p.diagram e i there,
      )

  pub led_pass : (q : Position) → Pass ≡ turn p.diagram → i ≡ 0 → Same p (passed p.diagram) q → Leads p i q
  led_pass q e z c = (
    omega (arith, count_turn p.attacker p.aim p.diagram Pass e),
    same_tree p q (passed p.diagram) c
        ∙ sym (ap (λ (n : ℕ). get_or (next (tree_of p)) n nowhere) z ∙ ap (λ (ts : List Tree). get_or ts 0 nowhere) (next_turn p.attacker p.aim p.diagram Pass e)),
  )
