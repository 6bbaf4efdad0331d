use Rattle.std.proofs.Common.{◌≡◌, ◌≢◌, ℕ, ◌<◌, List, [], ◌∷◌, map, length, true, false, eqb, Some, None, Option, MatchOption, sym, refl, ◌∙◌, arith, rules}
use Rattle.std.specs.List.{AllWithin, HoldsAt}
use Rattle.std.specs.Cmp.Lexicographic.{pointwise}
use Rattle.std.proofs.lemmas.List.{length-map, get_or-map}
use Rattle.std.proofs.lemmas.Slice.Eq.{slice_eq-Decides}
use Rattle.std.proofs.lemmas.Bool.Decides.{Decides-eqb}
use Rattle.std.proofs.lemmas.Iterator.{IsFirst-from_position, YieldsList-from_slice}
use Rattle.chess_moves.specs.declared.step.Move.{Move}
use Rattle.chess_moves.specs.Moves.{listed}
use Rattle.chess.specs.Trees.{text_of}
use Rattle.chess.specs.Finding.{Finds}
use Rattle.chess.proofs.texts.find.Goals as goal

-- a comparison of texts tells whether they are the same
same : (y x : List ℕ) → true ≡ pointwise eqb y x → y ≡ x
same y x q = (slice_eq-Decides Decides-eqb y x true q).0 refl

differ : (y x : List ℕ) → false ≡ pointwise eqb y x → y ≢ x
differ y x q e = let t = (slice_eq-Decides Decides-eqb y x false q).1 e in absurd (cc)

-- the first move with the text is the first text that is it
first : (x : List ℕ) (vs : List Move) (r : Option ℕ) →
    MatchOption r (AllWithin (λ v. text_of v ≡ x → ⊥) vs 0 (length vs))
    (λ i. (i < length vs) × HoldsAt (λ v. text_of v ≡ x) vs i × AllWithin (λ v. text_of v ≡ x → ⊥) vs 0 i) →
    Finds (map text_of vs) x r
first x [] None f = λ i h. absurd (omega arith)
first x [] (Some i) f = absurd (omega (arith, f.0))
first x (w ∷ ws) None f = λ i h e.
    let l : i < length (w ∷ ws) = omega (arith, h, length-map ws text_of) in
    f i w (omega arith) l (sym (get_or-map text_of (w ∷ ws) i w [] l) ∙ e)
first x (w ∷ ws) (Some i) f = (omega (arith, f.0, length-map ws text_of), get_or-map text_of (w ∷ ws) i w [] f.0 ∙ f.1 w)

pub returns : goal.returns
returns c =
    let x = c.args.text.now in
    first x (listed c.args.list.now) c.position.result
    (IsFirst-from_position _ _ c.position.result (λ v. text_of v ≡ x) (λ v. text_of v ≡ x → ⊥) c.position.ensures.ran (YieldsList-from_slice (listed c.args.list.now) (cc (c.iter.ensures.rest, c.as_slice.ensures))) (λ v q k. search (rules, same)) (λ v q k. search (rules, differ)))
