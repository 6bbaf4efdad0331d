use Rattle.std.proofs.Common.{◌≡◌, ℕ, ◌+◌, ◌-◌, ◌<◌, length, take, drop, get_or, None, refl, ap, ◌∙◌, arith}
use Rattle.std.proofs.lemmas.List.{length-take, get_or-take, get_or-drop}
use Rattle.chess_attacks.specs.Men.{Squares, on}
use Rattle.chess.specs.Code.{word, digit}
use Rattle.chess.specs.Codes.{word_more, digit_fits}
use Rattle.chess.proofs.coding.word.Goals as goal

-- the sixteen squares from s on, as a slice
module _ (b : Squares) (r s i : ℕ) (same : r ≡ s) where
  within : i < length (take (r + 16 - r) (drop r b)) → i < 16
  within h = omega (arith, h, length-take (r + 16 - r) (drop r b))

  stands : i < 16 → get_or (take (r + 16 - r) (drop r b)) i None ≡ on b (s + i)
  stands h =
      let k : i < r + 16 - r = omega (arith, h) in
      get_or-take (r + 16 - r) (drop r b) i None k ∙ (get_or-drop r b i None ∙ ap (λ (n : ℕ). on b (n + i)) same)

pub loop-man-init : goal.loop-man-init
unfolding word
loop-man-init c = (refl, omega arith)

pub overflow_mul-word : goal.overflow_mul-word
overflow_mul-word c =
    let l = within c.args.board.now c.from-start.result c.args.start c.loop-man.man-index c.from-start.ensures c.loop-man-test.true in
    let h = digit_fits c.loop-man.word c.loop-man.man-index 0 l c.loop-man.invariant.1 (omega arith) in record { fits = omega arith }

pub overflow_add-word : goal.overflow_add-word
overflow_add-word c =
    let l = within c.args.board.now c.from-start.result c.args.start c.loop-man.man-index c.from-start.ensures c.loop-man-test.true in
    record { fits = (digit_fits c.loop-man.word c.loop-man.man-index c.digit.result l c.loop-man.invariant.1 c.digit.ensures.small).1 }

pub loop-man-preserved : goal.loop-man-preserved
loop-man-preserved c =
    let l = within c.args.board.now c.from-start.result c.args.start c.loop-man.man-index c.from-start.ensures c.loop-man-test.true in
    let e = stands c.args.board.now c.from-start.result c.args.start c.loop-man.man-index c.from-start.ensures l in (
      word_more c.args.board.now c.args.start c.loop-man.man-index c.loop-man.word c.digit.result c.loop-man.invariant.0 (c.digit.ensures.value ∙ ap digit e),
      (digit_fits c.loop-man.word c.loop-man.man-index c.digit.result l c.loop-man.invariant.1 c.digit.ensures.small).0,
    )
