use Rattle.std.proofs.Common.{◌≡◌, ◌<◌, List, [], ◌∷◌, ◌++◌, length, Ok, Err, Result, MatchResult, reverse, sym, ap, ◌∙◌}
use Rattle.stack.specs.declared.Stack.{Stack}
use Rattle.stack.specs.Contents.{contents, above, room}
use Rattle.stack.proofs.Tops.{whole}
use Rattle.stack.proofs.tests.write_first.Goals as goal

-- a slice of whose places only the first was pushed on
first-written : {T : Type 0} (r : Result (Unit {0}) T) (s s' : Stack T) (e y : T) (es : List T) → contents s ≡ [] → above s ≡ e ∷ es
    → MatchResult r (λ _. (length (contents s) < room s) × (contents s' ≡ y ∷ contents s)) (λ x. (x ≡ y) × (length (contents s) ≡ room s) × (contents s' ≡ contents s))
    → MatchResult r (λ _. (d : T) × (above s ≡ d ∷ above s')) (λ _. (above s ≡ []) × (above s' ≡ []))
    → s'.slots.now ≡ y ∷ es
first-written (Ok u) s s' e y es none old pushed left =
    let one : contents s' ≡ y ∷ [] = pushed.1 ∙ ap (λ xs. y ∷ xs) none in
    let rest : above s' ≡ es = let z = left.1 in cc in
    whole s'.len s'.slots.now ∙ ap (λ xs. reverse xs ++ above s') one ∙ ap (λ xs. y ∷ xs) rest
first-written (Err x) s s' e y es none old pushed left = absurd (let z = left.0 in cc)

pub returns : goal.returns
returns c e es h =
    c.slots-1.given.1.1 (sym (c.push.ensures.slice ∙ c.new-stack.ensures.slice))
    ∙ first-written c.push.result c.new-stack.result c.push.new.self e 7 es c.new-stack.ensures.empty (c.new-stack.ensures.above ∙ h)
    c.push.ensures.pushed c.push.ensures.above
