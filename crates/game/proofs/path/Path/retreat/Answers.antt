use Rattle.std.proofs.Common.{◌∷◌, [], ◌++◌, reverse, sym, ap, ◌∙◌}
use Rattle.game.specs.Places.{held}
use Rattle.game.proofs.Places.{popped, latest, never_empty}
use Rattle.game.proofs.path.Path.retreat.Goals as goal

pub invariant_of-self-in-Break-branch-2 : goal.invariant_of-self-in-Break-branch-2
invariant_of-self-in-Break-branch-2 g c =
    absurd (never_empty c.pop.new.self.items c.args.self.now.earlier.items (c.in_ok-pop.ensures.items ∙ ap (λ o. c.pop.new.self.items ++ (o ∷ [])) c.in_err-latest.was) c.args.self.now.none_empty)

pub returns-in_err-latest : goal.returns-in_err-latest
returns-in_err-latest g c =
    absurd (never_empty c.pop.new.self.items c.args.self.now.earlier.items (c.in_ok-pop.ensures.items ∙ ap (λ o. c.pop.new.self.items ++ (o ∷ [])) c.in_err-latest.was) c.args.self.now.none_empty)

pub invariant_of-self-2-clause-none_empty : goal.invariant_of-self-2-clause-none_empty
invariant_of-self-2-clause-none_empty g c =
    popped c.pop.new.self.items c.args.self.now.earlier.items c.in_ok-latest.latest
    (c.in_ok-pop.ensures.items ∙ ap (λ o. c.pop.new.self.items ++ (o ∷ [])) c.in_ok-latest.was) c.args.self.now.none_empty

pub returns : goal.returns
returns g c = (
  latest c.pop.new.self.items c.args.self.now.earlier.items c.in_ok-latest.latest
      (c.in_ok-pop.ensures.items ∙ ap (λ o. c.pop.new.self.items ++ (o ∷ [])) c.in_ok-latest.was)
      ∙ ap (λ p. p ∷ reverse (held c.pop.new.self.items)) (sym c.replace.ensures.after),
  c.replace.ensures.value,
)
