-- An ending by its word.
use Rattle.std.proofs.Common.{◌≡◌, List, ℕ, sym, refl, ◌∙◌}
use Rattle.solution_laws.specs.declared.ending.Ending.{Ending}
use Rattle.solution_laws.specs.declared.ending.Ending.TheVariants.{Done, Spent, Cut}
use Rattle.solution_laws.specs.Words.{word, EndingTells}

pub same_ending : EndingTells
same_ending Done Done h = refl
same_ending Done Spent h = absurd (cc)
same_ending Done Cut h = absurd (cc)
same_ending Spent Done h = absurd (cc)
same_ending Spent Spent h = refl
same_ending Spent Cut h = absurd (cc)
same_ending Cut Done h = absurd (cc)
same_ending Cut Spent h = absurd (cc)
same_ending Cut Cut h = refl

-- two endings of one word
pub one_ending : (e f : Ending) {w : List ℕ} → word e ≡ w → word f ≡ w → e ≡ f
one_ending e f p q = same_ending e f (p ∙ sym q)
