use Rattle.std.proofs.Common.{ℕ, not, eqb, ap, ◌∙◌}
use Rattle.std.proofs.lemmas.Bool.Decides.{Decides-at}
use Rattle.othello_rules.specs.Diagrams.{placeable}
use Rattle.othello_rules.proofs.ByWords.{turns_test}
use Rattle.othello_rules.proofs.Legality.{placeable_means}
use Rattle.othello_rules.proofs.diagram.Diagram.legal.Goals as goal

pub returns : goal.returns
returns c =
    let e = ap (λ (x : ℕ). not (eqb x 0)) c.turned.ensures ∙ turns_test c.args.self.now c.args.square.number in
    record {
      exact = e;
      meaning = Decides-at _ (placeable c.args.self.now c.args.square.number) e (placeable_means c.args.self.now c.args.square.number c.args.square.ok);
    }
