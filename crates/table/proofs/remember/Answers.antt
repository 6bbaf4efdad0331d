use Rattle.std.proofs.Common.{◌≡◌, ◌⊎◌, Some, None, Option, sym, ap, ◌∙◌, subst}
use Rattle.table.specs.declared.pair.Pair.{Pair}
use Rattle.table.specs.Pairs.{Code}
use Rattle.table.specs.Storings.{Storing}
use Rattle.table.proofs.remember.Goals as goal

pub returns-clause-own : goal.returns-clause-own
returns-clause-own g c =
    let S : Storing = g.T.Table.storing in
    let s : S.Standing = g.T.Table.standing c.args.table.now in
    let k : Code = c.args.code.now in
    subst (λ (o : Option Pair). (o ≡ Some c.args.pair) ⊎ ((o ≡ S.shows s k) ⊎ (o ≡ None)))
    (sym (c.look_up.ensures ∙ ap (λ (x : S.Standing). S.shows x k) c.store.ensures)) (g.met.T.Table.keeping.own s k c.args.pair)

pub returns-clause-others : goal.returns-clause-others
returns-clause-others g c d n =
    let S : Storing = g.T.Table.storing in
    let s : S.Standing = g.T.Table.standing c.args.table.now in
    subst (λ (o : Option Pair). (o ≡ S.shows s d) ⊎ (o ≡ None)) (sym (ap (λ (x : S.Standing). S.shows x d) c.store.ensures))
    (g.met.T.Table.keeping.other s c.args.code.now d c.args.pair n)
