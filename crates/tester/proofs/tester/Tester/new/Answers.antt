use Rattle.std.proofs.Common.{rules}
use Rattle.tester.proofs.History.{begun}
use Rattle.tester.proofs.tester.Tester.new.Goals as goal

pub invariant_of-result : goal.invariant_of-result
invariant_of-result g c = record { reached = begun g.G.Game g.T.Table (g.T.Table.standing c.args.table) _ (search rules) (search rules) (search rules) }
