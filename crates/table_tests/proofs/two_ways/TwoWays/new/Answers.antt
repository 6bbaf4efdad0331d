use Rattle.table_tests.proofs.Arrays.{after_making}
use Rattle.table_tests.proofs.two_ways.TwoWays.new.Goals as goal

pub returns : goal.returns
returns c = after_making 512
