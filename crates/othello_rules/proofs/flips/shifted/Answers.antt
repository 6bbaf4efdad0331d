use Rattle.std.proofs.Common.{◌+◌, arith}
use Rattle.board.specs.Squares.{away}
use Rattle.board.specs.declared.direction.Direction.TheVariants.{East, West, North, South, NorthEast, NorthWest, SouthEast, SouthWest}
use Rattle.othello_rules.proofs.Shifts.{left, right}
use Rattle.othello_rules.proofs.flips.shifted.Goals as goal

pub returns-in-East : goal.returns-in-East
returns-in-East c = simp c.in-East.is (λ s k h r e. left c.args.cell (away East s k) (away East s (k + 1)) 1 e (omega arith) (omega arith))

pub returns-in-West : goal.returns-in-West
returns-in-West c = simp c.in-West.is (λ s k h r e. right c.args.cell (away West s k) (away West s (k + 1)) 1 e (omega arith))

pub returns-in-North : goal.returns-in-North
returns-in-North c = simp c.in-North.is (λ s k h r e. left c.args.cell (away North s k) (away North s (k + 1)) 8 e (omega arith) (omega arith))

pub returns-in-South : goal.returns-in-South
returns-in-South c = simp c.in-South.is (λ s k h r e. right c.args.cell (away South s k) (away South s (k + 1)) 8 e (omega arith))

pub returns-in-NorthEast : goal.returns-in-NorthEast
returns-in-NorthEast c = simp c.in-NorthEast.is (λ s k h r e. left c.args.cell (away NorthEast s k) (away NorthEast s (k + 1)) 9 e (omega arith) (omega arith))

pub returns-in-NorthWest : goal.returns-in-NorthWest
returns-in-NorthWest c = simp c.in-NorthWest.is (λ s k h r e. left c.args.cell (away NorthWest s k) (away NorthWest s (k + 1)) 7 e (omega arith) (omega arith))

pub returns-in-SouthEast : goal.returns-in-SouthEast
returns-in-SouthEast c = simp c.in-SouthEast.is (λ s k h r e. right c.args.cell (away SouthEast s k) (away SouthEast s (k + 1)) 7 e (omega arith))

pub returns-in-SouthWest : goal.returns-in-SouthWest
returns-in-SouthWest c = simp c.in-SouthWest.is (λ s k h r e. right c.args.cell (away SouthWest s k) (away SouthWest s (k + 1)) 9 e (omega arith))
