use Rattle.std.proofs.Common.{◌≡◌, take, Some}
use Rattle.form.specs.Forms.{led}
use Rattle.form.proofs.read.Given as goal

abbrev pub invariant-loop-place : goal.invariant-loop-place
invariant-loop-place g l =
    (led g.F.Form.form g.F.Form.form.first (take l.place l.text) ≡ Some l.state) × g.F.Form.fit l.state
