use Rattle.std.proofs.Common.{rules, ◌<◌}
use Rattle.chess_text.proofs.Squares.{passed}
use Rattle.chess_text.proofs.reading.ReaderForm.next.Goals as goal
use Rattle.chess_text.proofs.reading.ReaderForm.next.Goals.{in-Mover-default+in_ok-self-in-Mover-default, in-GapToRights-eq32, in-Rights-eq45, in-GapToPassing-eq32, in-Passing-eq45, in-Passing-default+in_ok-file-in-Passing-default, in-PassingRow-eq3, in-Blanks-eq32}

pub returns : goal.returns
returns c = elim c.match-self.branch [
  | in-Mover-default+in_ok-self-in-Mover-default w ↦ search rules
  | in-GapToRights-eq32 w ↦ search rules
  | in-Rights-eq45 w ↦ search rules
  | in-GapToPassing-eq32 w ↦ search rules
  | in-Passing-eq45 w ↦ search rules
  | in-Passing-default+in_ok-file-in-Passing-default w ↦ search rules
  | in-PassingRow-eq3 w ↦
      let p = w.in-PassingRow-eq3 in
      let h : p.file < 8 = search rules in
      let e = passed c.args.self.board c.args.self.mover c.args.self.passing p.file c.args.byte w.at-self.result h p.is-1 w.at-self.ensures in
      search rules
  | in-Blanks-eq32 w ↦ search rules
]
