-- Each shape has its run, which is the single call of a checked block (`block_runs`), and ends with its byte (`byte-is`).
use Rattle.std.proofs.Common.{sym, ◌∙◌}
use Rattle.rectanglerun.specs.Runs.{matched}
use Rattle.rules.specs.Calls.{line, joint}
use Rattle.striprun.specs.Plans.{plan_of, lent-block, block_runs, byte-is, gives-byte}
use Rattle.striprun.proofs.blocks.Sheets.run_block.Goals as goal
use Rattle.striprun.proofs.blocks.Sheets.run_block.Goals.{in-Line, in-Joint}

pub run_block-end-requires : goal.run_block-end-requires
unfolding plan_of line
run_block-end-requires c =
    let h = rw c.in-Line.is at c.requires in
    (h.2 ∙ sym (lent-block c.args.run.task c.requires.0 _), h.3)

pub run_block-end-requires-in-Joint : goal.run_block-end-requires-in-Joint
unfolding plan_of joint
run_block-end-requires-in-Joint c =
    let h = rw c.in-Joint.is at c.requires in
    (matched _ _ h.1, h.2 ∙ sym (lent-block c.args.run.task c.requires.0 _), h.3)

pub returns : goal.returns
unfolding plan_of line joint
returns c =
    elim c.match-self.branch [
      | in-Line w ↦
          let h = rw w.in-Line.is at c.requires in
          let b = rw w.end-is at c.byte_of.ensures in
          rw (
            w.y-is,
            w.in-Line.is,
            block_runs c.args.run c.requires.0 (line w.in-Line.sheet.numbers.now) c.args.x.now c.args.y.now h.1 h.2 h.3,
          )
          (gives-byte w.run_block-end.ensures (b ∙ byte-is c.args.run.task c.requires.0 _))
      | in-Joint w ↦
          let h = rw w.in-Joint.is at c.requires in
          let b = rw w.end-is at c.byte_of.ensures in
          rw (
            w.y-is,
            w.in-Joint.is,
            block_runs c.args.run c.requires.0 (joint w.in-Joint.col.numbers.now w.in-Joint.row.numbers.now) c.args.x.now
                c.args.y.now h.1 h.2 h.3,
          )
          (gives-byte w.run_block-end-in-Joint.ensures (b ∙ byte-is c.args.run.task c.requires.0 _))
    ]
