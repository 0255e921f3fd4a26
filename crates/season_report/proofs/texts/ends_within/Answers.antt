-- `season_report::texts::ends_within` meets its contract: the first end that is out of order or beyond the buffer decides.
use Rattle.std.proofs.Common.{◌≡◌, length, arith, sym, ◌∙◌}
use lib.Seq.{drop-length}
use Rattle.season_report.specs.Texts.{ends_within}
use Rattle.season_report.proofs.Ends.{good-end, high_end, low_end}
use Rattle.season_report.proofs.texts.ends_within.Goals as goal
use Rattle.season_report.proofs.texts.ends_within.Goals.{then-end-start-via-then-end-start, then-end-start-via-else-end-start+then-size-end}

pub returns-then-end-start : goal.returns-then-end-start
returns-then-end-start c =
    let p = c.loop-end in
    elim c.then-end-start.branch [
      | then-end-start-via-then-end-start w ↦
          low_end p.start c.args.size c.args.ends.now p.end-index c.loop-end-test.true w.if-end-start.true ∙ sym p.invariant
      | then-end-start-via-else-end-start+then-size-end w ↦
          high_end p.start c.args.size c.args.ends.now p.end-index c.loop-end-test.true w.if-end-start.false w.if-size-end.true ∙ sym p.invariant
    ]

pub loop-end-preserved : goal.loop-end-preserved
loop-end-preserved c =
    let p = c.loop-end in
    p.invariant ∙ good-end p.start c.args.size c.args.ends.now p.end-index c.loop-end-test.true c.if-end-start.false c.if-size-end.false

pub returns : goal.returns
unfolding ends_within
returns c =
    let p = c.loop-end in
    let e : p.end-index ≡ length c.args.ends.now = omega (arith, p.auto.end-index-end, c.loop-end-test.false) in
    sym (p.invariant ∙ rw (e, drop-length c.args.ends.now))
