-- `season_report::texts::season_of` meets its contract: each text is taken from the end of the one before it.
use Rattle.std.proofs.Common.{arith}
use Rattle.season_report.proofs.Ends.{all_left, end-between, none_left, one-taken}
use Rattle.season_report.proofs.texts.season_of.Goals as goal

pub loop-end-init : goal.loop-end-init
loop-end-init c = all_left c.args.texts.now c.args.ends.now c.requires _ c.new-season.ensures

pub slice_bounds-take-count : goal.slice_bounds-take-count
slice_bounds-take-count c = let p = c.loop-end in (end-between _ _ _ p.start p.end-index p.invariant c.loop-end-test.true).0

pub slice_bounds-take-start : goal.slice_bounds-take-start
slice_bounds-take-start c = let p = c.loop-end in (end-between _ _ _ p.start p.end-index p.invariant c.loop-end-test.true).0

pub slice_bounds-take-end : goal.slice_bounds-take-end
slice_bounds-take-end c = let p = c.loop-end in (end-between _ _ _ p.start p.end-index p.invariant c.loop-end-test.true).1

pub loop-end-preserved : goal.loop-end-preserved
loop-end-preserved c =
    let p = c.loop-end in
    one-taken _ _ _ p.start p.end-index p.invariant c.loop-end-test.true _ c.take-taken.ensures.next

pub returns : goal.returns
returns c = let p = c.loop-end in none_left _ _ _ p.start p.end-index p.invariant (omega (arith, p.invariant.few, c.loop-end-test.false))
