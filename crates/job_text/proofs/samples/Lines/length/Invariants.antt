-- The lines so far are counted, at most 191 bytes each.
use Rattle.std.proofs.Common.{◌≡◌, ◌≤◌, ◌*◌, length}
use Rattle.text.specs.Lines.{lines}
use Rattle.job_text.specs.JobText.{sample_line}
use Rattle.job_text.proofs.samples.Lines.length.Given as goal

abbrev pub invariant-loop-i : goal.invariant-loop-i
invariant-loop-i l = record {
  exact : l.total ≡ length (lines (sample_line l.self.samples.n l.self.samples.dilutions.now l.self.samples.counts.now) l.i);
  bounded : l.total ≤ 191 * l.i;
}
