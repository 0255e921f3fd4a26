-- The lines so far are written, and `at` is the place after them.
use Rattle.text.specs.Lines.{lines}
use Rattle.text.specs.Put.{Put}
use Rattle.job_text.specs.JobText.{sample_line}
use Rattle.job_text.proofs.samples.Lines.put.Given as goal

abbrev pub invariant-loop-i : goal.invariant-loop-i
invariant-loop-i l = Put (lines (sample_line l.self.samples.n l.self.samples.dilutions.now l.self.samples.counts.now) l.i) 0 l.fn.out l.out l.at
