-- The invariant: the reading of the text is the reading from `at` with the samples so far.
use Rattle.std.proofs.Common.{◌≡◌, ◌-◌, ◌≤◌, length}
use Rattle.job.specs.Job.{job_of}
use Rattle.job.specs.Reading.{reading_of}
use Rattle.job.specs.inner.Scan.{samples_at}
use Rattle.job.proofs.samples.samples.Given as goal

abbrev pub invariant-loop-line : goal.invariant-loop-line
invariant-loop-line l = record {
  few : l.k ≤ 256;
  channels : l.n ≤ 8;
  long : length l.dilutions ≡ 256;
  reads : reading_of (job_of l.text) ≡ samples_at (257 - l.k) l.text l.at (record {
    n = l.n;
    limit = l.first.limit;
    tolerance = l.first.tolerance;
    k = l.k;
    dilutions = l.dilutions;
    counts = l.counts;
  });
}

abbrev pub decreases-loop-line : goal.decreases-loop-line
decreases-loop-line l = 257 - l.k
