-- `Job::samples` meets its contract: the parts of the arrays that are lent are the job's samples, and its values are in their ranges.
use Rattle.std.proofs.Common.{ap}
use Rattle.job.specs.Held.{job_in}
use Rattle.job.specs.JobArrays.{JobArrays}
use Rattle.job.proofs.Job.samples.Goals as goal

pub returns-clause-proper : goal.returns-clause-proper
returns-clause-proper c = rw (← c.self.view_is) c.self.invariant.proper

pub returns-clause-lends : goal.returns-clause-lends
unfolding job_in
returns-clause-lends c =
    let v = c.self.view_is in
    (ap (λ (a : JobArrays). (job_in a).n) v, ap (λ (a : JobArrays). (job_in a).dilutions) v, ap (λ (a : JobArrays). (job_in a).counts) v)
