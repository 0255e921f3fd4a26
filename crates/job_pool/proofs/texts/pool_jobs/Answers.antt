-- `job_pool::texts::pool_jobs` meets its contract: the samples of each job are those that are handed over.
use Rattle.job.specs.Held.{job_in}
use Rattle.job_pool.proofs.texts.pool_jobs.Goals as goal

pub returns : goal.returns
unfolding job_in
returns c =
    let s = c.samples.ensures.lends in
    let t = c.samples-2.ensures.lends in
    rw (← c.first.view_is, ← c.second.view_is) (rw (s.0, s.1, s.2, t.0, t.1, t.2, ← c.first.view_is, ← c.second.view_is) at c.write_pooled.ensures)
