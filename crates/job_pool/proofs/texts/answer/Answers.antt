-- `job_pool::texts::answer` meets its contract: what the texts are read as picks the branch, and 2,048 bytes are room for every report.
use mathlib.Core.Path.{sym}
use Prim.Native.Nat.{◌≤◌}
use borrow.Author.Rules.{rules}
use lib.ListN.{length}
use Rattle.job.proofs.Told.{accepted-read}
use Rattle.job_pool.specs.laws.Printed.{first-refused, refusal-printed, second-refused, whole-printed}
use Rattle.job_pool.proofs.texts.answer.Goals as goal

pub returns-in-Err : goal.returns-in-Err
returns-in-Err c = rw (first-refused _ _ _ (sym c.in-Err.ensures)) c.put_refused_job.ensures

pub returns-in-Err-read : goal.returns-in-Err-read
returns-in-Err-read c =
    let first = (accepted-read _ _ (sym c.in-Ok.ensures)).is in
    rw (second-refused _ _ _ first _ (sym c.in-Err-read.ensures)) c.put_refused_job-in-Err-read.ensures

pub returns-in-Ok-pool_jobs : goal.returns-in-Ok-pool_jobs
returns-in-Ok-pool_jobs c =
    let first = (accepted-read _ _ (sym c.in-Ok.ensures)).is in
    let second = (accepted-read _ _ (sym c.in-Ok-read.ensures)).is in
    let room : 2048 ≤ length c.args.out.now = search rules in
    whole-printed _ _ _ _ first second _ _ room _ c.pool_jobs.ensures _ c.in-Ok-pool_jobs.is

-- At a refusal the buffer is as it was, and the refusal's line is to be printed.
pub returns-in-Err-pool_jobs : goal.returns-in-Err-pool_jobs
returns-in-Err-pool_jobs c =
    let first = (accepted-read _ _ (sym c.in-Ok.ensures)).is in
    let second = (accepted-read _ _ (sym c.in-Ok-read.ensures)).is in
    let room : 2048 ≤ length c.args.out.now = search rules in
    let denied = refusal-printed _ _ _ _ first second _ _ room _ c.pool_jobs.ensures _ c.in-Err-pool_jobs.is in
    rw denied.1 (rw denied.0 at c.put_refused_job-in-Err-pool_jobs.ensures)
