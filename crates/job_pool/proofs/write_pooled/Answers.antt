-- `job_pool::write_pooled` meets its contract: the refusal, or the report of the table of both.
use mathlib.Core.Path.{◌≡◌, sym, ◌∙◌}
use Rattle.std.proofs.lemmas.Result.{err_from_is_err_and}
use Rattle.job.specs.Job.{Job}
use Rattle.job_text.specs.JobText.{job_with}
use Rattle.report.proofs.Bounds.{table-reportable, table-reports}
use Rattle.text.specs.laws.Written.{judged-refused, not-judged, not_taken}
use Rattle.job_pool.specs.Refusal.{pool_refusal}
use Rattle.job_pool.proofs.Pooled.{both-readings, pooled-proper, sums-table, together}
use Rattle.job_pool.proofs.write_pooled.Goals as goal
use Rattle.job_pool.proofs.write_pooled.Goals.{In_ok-check_pool}

-- What is not refused.
module _ (c : In_ok-check_pool) where
  abbrev first : Job
  first = job_with c.args.first.now.n c.args.limit1 c.args.tolerance1 c.args.first.now.dilutions.now c.args.first.now.counts.now

  abbrev second : Job
  second = job_with c.args.second.now.n c.args.limit2 c.args.tolerance2 c.args.second.now.dilutions.now c.args.second.now.counts.now

  taken : pool_refusal first second ≡ 0
  taken = not-judged _ _ _ (sym c.in_ok-check_pool.ensures)

pub returns-in_err-check_pool : goal.returns-in_err-check_pool
returns-in_err-check_pool c =
    let p = err_from_is_err_and c.from_residual.result c.from_residual.ensures.1 in
    let e = sym c.in_err-check_pool.ensures in
    rw (p.1, p.2) (record { writes = not_taken _ _ _ _ _ e; short = λ z. absurd ((judged-refused _ _ _ e).0 z) })

pub pooled_table-table-requires : goal.pooled_table-table-requires
pooled_table-table-requires c = let t = (goal.at.pooled_table-table-requires c).In_ok-check_pool in both-readings _ _ (taken t)

pub report_table-requires : goal.report_table-requires
report_table-requires c =
    let e = taken (goal.at.report_table-requires c).In_ok-check_pool in
    table-reportable _ (pooled-proper _ _ e) _ (c.pooled_table-table.ensures ∙ sums-table _ _ e) _ (together _ _ e)

pub returns : goal.returns
returns c =
    let e = taken (goal.at.returns c).In_ok-check_pool in
    let done =
    table-reports _ (pooled-proper _ _ e) _ (c.pooled_table-table.ensures ∙ sums-table _ _ e) _ (together _ _ e) c.report_table.ensures in
    record { writes = rw e done.0; short = λ z. done.1 }
