-- `job_table::lines::table_text` meets its contract: the job's refusal is the answer, or the table of the job that was read.
use Rattle.std.proofs.Common.{◌∙◌, sym}
use Rattle.std.proofs.lemmas.Result.{err_from_is_err_and}
use Rattle.job.proofs.Told.{accepted-read}
use Rattle.job.specs.laws.Replying.{replies-answered, replies-refused}
use Rattle.job_table.proofs.lines.table_text.Goals as goal

pub returns-in_err-job : goal.returns-in_err-job
returns-in_err-job c =
    let p = err_from_is_err_and c.from_residual.result c.from_residual.ensures.1 in
    rw (p.1, p.2) (replies-refused _ c.args.text.now c.args.buf.now _ (sym c.read.ensures ∙ c.in_err-job.was))

pub returns : goal.returns
returns c = replies-answered _ _ _ _ _ _ ((accepted-read _ _ (sym c.read.ensures ∙ c.in_ok-job.was)).is) c.table_job.ensures
