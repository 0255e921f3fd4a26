-- Document 02, W6: the job that two jobs are pooled to, and its text: 'The pooled table and report are those of a job with the first one's S lines
-- followed by the second one's, and its sweep limit and tolerance are the first one's'.
use Rattle.std.specs.Prelude.{ℕ, List, ◌++◌, length}
use Rattle.job.specs.Job.{Job}
use Rattle.job_text.specs.JobText.{job_line_e, job_line_p, job_line_s, job_with}
use Rattle.text.specs.Lines.{lines}

-- sample after sample, so the first one's dilutions and counts are followed by the second one's
abbrev pub pooled_job : Job → Job → Job
pooled_job a b = job_with a.n a.limit a.tolerance (a.dilutions ++ b.dilutions) (a.counts ++ b.counts)

-- a job's S lines
abbrev pub lines_s : Job → List ℕ
lines_s j = lines (job_line_s j) (length j.dilutions)

-- `P` is the first one's, and `E` has the number of both jobs' samples
unfoldable pub joined_text : Job → Job → List ℕ
joined_text a b = job_line_p a ++ (lines_s a ++ lines_s b) ++ job_line_e (pooled_job a b)
