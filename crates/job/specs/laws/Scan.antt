-- Job text as the reader goes through it, line after line. `proofs/Same.antt` has that this is the job of `Job`, in arrays.
use Rattle.std.specs.Prelude.{ℕ, List, Result, Ok, Err}
use Rattle.job.specs.inner.LineScan.{parameters_at}
use Rattle.refusal.specs.declared.Refusal.{Refusal}
use Rattle.job.specs.declared.first.Parameters.{Parameters}
use Rattle.job.specs.JobArrays.{JobArrays}
use Rattle.job.specs.declared.RefusedLine.{RefusedLine}
use Rattle.job.specs.inner.Scan.{new_job, refused_at, samples_at}

unfoldable pub reading_by : List ℕ → Result Parameters Refusal → Result JobArrays RefusedLine
reading_by text (Ok first) = samples_at 257 text first.next (new_job first.n first.limit first.tolerance)
reading_by text (Err refusal) = refused_at refusal 1

unfoldable pub reading_at : List ℕ → Result JobArrays RefusedLine
reading_at text = reading_by text (parameters_at text)
