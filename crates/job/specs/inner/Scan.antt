-- Job text as the reader goes through it, line after line. `proofs/Same.antt` has that this is the job of `Job`, in arrays.
use Rattle.std.specs.Prelude.{ℕ, zero, suc, ◌+◌, ◌*◌, cond, List, Option, None, Some, Result, Ok, Err, ltb, get_or, set, replicate}
use Rattle.std.proofs.Math.Seq.{slice}
use Rattle.std.proofs.lemmas.List.Edits.{sets}
use Rattle.job.specs.inner.LineScan.{ending_at, line_at, sample_within}
use Rattle.job.specs.declared.sample.Line.{Line}
use Rattle.job.specs.JobArrays.{JobArrays}
use Rattle.job.specs.declared.RefusedLine.{RefusedLine}
use Rattle.refusal.specs.declared.Refusal.{Refusal}
use Rattle.refusal.specs.declared.Refusal.TheVariants.{Malformed, OutOfRange, SampleCount}
use Rattle.limits.specs.Limits.{most_channels, most_samples}

unfoldable pub new_job : ℕ → ℕ → ℕ → JobArrays
new_job n limit tolerance =
    record {
      n = n;
      limit = limit;
      tolerance = tolerance;
      k = 0;
      dilutions = replicate most_samples 0;
      counts = replicate (most_samples * most_channels) 0;
    }

abbrev pub refused_at : Refusal → ℕ → Result JobArrays RefusedLine
refused_at refusal line = Err (record { refusal = refusal; line = line })

unfoldable pub finished_by : JobArrays → Result Unit Refusal → Result JobArrays RefusedLine
finished_by j (Ok x) = Ok j
finished_by j (Err refusal) = refused_at refusal (j.k + 2)

unfoldable pub finished_at : List ℕ → ℕ → JobArrays → Result JobArrays RefusedLine
finished_at text at j = finished_by j (ending_at text at j.k)

-- The job with one sample more, whose line has these numbers.
unfoldable pub kept : JobArrays → List ℕ → JobArrays
kept j xs =
    record {
      n = j.n;
      limit = j.limit;
      tolerance = j.tolerance;
      k = j.k + 1;
      dilutions = set j.dilutions j.k (get_or xs 0 0);
      counts = sets j.counts (j.k * j.n) (slice 1 (j.n + 1) xs);
    }

unfoldable pub sample_of : List ℕ → ℕ → JobArrays → Option Line → (Line → Result JobArrays RefusedLine) → Result JobArrays RefusedLine
sample_of text at j (Some line) go =
    cond (sample_within j.n line.numbers) (cond (ltb j.k most_samples) (go line) (refused_at SampleCount (j.k + 2))) (refused_at OutOfRange (j.k + 2))
sample_of text at j None go = finished_at text at j

-- m bounds the lines that are left: no more than 257 lines are read for samples.
unfoldable pub samples_at : ℕ → List ℕ → ℕ → JobArrays → Result JobArrays RefusedLine
samples_at zero text at j = refused_at Malformed (j.k + 2)
samples_at (suc m) text at j = sample_of text at j (line_at text at 83 j.n) (λ line. samples_at m text line.next (kept j line.numbers))
