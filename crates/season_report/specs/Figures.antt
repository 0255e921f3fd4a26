-- Document 02, W14: 'jobs, how many ended settled, still and spent, how many were refused under each number 1 to 4, total turns, the largest r_i, the
-- first job that has it and the lowest axis number in that job that has it', each worked out from the list of jobs alone. 'Jobs are numbered from 1,
-- refused ones included. If no job was accepted, the largest error, its job and its axis are printed as 0.'
use Rattle.std.specs.Prelude.{ℕ, zero, suc, cond, eqb, get_or, length, Option, None, Some}
use mathlib.Core.List.{List, [], ◌∷◌, flat_map, map}
use Rattle.season_report.specs.Job.{JobEnd, end_of, ended_as, errors_of, is_refused_under, is_settled, is_spent, is_still, refused_under, job_turns}
use Rattle.season_report.specs.Lists.{first_from, how_many, is_among, largest_of, total_of}
use Rattle.season_report.specs.declared.LargestError.{LargestError}
use Rattle.season_report.specs.declared.Season.{Season}

-- 'the largest r_i' of all axes of all jobs
unfoldable pub largest_error : List JobEnd → ℕ
largest_error jobs = largest_of (flat_map errors_of jobs)

-- 'the first job that has it'
unfoldable pub first_job : List JobEnd → ℕ
first_job jobs = first_from 1 (λ job. is_among (largest_error jobs) (errors_of job)) jobs

-- the job of a number, from 1; where there is none, as a refused one
unfoldable pub job_numbered : List JobEnd → ℕ → JobEnd
job_numbered jobs zero = refused_under 0
job_numbered jobs (suc before) = get_or jobs before (refused_under 0)

-- 'the lowest axis number .. that has it', of these errors of a job
unfoldable pub lowest_axis : ℕ → List ℕ → ℕ
lowest_axis error errors = first_from 1 (λ x. eqb x error) errors

-- the largest error with its job and its axis: none where no job has one, and its job is 0
unfoldable pub largest_if_any : ℕ → ℕ → ℕ → Option LargestError
largest_if_any error job axis = cond (eqb job 0) None (Some (record { error = error; job = job; axis = axis }))

-- a figure for each of the numbers 1 to 4
abbrev pub by_number : (ℕ → ℕ) → List ℕ
by_number figure = figure 1 ∷ figure 2 ∷ figure 3 ∷ figure 4 ∷ []

unfoldable pub figures_of : List JobEnd → Season
figures_of jobs =
    record {
      jobs = length jobs;
      settled = how_many (ended_as is_settled) jobs;
      still = how_many (ended_as is_still) jobs;
      spent = how_many (ended_as is_spent) jobs;
      refused = by_number (λ number. how_many (is_refused_under number) jobs);
      turns = total_of job_turns jobs;
      largest =
          largest_if_any (largest_error jobs) (first_job jobs)
          (lowest_axis (largest_error jobs) (errors_of (job_numbered jobs (first_job jobs))));
    }

-- of job texts
unfoldable pub text_figures : List (List ℕ) → Season
text_figures texts = figures_of (map end_of texts)
