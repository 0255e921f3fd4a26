-- Document 02, W14: what 'the largest r_i, the first job that has it and the lowest axis number in that job that has it' are, and that only they are
-- so; and that r_i is the one that a job's report prints. Jobs and axes are numbered from 1.
use Rattle.std.specs.Prelude.{ℕ, ◌-◌, ◌≤◌, ◌≡◌, List, [], ◌∷◌, ℤ, pos, get_or, length, None, Some, MatchOption}
use Rattle.season_report.specs.Figures.{figures_of, job_numbered}
use Rattle.job.specs.Job.{Job, accepted, job_of, refused}
use Rattle.record.specs.declared.Record.{Record}
use Rattle.report.specs.Report.{line_a, run_for}
use Rattle.season_report.specs.Job.{JobEnd, end_of, errors_of}
use Rattle.season_report.specs.Text.{largest_numbers}
use Rattle.text.specs.Line.{number_line}

-- the job of this number has an axis of this number with this error
pub record HasError (jobs : List JobEnd) (job axis error : ℕ) : Type 0 where
  pub from : 1 ≤ axis
  pub to : axis ≤ length (errors_of (job_numbered jobs job))
  pub is : get_or (errors_of (job_numbered jobs job)) (axis - 1) 0 ≡ error

pub record LargestFirst (jobs : List JobEnd) (error job axis : ℕ) : Type 0 where
  pub has : HasError jobs job axis error
  -- 'the largest r_i'
  pub largest : (other_job other_axis other : ℕ) → HasError jobs other_job other_axis other → other ≤ error
  -- 'the first job that has it'
  pub first : (other_job other_axis : ℕ) → HasError jobs other_job other_axis error → job ≤ other_job
  -- 'the lowest axis number in that job that has it'
  pub lowest : (other_axis : ℕ) → HasError jobs job other_axis error → axis ≤ other_axis

pub record LargestNamed (jobs : List JobEnd) : Type 0 where
  -- where some job has an error, 0 though it may be, there is a largest, and its figures are these
  pub some : (job axis error : ℕ) → HasError jobs job axis error →
      MatchOption (figures_of jobs).largest ⊥ (λ largest. LargestFirst jobs largest.error largest.job largest.axis)
  -- and no others are
  pub only : (error job axis : ℕ) → LargestFirst jobs error job axis →
      (figures_of jobs).largest ≡ Some (record { error = error; job = job; axis = axis })
  -- 'If no job was accepted, the largest error, its job and its axis are printed as 0'
  pub none : ((job axis error : ℕ) → HasError jobs job axis error → ⊥) →
      ((figures_of jobs).largest ≡ None) × (largest_numbers (figures_of jobs).largest ≡ 0 ∷ 0 ∷ 0 ∷ [])

-- this is r_i of a record: line `A` i of its report, which is '`A` i a_ii r_i and row i of v', has it after an entry and before a row; 65 is `A`
pub record PrintedError (r : Record) (i error : ℕ) : Type 0 where
  pub entry : ℤ
  pub row : List ℤ
  pub line : line_a r i ≡ number_line 65 (pos i ∷ entry ∷ pos error ∷ row)

-- the errors of an accepted job
pub record JobErrors (j : Job) (errors : List ℕ) : Type 0 where
  -- one for each of its channels, of which there are at least two; so it has axis 1, and an error though that be 0
  pub many : length errors ≡ j.n
  pub some : 2 ≤ j.n
  -- document 02's 'r_i' is the one that the job's report prints: the error of axis i, at place i, is the one on line `A` i
  pub printed : (i : ℕ) → 1 ≤ i → i ≤ j.n → PrintedError (run_for j).last i (get_or errors (i - 1) 0)

-- a refused job has none
pub record TextErrors (text : List ℕ) : Type 0 where
  pub accepted : (j : Job) → job_of text ≡ accepted j → JobErrors j (errors_of (end_of text))
  pub refused : (number line : ℕ) → job_of text ≡ refused number line → errors_of (end_of text) ≡ []

unfoldable pub The-errors : Type 0
The-errors = (text : List ℕ) → TextErrors text

unfoldable pub The-largest : Type 0
The-largest = (jobs : List JobEnd) → LargestNamed jobs
