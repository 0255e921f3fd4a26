-- Document 02, W14: 'Take their texts one after another'. What one job more makes of the figures, what is answered, and the season after a list of
-- texts. 'The 10,001st job gives 16, unread, and leaves the figures'; for every such limit.
use Rattle.std.specs.Prelude.{ℕ, ◌+◌, ◌-◌, ◌≡◌, Bool, true, cond, List, [], ◌∷◌, ltb, get_or, length, sum, take, Option, None, Some, Result, Ok, Err}
use Rattle.job.specs.Job.{Answer as JobAnswer, accepted, job_of, refused}
use Rattle.job.specs.declared.RefusedLine.{RefusedLine}
use Rattle.refusal.specs.Refusal.{numbered}
use Rattle.refusal.specs.declared.Refusal.TheVariants.{TooManyJobs}
use Rattle.season_report.specs.Figures.{by_number, figures_of, lowest_axis, text_figures}
use Rattle.season_report.specs.Job.{JobEnd, end_of, ended_as, errors_of, is_refused_under, is_settled, is_spent, is_still, job_turns}
use Rattle.season_report.specs.Lists.{largest_of}
use Rattle.season_report.specs.declared.LargestError.{LargestError}
use Rattle.season_report.specs.declared.Season.{Season}

-- no job yet
unfoldable pub empty_season : Season
empty_season = figures_of []

-- one more where a test holds
abbrev pub counting : Bool → ℕ → ℕ
counting test count = count + cond test 1 0

-- whether an error goes before the largest so far: the first of all does, and a larger one
unfoldable pub overtakes : Option LargestError → ℕ → Bool
overtakes None other = true
overtakes (Some largest) other = ltb largest.error other

-- the largest so far and the errors of the job of this number: a job without any leaves it
unfoldable pub larger : Option LargestError → ℕ → List ℕ → Option LargestError
larger largest job [] = largest
larger largest job (x ∷ xs) =
    let error = largest_of (x ∷ xs) in
    cond (overtakes largest error) (Some (record { error = error; job = job; axis = lowest_axis error (x ∷ xs) })) largest

-- the figures and one job more
unfoldable pub added : Season → JobEnd → Season
added s job =
    record {
      jobs = s.jobs + 1;
      settled = counting (ended_as is_settled job) s.settled;
      still = counting (ended_as is_still job) s.still;
      spent = counting (ended_as is_spent job) s.spent;
      refused = by_number (λ number. counting (is_refused_under number job) (get_or s.refused (number - 1) 0));
      turns = s.turns + job_turns job;
      largest = larger s.largest (s.jobs + 1) (errors_of job);
    }

-- what a text is answered that is read: accepted, or its refusal and the line
unfoldable pub text_answer : JobAnswer → Result (Unit {0}) RefusedLine
text_answer (refused number line) = Err (record { refusal = numbered number; line = line })
text_answer (accepted j) = Ok (record {})

-- 'The 10,001st job gives 16, unread': it is of no line, and has 0
abbrev pub too_many : Result (Unit {0}) RefusedLine
too_many = Err (record { refusal = TooManyJobs; line = 0 })

-- the season after one text, and what is answered
unfoldable pub season_after_under : ℕ → Season → List ℕ → Season
season_after_under limit s text = cond (ltb s.jobs limit) (added s (end_of text)) s

unfoldable pub taken_as_under : ℕ → Season → List ℕ → Result (Unit {0}) RefusedLine
taken_as_under limit s text = cond (ltb s.jobs limit) (text_answer (job_of text)) too_many

-- after a list of texts, from any season and from an empty one
unfoldable pub season_from_under : ℕ → Season → List (List ℕ) → Season
season_from_under limit s [] = s
season_from_under limit s (text ∷ texts) = season_from_under limit (season_after_under limit s text) texts

-- 'From an empty season that nobody else writes, each figure equals the one worked out from the list of jobs alone, and outcomes and refusals
-- together make the number of jobs': of the first `limit` jobs. A text after these is answered as it is read where they are fewer than the limit, and
-- is refused 16 otherwise.
pub record SeasonReported (limit : ℕ) (texts : List (List ℕ)) : Type 0 where
  pub figures : season_from_under limit empty_season texts ≡ text_figures (take limit texts)
  pub together : (let s = season_from_under limit empty_season texts in
      s.settled + s.still + s.spent + sum s.refused ≡ s.jobs)
  pub answered : (text : List ℕ) → taken_as_under limit (season_from_under limit empty_season texts) text ≡
      cond (ltb (length texts) limit) (text_answer (job_of text)) too_many

unfoldable pub The-season : Type 0
The-season = (limit : ℕ) (texts : List (List ℕ)) → SeasonReported limit texts
