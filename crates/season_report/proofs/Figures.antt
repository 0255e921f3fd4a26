-- The figures of a list and of one job more: those of the list, with the job added.
use Prim.Native.Nat.{ℕ, zero, suc, ◌+◌, ◌<◌, ◌≤◌}
use Rattle.std.specs.Prelude.{◌≡◌, Bool, true, false, Option, Some}
use Rattle.std.proofs.Math.Path.{refl, ap}
use Rattle.std.proofs.Common.{sym, ap₂, ◌∙◌, length-append, eqb, ne_eqb}
use Rattle.std.proofs.Math.Bool.{cond}
use mathlib.Core.List.{List, [], ◌∷◌, ◌++◌}
use Rattle.std.proofs.Math.Decide.{dec_lt}
use native.Mathlib.Omega.{arith}
use Rattle.std.proofs.Math.ListN.{length, get_or-append}
use Rattle.std.proofs.Math.Seq.{get_or-append_seam}
use Rattle.season_report.specs.Figures.{by_number, figures_of, first_job, job_numbered, largest_error, lowest_axis, largest_if_any}
use Rattle.season_report.specs.Job.{JobEnd, ended_as, errors_of, is_refused_under, is_settled, is_spent, is_still, refused_under, job_turns}
use Rattle.season_report.specs.Lists.{largest_of}
use Rattle.season_report.specs.Season.{added, larger, overtakes}
use Rattle.season_report.specs.declared.LargestError.{LargestError}
use Rattle.season_report.specs.laws.Lists.{first_found, total-more}
use Rattle.season_report.specs.laws.Overtakes.{first_goes, larger-goes, no-larger-stays}
use Rattle.season_report.specs.laws.Step as step

-- the three figures of the largest error: one job more
pub record Placed (jobs : List JobEnd) (job : JobEnd) (t : Bool) : Type 0 where
  pub error : largest_error (jobs ++ job ∷ []) ≡ cond t (largest_of (errors_of job)) (largest_error jobs)
  pub number : first_job (jobs ++ job ∷ []) ≡ cond t (length jobs + 1) (first_job jobs)
  pub errors : errors_of (job_numbered (jobs ++ job ∷ []) (first_job (jobs ++ job ∷ []))) ≡
      cond t (errors_of job) (errors_of (job_numbered jobs (first_job jobs)))

-- the lowest axis, and the largest error with its job
abbrev axis_of : List JobEnd → ℕ
axis_of jobs = lowest_axis (largest_error jobs) (errors_of (job_numbered jobs (first_job jobs)))

abbrev largest : List JobEnd → Option LargestError
largest jobs = largest_if_any (largest_error jobs) (first_job jobs) (axis_of jobs)

module _ (jobs : List JobEnd) (job : JobEnd) where
  -- the job of a number that is not above the number of jobs
  stays : (n : ℕ) → n ≤ length jobs → job_numbered (jobs ++ job ∷ []) n ≡ job_numbered jobs n
  unfolding job_numbered
  stays zero h = refl
  stays (suc n) h = get_or-append jobs (job ∷ []) (refused_under 0) n (omega arith)

  last-numbered : job_numbered (jobs ++ job ∷ []) (length jobs + 1) ≡ job
  unfolding job_numbered
  last-numbered = ap (job_numbered (jobs ++ job ∷ [])) (let e : length jobs + 1 ≡ suc (length jobs) = omega arith in e)
      ∙ get_or-append_seam jobs job [] (refused_under 0)

  within : first_job jobs ≤ length jobs
  unfolding first_job largest_error
  within = by (dec_lt 0 (first_job jobs))
    where
      by : Dec (0 < first_job jobs) → first_job jobs ≤ length jobs
      by (yes h) = omega (arith, (first_found _ 1 jobs (refused_under 0) h).within)
      by (no h) = omega arith

  keeps : largest_error (jobs ++ job ∷ []) ≡ largest_error jobs → first_job (jobs ++ job ∷ []) ≡ first_job jobs → Placed jobs job false
  keeps e f = record { error = e; number = f; errors = ap errors_of (ap (job_numbered (jobs ++ job ∷ [])) f ∙ stays (first_job jobs) within) }

  goes : largest_error (jobs ++ job ∷ []) ≡ largest_of (errors_of job) → first_job (jobs ++ job ∷ []) ≡ suc (length jobs) → Placed jobs job true
  goes e f =
      let n : first_job (jobs ++ job ∷ []) ≡ length jobs + 1 = f ∙ omega arith in
      record { error = e; number = n; errors = ap errors_of (ap (job_numbered (jobs ++ job ∷ [])) n ∙ last-numbered) }

  -- it has no errors
  none_more : errors_of job ≡ [] → Placed jobs job false
  unfolding largest_error first_job
  none_more q = keeps (step.top-same errors_of jobs job q) (step.place_same errors_of jobs job q)

  -- it has some, y and ys
  module _ (y : ℕ) (ys : List ℕ) (q : errors_of job ≡ y ∷ ys) where
    first_more : first_job jobs ≡ 0 → Placed jobs job true
    unfolding largest_error first_job
    first_more e = goes (step.top-first errors_of jobs job y ys q e ∙ ap largest_of (sym q)) (step.place-first errors_of jobs job y ys q e)

    larger-more : largest_error jobs < largest_of (y ∷ ys) → Placed jobs job true
    unfolding largest_error first_job
    larger-more l = goes (step.top-larger errors_of jobs job y ys q l ∙ ap largest_of (sym q)) (step.place-larger errors_of jobs job y ys q l)

    no-larger-more : 1 ≤ first_job jobs → largest_of (y ∷ ys) ≤ largest_error jobs → Placed jobs job false
    unfolding largest_error first_job
    no-larger-more h l = keeps (step.top-stays errors_of jobs job y ys q h l) (step.place-stays errors_of jobs job y ys q h l)

    some_more : Dec (0 < first_job jobs) → Dec (largest_error jobs < largest_of (y ∷ ys)) →
        Placed jobs job (overtakes (largest jobs) (largest_of (y ∷ ys)))
    some_more (no h) d =
        let e : first_job jobs ≡ 0 = omega arith in
        rw (first_goes (largest_error jobs) (first_job jobs) (axis_of jobs) (largest_of (y ∷ ys)) e) (first_more e)
    some_more (yes h) (yes l) = rw (larger-goes (largest_error jobs) (first_job jobs) (axis_of jobs) (largest_of (y ∷ ys)) h l) (larger-more l)
    some_more (yes h) (no l) =
        let most : largest_of (y ∷ ys) ≤ largest_error jobs = omega arith in
        rw (no-larger-stays (largest_error jobs) (first_job jobs) (axis_of jobs) (largest_of (y ∷ ys)) h most) (no-larger-more h most)

  -- the lowest axis, by the job that leads
  axis-by : (t : Bool) → Placed jobs job t →
      axis_of (jobs ++ job ∷ []) ≡ cond t (lowest_axis (largest_of (errors_of job)) (errors_of job)) (axis_of jobs)
  axis-by true p = ap₂ lowest_axis p.error p.errors
  axis-by false p = ap₂ lowest_axis p.error p.errors

  -- and the largest error
  named-by : (t : Bool) → Placed jobs job t →
      (let error = largest_of (errors_of job) in
      largest (jobs ++ job ∷ []) ≡
      cond t (Some (record { error = error; job = length jobs + 1; axis = lowest_axis error (errors_of job) })) (largest jobs))
  unfolding largest_if_any
  named-by true p =
      let some : eqb (length jobs + 1) 0 ≡ false = ne_eqb (length jobs + 1) 0 (λ (e : length jobs + 1 ≡ 0). omega arith) in
      rw (axis-by true p, p.number, p.error, some)
  named-by false p = rw (axis-by false p, p.number, p.error)

  largest-more : largest (jobs ++ job ∷ []) ≡ larger (largest jobs) (length jobs + 1) (errors_of job)
  unfolding larger
  largest-more = by (errors_of job) refl
    where
      by : (l : List ℕ) → errors_of job ≡ l → largest (jobs ++ job ∷ []) ≡ larger (largest jobs) (length jobs + 1) l
      by [] q = named-by false (none_more q)
      by (y ∷ ys) q =
          rw q at
          (named-by (overtakes (largest jobs) (largest_of (y ∷ ys)))
          (some_more y ys q (dec_lt 0 (first_job jobs)) (dec_lt (largest_error jobs) (largest_of (y ∷ ys)))))

  pub figures-more : figures_of (jobs ++ job ∷ []) ≡ added (figures_of jobs) job
  unfolding figures_of added
  figures-more =
      λ i.
      record {
        jobs = (length-append jobs (job ∷ [])) i;
        settled = total-more (λ j. cond (ended_as is_settled j) 1 0) jobs job i;
        still = total-more (λ j. cond (ended_as is_still j) 1 0) jobs job i;
        spent = total-more (λ j. cond (ended_as is_spent j) 1 0) jobs job i;
        refused = by_number (λ number. total-more (λ j. cond (is_refused_under number j) 1 0) jobs job i);
        turns = total-more job_turns jobs job i;
        largest = largest-more i;
      }
