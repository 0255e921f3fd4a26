-- The figures of the largest error are as `LargestFirst` says, and only they are. The errors of an accepted job are those that its report prints.
use Prim.Native.Nat.{ℕ, zero, suc, ◌-◌, ◌<◌, ◌≤◌}
use Rattle.std.specs.Prelude.{◌≡◌, true, ℤ, pos, get_or, length, None, Some, MatchOption}
use Rattle.std.proofs.Math.Path.{refl, ap}
use Rattle.std.proofs.Common.{subst, sym, ◌∙◌, le_antisymm}
use mathlib.Core.List.{List, [], ◌∷◌, ◌++◌, flat_map}
use Rattle.std.proofs.Math.Decide.{dec_lt}
use native.Mathlib.Omega.{arith}
use borrow.Author.Tests.{eq-eqb, eqb-true, ne_eqb}
use Rattle.std.proofs.Math.Dec.{eqb}
use Rattle.std.proofs.Math.ListN.{take}
use Rattle.season_report.specs.Figures.{figures_of, first_job, job_numbered, largest_error, lowest_axis, largest_if_any}
use Rattle.integer.specs.laws.Tabulate.{get_d_tabulate, length-tabulate}
use Rattle.job.proofs.Accepted.{accepted-proper}
use Rattle.job.specs.Job.{Job, accepted, job_of, refused}
use Rattle.job.specs.Values.{Proper}
use Rattle.job.specs.laws.Proper.{channels}
use Rattle.ledger.specs.Call.{axis as axis_call}
use Rattle.record.specs.Flat.{kept_entry}
use Rattle.record.specs.Record.{answer_to, row_to}
use Rattle.record.specs.Run.{own}
use Rattle.record.specs.declared.Record.{Record}
use Rattle.record.specs.declared.query.Answer.{Answer}
use Rattle.record.specs.declared.query.Answer.TheVariants.{Axis}
use Rattle.report.proofs.Bounds.{run-channels}
use Rattle.report.specs.AxisNumbers.{axis_values}
use Rattle.report.specs.Report.{line_a, run_for}
use Rattle.report.specs.laws.AxisNumbers.{axis-answer}
use Rattle.season_report.specs.Job.{JobEnd, end_by, end_of, error_at, error_in, errors_of, record_errors, refused_under}
use Rattle.season_report.specs.Largest.{HasError, JobErrors, LargestFirst, PrintedError, The-errors, The-largest}
use Rattle.season_report.specs.Lists.{is_among}
use Rattle.season_report.specs.laws.Lists.{among-found, among-most, at-among, first_found, first-least, flat-among, flat-found, largest-there}
use Rattle.text.specs.Line.{number_line}

module _ (jobs : List JobEnd) where
  abbrev errors_at : ℕ → List ℕ
  errors_at job = errors_of (job_numbered jobs job)

  beyond : (xs : List JobEnd) (i : ℕ) → length xs ≤ i → get_or xs i (refused_under 0) ≡ refused_under 0
  beyond [] i h = refl
  beyond (x ∷ xs) zero h = absurd (omega arith)
  beyond (x ∷ xs) (suc i) h = beyond xs i (omega arith)

  -- no job, no errors
  nobody : errors_at 0 ≡ []
  unfolding job_numbered errors_of
  nobody = refl

  missing : (i : ℕ) → length jobs ≤ i → errors_at (suc i) ≡ []
  unfolding job_numbered errors_of
  missing i h = rw (beyond jobs i h)

  -- a job that has an error has a number from 1 to the number of jobs
  numbered : (job axis error : ℕ) → HasError jobs job axis error → (1 ≤ job) × (job ≤ length jobs)
  numbered zero axis error h = absurd (omega (arith, h.from, h.to, ap length nobody))
  numbered (suc i) axis error h = (omega arith, by (dec_lt i (length jobs)))
    where
      by : Dec (i < length jobs) → suc i ≤ length jobs
      by (yes l) = l
      by (no l) = absurd (omega (arith, h.from, h.to, ap length (missing i (omega arith))))

  -- the error is among those of the job, and of all
  own-error : (job axis error : ℕ) → HasError jobs job axis error → is_among error (errors_at job) ≡ true
  own-error job axis error h = rw h.is at (at-among (errors_at job) (axis - 1) (omega (arith, h.from, h.to)))

  numbered-at : (job : ℕ) → 1 ≤ job → job_numbered jobs job ≡ get_or jobs (job - 1) (refused_under 0)
  unfolding job_numbered
  numbered-at zero h = absurd (omega arith)
  numbered-at (suc i) h = let e : suc i - 1 ≡ i = omega arith in rw e

  among-job : (job axis error : ℕ) → HasError jobs job axis error → is_among error (errors_of (get_or jobs (job - 1) (refused_under 0))) ≡ true
  among-job job axis error h = rw (numbered-at job (numbered job axis error h).0) at (own-error job axis error h)

  among-all : (job axis error : ℕ) → HasError jobs job axis error → is_among error (flat_map errors_of jobs) ≡ true
  among-all job axis error h =
      let n = numbered job axis error h in
      flat-among errors_of error jobs (job - 1) (refused_under 0) (omega (arith, n.0, n.1)) (among-job job axis error h)

  -- a number that is found as a job's has a lowest axis
  module _ (z job : ℕ) (found : is_among z (errors_at job) ≡ true) where
    lowest-found : 1 ≤ lowest_axis z (errors_at job)
    unfolding lowest_axis
    lowest-found = among-found z 1 (errors_at job) (omega arith) found

    lowest-has : HasError jobs job (lowest_axis z (errors_at job)) z
    unfolding lowest_axis
    lowest-has =
        let f = first_found (λ x. eqb x z) 1 (errors_at job) 0 lowest-found in
        record { from = f.from; to = omega (arith, f.within); is = eqb-true _ z f.passes }

  -- where the first job is one, it has the largest error
  first-has : 1 ≤ first_job jobs → is_among (largest_error jobs) (errors_at (first_job jobs)) ≡ true
  unfolding first_job
  first-has h =
      let f = first_found (λ job. is_among (largest_error jobs) (errors_of job)) 1 jobs (refused_under 0) h in
      rw (numbered-at (first_job jobs) h) f.passes

  largest-says : (g i x : ℕ) → HasError jobs g i x → x ≤ largest_error jobs
  unfolding largest_error
  largest-says g i x k = among-most x (flat_map errors_of jobs) (among-all g i x k)

  first_says : (g i : ℕ) → HasError jobs g i (largest_error jobs) → first_job jobs ≤ g
  unfolding first_job
  first_says g i k =
      let n = numbered g i (largest_error jobs) k in
      let l =
      first-least (λ job. is_among (largest_error jobs) (errors_of job)) 1 jobs (refused_under 0) (g - 1) (omega (arith, n.0, n.1))
      (among-job g i (largest_error jobs) k) (omega arith) in
      omega (arith, l.1, n.0)

  lowest-says : (job z i : ℕ) → HasError jobs job i z → lowest_axis z (errors_at job) ≤ i
  unfolding lowest_axis
  lowest-says job z i k =
      let l = first-least (λ x. eqb x z) 1 (errors_at job) 0 (i - 1) (omega (arith, k.from, k.to)) (eq-eqb _ z k.is) (omega arith) in
      omega (arith, l.1, k.from)

  module _ (job axis error : ℕ) (h : HasError jobs job axis error) where
    first-there : 1 ≤ first_job jobs
    unfolding first_job largest_error
    first-there =
        flat-found errors_of (largest_error jobs) 1 jobs (omega arith) (largest-there error (flat_map errors_of jobs) (among-all job axis error h))

    figures-say : LargestFirst jobs (largest_error jobs) (first_job jobs) (lowest_axis (largest_error jobs) (errors_at (first_job jobs)))
    figures-say =
        record {
          has = lowest-has (largest_error jobs) (first_job jobs) (first-has first-there);
          largest = largest-says;
          first = first_says;
          lowest = lowest-says (first_job jobs) (largest_error jobs);
        }

    -- so there is a largest
    is-named : (figures_of jobs).largest ≡
        Some (record { error = largest_error jobs; job = first_job jobs; axis = lowest_axis (largest_error jobs) (errors_at (first_job jobs)) })
    unfolding figures_of largest_if_any
    is-named = rw (ne_eqb (first_job jobs) 0 (λ (e : first_job jobs ≡ 0). omega (arith, first-there)))

    named-says : MatchOption (figures_of jobs).largest ⊥ (λ largest. LargestFirst jobs largest.error largest.job largest.axis)
    named-says = rw is-named figures-say

  -- two that are so are the same
  same : (e g i e' g' i' : ℕ) → LargestFirst jobs e g i → LargestFirst jobs e' g' i' → (e ≡ e') × (g ≡ g') × (i ≡ i')
  same e g i e' g' i' p q =
      let error : e ≡ e' = le_antisymm (q.largest g i e p.has) (p.largest g' i' e' q.has) in
      let job : g ≡ g' = le_antisymm (p.first g' i' (rw error q.has)) (q.first g i (rw (← error) p.has)) in
      (error, job, le_antisymm (p.lowest i' (rw (error, job) q.has)) (q.lowest i (rw (← error, ← job) p.has)))

  only-these : (error job axis : ℕ) → LargestFirst jobs error job axis →
      (figures_of jobs).largest ≡ Some (record { error = error; job = job; axis = axis })
  only-these error job axis p =
      let e = same error job axis _ _ _ p (figures-say job axis error p.has) in
      is-named job axis error p.has ∙ (λ i. Some (record { error = sym e.0 i; job = sym e.1 i; axis = sym e.2 i }))

  module _ (never : (job axis error : ℕ) → HasError jobs job axis error → ⊥) where
    no-job : Dec (0 < first_job jobs) → first_job jobs ≡ 0
    no-job (yes h) = absurd (never _ _ _ (lowest-has (largest_error jobs) (first_job jobs) (first-has h)))
    no-job (no h) = omega arith

    no-error : (figures_of jobs).largest ≡ None
    unfolding figures_of largest_if_any
    no-error = rw (eq-eqb (first_job jobs) 0 (no-job (dec_lt 0 (first_job jobs))))

pub largest-named : The-largest
unfolding The-largest
largest-named jobs = record { some = named-says jobs; only = only-these jobs; none = λ never. (no-error jobs never, rw (no-error jobs never)) }

-- ---- the errors of a text

errors-many : (r : Record) → length (record_errors r) ≡ r.solver.n
unfolding record_errors
errors-many r = length-tabulate r.solver.n (λ i. error_at r (suc i))

-- the numbers before the row of an axis that is answered: its entry, and the error
values-are : (answer : Answer) (entry : ℤ) (error : ℕ) → answer ≡ Axis entry error → axis_values answer ≡ entry ∷ pos (error_in answer) ∷ []
unfolding axis_values error_in
values-are answer entry error e = rw e

module _ (r : Record) (i : ℕ) (from : 1 ≤ i) (to : i ≤ r.solver.n) where
  -- the error of axis i is the one that is answered for it, and so the one that line `A` i has
  values-answered : axis_values (answer_to r (own (axis_call i))) ≡ kept_entry r.solver.a (i - 1) (i - 1) ∷ pos (error_at r i) ∷ []
  values-answered = values-are (answer_to r (own (axis_call i))) _ _ (axis-answer r i from to)

  error-printed : PrintedError r i (error_at r i)
  unfolding line_a
  error-printed =
      let row = take r.solver.n (row_to r (own (axis_call i))) in
      record { entry = _; row = row; line = ap (λ (zs : List ℤ). number_line 65 (pos i ∷ (zs ++ row))) values-answered }

  -- and it stands at place i of the errors
  error-place : get_or (record_errors r) (i - 1) 0 ≡ error_at r i
  unfolding record_errors
  error-place =
      let e : suc (i - 1) ≡ i = omega arith in
      get_d_tabulate r.solver.n (λ k. error_at r (suc k)) (i - 1) 0 (omega arith) ∙ ap (error_at r) e

  place-printed : PrintedError r i (get_or (record_errors r) (i - 1) 0)
  place-printed = subst (PrintedError r i) (sym error-place) error-printed

run-errors : (j : Job) → Proper j → JobErrors j (errors_of (end_by (accepted j)))
unfolding end_by errors_of
run-errors j p =
    let r = (run_for j).last in
    let n = run-channels j p in
    record { many = errors-many r ∙ n; some = (channels j p).0; printed = λ i from to. place-printed r i from (omega (arith, n)) }

none-refused : (number line : ℕ) → errors_of (end_by (refused number line)) ≡ []
unfolding end_by errors_of
none-refused number line = refl

pub text-errors : The-errors
unfolding The-errors end_of
text-errors text = record { accepted = some-errors; refused = no-errors }
  where
    some-errors : (j : Job) → job_of text ≡ accepted j → JobErrors j (errors_of (end_by (job_of text)))
    some-errors j e = rw e (run-errors j (accepted-proper text j e))

    no-errors : (number line : ℕ) → job_of text ≡ refused number line → errors_of (end_by (job_of text)) ≡ []
    no-errors number line e = ap (λ a. errors_of (end_by a)) e ∙ none-refused number line
