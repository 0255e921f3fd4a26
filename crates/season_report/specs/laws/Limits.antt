-- No figure wraps: the limits of a season hold with one job more, and r_i and m of a kept record are small.
use Rattle.std.specs.Prelude.{ℕ, zero, suc, ◌+◌, ◌-◌, ◌^◌, ◌<◌, ◌≤◌, Bool, true, false, cond, List, [], ◌∷◌, eqb, get_or, length}
use Rattle.std.specs.Prelude.{Option, None, Some, IfSome}
use Rattle.std.proofs.Math.Decide.{dec_lt}
use Rattle.std.proofs.Math.Nat.{max-le}
use Rattle.std.proofs.Common.{arith}
use Rattle.integer.specs.Tabulate.{tabulate}
use Rattle.integer.specs.laws.Tabulate.{length-tabulate}
use Rattle.limits.specs.Limits.{most_channels, most_jobs, turn_limit}
use Rattle.ledger.specs.Call.{axis}
use Rattle.record.specs.Kept.{Kept}
use Rattle.record.specs.Record.{answer_to}
use Rattle.record.specs.Run.{Run, own}
use Rattle.record.specs.declared.Record.{Record}
use Rattle.report.specs.AxisNumbers.{axis_values}
use Rattle.report.specs.laws.AxisNumbers.{axis-answer, error-small}
use Rattle.season_report.specs.Figures.{lowest_axis}
use Rattle.season_report.specs.Job.{JobEnd, error_at, error_in, errors_of, ended_as}
use Rattle.season_report.specs.Job.{is_refused_under, is_settled, is_spent, is_still, ran, record_errors}
use Rattle.season_report.specs.Job.{refused_under, job_turns}
use Rattle.season_report.specs.Limits.{LargestLimits, SeasonLimits}
use Rattle.season_report.specs.Lists.{first_from, largest_of}
use Rattle.season_report.specs.Season.{added, counting, larger, overtakes}
use Rattle.season_report.specs.laws.Lists.{first_found}
use Rattle.season_report.specs.declared.LargestError.{LargestError}
use Rattle.season_report.specs.declared.Season.{Season}

-- the lowest axis is one of them
pub axis-within : (z : ℕ) (xs : List ℕ) → lowest_axis z xs ≤ length xs
unfolding lowest_axis
axis-within z xs = by (dec_lt 0 (first_from 1 (λ x. eqb x z) xs))
  where
    by : Dec (0 < first_from 1 (λ x. eqb x z) xs) → first_from 1 (λ x. eqb x z) xs ≤ length xs
    by (yes h) = omega (arith, (first_found (λ x. eqb x z) 1 xs 0 h).within)
    by (no h) = omega arith

-- of one job: its turns, its errors and how many these are
pub record JobLimits (e : JobEnd) : Type 0 where
  pub turns : job_turns e ≤ turn_limit
  pub error : largest_of (errors_of e) < 2 ^ 63
  pub axes : length (errors_of e) ≤ most_channels

one_more : (t : Bool) (count jobs : ℕ) → count ≤ jobs → counting t count ≤ jobs + 1
one_more true count jobs h = omega arith
one_more false count jobs h = omega arith

refused-more : (s : Season) (e : JobEnd) → ((i : ℕ) → get_or s.refused i 0 ≤ s.jobs) → (i : ℕ) → get_or (added s e).refused i 0 ≤ s.jobs + 1
unfolding added
refused-more s e l zero = one_more (is_refused_under 1 e) (get_or s.refused 0 0) s.jobs (l 0)
refused-more s e l (suc zero) = one_more (is_refused_under 2 e) (get_or s.refused 1 0) s.jobs (l 1)
refused-more s e l (suc (suc zero)) = one_more (is_refused_under 3 e) (get_or s.refused 2 0) s.jobs (l 2)
refused-more s e l (suc (suc (suc zero))) = one_more (is_refused_under 4 e) (get_or s.refused 3 0) s.jobs (l 3)
refused-more s e l (suc (suc (suc (suc i)))) = omega arith

-- the largest stays, or is one of the job's
largest-stays : (l : Option LargestError) (jobs : ℕ) → IfSome l (LargestLimits jobs) → IfSome l (LargestLimits (jobs + 1))
largest-stays None jobs h = tt
largest-stays (Some x) jobs h = record { error = h.error; job = omega (arith, h.job); axis = h.axis }

largest-more : (l : Option LargestError) (jobs : ℕ) (xs : List ℕ) → IfSome l (LargestLimits jobs) → largest_of xs < 2 ^ 63 →
    length xs ≤ most_channels → IfSome (larger l (jobs + 1) xs) (LargestLimits (jobs + 1))
unfolding larger
largest-more l jobs [] h small few = largest-stays l jobs h
largest-more l jobs (x ∷ xs) h small few = by (overtakes l (largest_of (x ∷ xs)))
  where
    by : (t : Bool) →
        (let error = largest_of (x ∷ xs) in
        IfSome (cond t (Some (record { error = error; job = jobs + 1; axis = lowest_axis error (x ∷ xs) })) l) (LargestLimits (jobs + 1)))
    by true = record { error = small; job = omega arith; axis = omega (arith, axis-within (largest_of (x ∷ xs)) (x ∷ xs), few) }
    by false = largest-stays l jobs h

pub limits-more : (s : Season) (e : JobEnd) → SeasonLimits s → s.jobs < most_jobs → JobLimits e → SeasonLimits (added s e)
unfolding added
limits-more s e l h j =
    record {
      jobs = omega arith;
      settled = one_more (ended_as is_settled e) s.settled s.jobs l.settled;
      still = one_more (ended_as is_still e) s.still s.jobs l.still;
      spent = one_more (ended_as is_spent e) s.spent s.jobs l.spent;
      refused = refused-more s e l.refused;
      turns = omega (arith, l.turns, j.turns);
      largest = largest-more s.largest s.jobs (errors_of e) l.largest j.error j.axes;
    }

pub refused-limits : (number : ℕ) → JobLimits (refused_under number)
unfolding job_turns errors_of largest_of
refused-limits number = record { turns = omega arith; error = omega arith; axes = omega arith }

-- each below a number, and so the largest
largest-below : (n : ℕ) (f : ℕ → ℕ) (b : ℕ) → 0 < b → ((i : ℕ) → i < n → f i < b) → largest_of (tabulate n f) < b
unfolding largest_of tabulate
largest-below zero f b some h = some
largest-below (suc n) f b some h =
    let a = h 0 (omega arith) in
    let r = largest-below n (λ i. f (suc i)) b some (λ i l. h (suc i) (omega arith)) in
    omega (arith, max-le {a = f 0} {b = largest_of (tabulate n (λ i. f (suc i)))} {k = b - 1} (omega arith) (omega arith))

module _ (r : Record) (k : Kept r) where
  -- of an axis that is asked
  asked-error : (i : ℕ) → 1 ≤ i → i ≤ r.solver.n → error_in (answer_to r (own (axis i))) < 2 ^ 63
  unfolding error_in axis_values
  asked-error i from to = rw (axis-answer r i from to) (error-small r (i - 1) (omega arith) k)

  pub axis-error : (i : ℕ) → i < r.solver.n → error_at r (suc i) < 2 ^ 63
  axis-error i h = asked-error _ (omega arith) (omega arith)

  pub errors-below : largest_of (record_errors r) < 2 ^ 63
  unfolding record_errors
  errors-below = largest-below r.solver.n (λ i. error_at r (suc i)) (2 ^ 63) (omega arith) axis-error

  pub errors-few : length (record_errors r) ≤ most_channels
  unfolding record_errors
  errors-few = rw (length-tabulate r.solver.n (λ i. error_at r (suc i))) k.solver.size

pub run-limits : (z : Run) → Kept z.last → JobLimits (ran z)
unfolding job_turns errors_of
run-limits z k = record { turns = k.solver.turns; error = errors-below z.last k; axes = errors-few z.last k }
