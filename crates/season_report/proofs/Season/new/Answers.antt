-- `season_report::Season::new` meets its contract.
use Rattle.std.proofs.Common.{ℕ, zero, suc, ◌≤◌, [], ◌∷◌, get_or, refl, arith}
use mathlib.Core.List.{flat_map}
use Rattle.season_report.specs.Figures.{figures_of, first_job, job_numbered, largest_error, lowest_axis, largest_if_any}
use Rattle.season_report.specs.Job.{errors_of}
use Rattle.season_report.specs.Lists.{first_from, largest_of, total_of}
use Rattle.season_report.specs.Season.{empty_season}
use Rattle.season_report.proofs.Season.new.Goals as goal

none-refused : (i : ℕ) → get_or (0 ∷ 0 ∷ 0 ∷ 0 ∷ []) i 0 ≤ 0
none-refused zero = omega arith
none-refused (suc zero) = omega arith
none-refused (suc (suc zero)) = omega arith
none-refused (suc (suc (suc zero))) = omega arith
none-refused (suc (suc (suc (suc i)))) = omega arith

pub invariant_of-result : goal.invariant_of-result
invariant_of-result c = record {
  jobs = omega arith;
  settled = omega arith;
  still = omega arith;
  spent = omega arith;
  refused = none-refused;
  turns = omega arith;
  largest = tt;
}

pub returns : goal.returns
unfolding empty_season figures_of total_of largest_error first_job lowest_axis job_numbered first_from errors_of flat_map largest_of largest_if_any
returns c = refl
