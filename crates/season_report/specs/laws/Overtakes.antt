-- Which error goes before the largest so far: the first of all, and a larger one. An equal one stays behind, so that the first that has it is named.
use Rattle.std.specs.Prelude.{ℕ, ◌<◌, ◌≤◌, ◌≡◌, true, false}
use Rattle.std.proofs.Common.{arith, eq-eqb, le-ltb, lt-ltb, ne_eqb}
use Rattle.season_report.specs.Figures.{largest_if_any}
use Rattle.season_report.specs.Season.{overtakes}

-- an error of a job and an axis of these numbers, of which 0 is none
module _ (error job axis other : ℕ) where
  pub first_goes : job ≡ 0 → overtakes (largest_if_any error job axis) other ≡ true
  unfolding largest_if_any overtakes
  first_goes e = rw (eq-eqb job 0 e)

  pub no-larger-stays : 1 ≤ job → other ≤ error → overtakes (largest_if_any error job axis) other ≡ false
  unfolding largest_if_any overtakes
  no-larger-stays h l = rw (ne_eqb job 0 (λ (e : job ≡ 0). omega arith)) (le-ltb error other l)

  pub larger-goes : 1 ≤ job → error < other → overtakes (largest_if_any error job axis) other ≡ true
  unfolding largest_if_any overtakes
  larger-goes h l = rw (ne_eqb job 0 (λ (e : job ≡ 0). omega arith)) (lt-ltb error other l)
