-- The refusals of a run one after the other.
use mathlib.Core.Path.{◌≡◌}
use mathlib.Core.List.{List}
use Prim.Native.Nat.{ℕ, ◌+◌, ◌*◌, ◌≤◌, ◌<◌}
use borrow.Author.Tests.{eq-eqb, le-leb, lt-leb}
use lib.IntN.{ℤ}
use Rattle.ledger.specs.Call.{load}
use Rattle.ledger.specs.Refusal.{refusal_of}
use Rattle.limits.specs.Limits.{tolerance_limit, least_sweeps, most_sweeps}
use Rattle.field_axes.specs.Solution.{solve_refusal}

module _ (n : ℕ) (numbers : List ℤ) (limit t size : ℕ) where
  module _ (taken : refusal_of 0 0 (load n numbers) ≡ 0) where
    pub limit-low : limit < 1 → 2 ≡ solve_refusal n numbers limit t size
    unfolding solve_refusal
    limit-low h = rw (eq-eqb _ 0 taken, lt-leb 1 limit h)

    module _ (low : 1 ≤ limit) where
      pub limit-high : 16 < limit → 2 ≡ solve_refusal n numbers limit t size
      unfolding solve_refusal
      limit-high h = rw (eq-eqb _ 0 taken, le-leb least_sweeps limit low, lt-leb limit most_sweeps h)

      module _ (high : limit ≤ most_sweeps) where
        pub tolerance-high : tolerance_limit < t → 2 ≡ solve_refusal n numbers limit t size
        unfolding solve_refusal
        tolerance-high h = rw (eq-eqb _ 0 taken, le-leb least_sweeps limit low, le-leb limit most_sweeps high, lt-leb t tolerance_limit h)

        module _ (within : t ≤ tolerance_limit) where
          pub buffer-short : size < 3 + n * (n + 2) → 12 ≡ solve_refusal n numbers limit t size
          unfolding solve_refusal
          buffer-short h = rw (
            eq-eqb _ 0 taken,
            le-leb least_sweeps limit low,
            le-leb limit most_sweeps high,
            le-leb t tolerance_limit within,
            lt-leb (3 + n * (n + 2)) size h,
          )

          pub none-refused : 3 + n * (n + 2) ≤ size → 0 ≡ solve_refusal n numbers limit t size
          unfolding solve_refusal
          none-refused h = rw (
            eq-eqb _ 0 taken,
            le-leb least_sweeps limit low,
            le-leb limit most_sweeps high,
            le-leb t tolerance_limit within,
            le-leb (3 + n * (n + 2)) size h,
          )
