-- The layout of the sums of samples: their number, channel sums and cross sums.
use Rattle.std.specs.Prelude.{cond, List, ℕ, ◌*◌, ◌/◌, ◌%◌, leb, length}
use Rattle.integer.specs.Tabulate.{tabulate}
use Rattle.readings.specs.Samples.{Sample, z, total}
use Rattle.sums.specs.declared.Sums.{Sums}

-- A sample's products z_i×z_j, for i ≤ j at the place 8 × i + j; any other place has 0
unfoldable pub products : Sample → ℕ → ℕ
products s p = cond (leb (p / 8) (p % 8)) (z s (p / 8) * z s (p % 8)) 0

-- The totals of what each sample gives at each of m places
unfoldable pub totals : ℕ → (Sample → ℕ → ℕ) → List Sample → List ℕ
totals m v ss = tabulate m (λ p. total (λ s. v s p) ss)

unfoldable pub sums_of : List Sample → Sums
sums_of ss = record { k = length ss; channel = totals 8 z ss; cross = totals 64 products ss }
