-- What samples and their sums keep to, for readings within the ranges; and sums that are part of others.
use Rattle.std.specs.Prelude.{ℕ, ◌≤◌, get_or}
use Rattle.sums.specs.declared.Sums.{Sums}
pub use Rattle.sums.specs.inner.Ranges.{InRange, z_limit, Bounded}

-- Sums that can be taken away from others
pub record Included (part whole : Sums) : Type 0 where
  pub number : part.k ≤ whole.k
  pub channel : (i : ℕ) → get_or part.channel i 0 ≤ get_or whole.channel i 0
  pub cross : (p : ℕ) → get_or part.cross p 0 ≤ get_or whole.cross p 0
