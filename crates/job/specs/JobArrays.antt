-- A job in arrays, as contracts see the struct `Job`.
use Rattle.std.specs.Prelude.{ℕ, List}

pub record JobArrays : Type 0 where
  pub n : ℕ
  pub limit : ℕ
  pub tolerance : ℕ
  pub k : ℕ
  pub dilutions : List ℕ
  pub counts : List ℕ
