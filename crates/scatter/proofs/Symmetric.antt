-- S is symmetric.
use Prim.Native.Nat.{ℕ}
use native.Mathlib.Nat.{mul_comm}
use mathlib.Core.List.{List}
use Rattle.integer.specs.Matrix.{Symmetric}
use Rattle.readings.specs.Samples.{Sample, total, z}
use Rattle.readings.specs.laws.Samples.{total_ext}
use Rattle.scatter.specs.Table.{S}

module _ (n : ℕ) (ss : List Sample) where
  pub S-symmetric : Symmetric n (S ss)
  unfolding S
  S-symmetric i j h g = rw (total_ext _ _ ss (λ s. mul_comm (z s i) (z s j)), mul_comm (total (λ s. z s i) ss) (total (λ s. z s j) ss))
