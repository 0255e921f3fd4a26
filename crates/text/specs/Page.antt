-- A text in an array of n bytes.
use Rattle.std.specs.Prelude.{ℕ, ◌≤◌, ◌≡◌, List, drop, length, replicate}

-- the text's length, and 0 after it
pub record Filled (n : ℕ) (bytes : List ℕ) (len : ℕ) : Type 0 where
  pub full : length bytes ≡ n
  pub fits : len ≤ n
  pub rest : drop len bytes ≡ drop len (replicate n 0)
