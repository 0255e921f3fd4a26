-- An array of 8 arrays of 8 words, as the machine holds one, has 8 rows of 8 entries.
use Rattle.std.specs.Prelude.{◌≡◌, List, [], ℕ, ◌<◌, ℤ, length, get_or}

pub record Shaped (a : List (List ℤ)) : Type 0 where
  pub tall : length a ≡ 8
  pub wide : (i : ℕ) → i < 8 → length (get_or a i []) ≡ 8
