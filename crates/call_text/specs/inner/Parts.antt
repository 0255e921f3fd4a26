-- The first part of a text.
use Rattle.std.specs.Prelude.{ℕ, ◌+◌, ◌≤◌, ◌≡◌, cond, List, [], ◌∷◌, eqb, drop, length}

-- the bytes before the first s
unfoldable pub front : ℕ → List ℕ → List ℕ
front s [] = []
front s (b ∷ bs) = cond (eqb b s) [] (b ∷ front s bs)

-- r is the first place from `from` on that has an s, or the text's end
pub record Found (s : ℕ) (text : List ℕ) (from r : ℕ) : Type 0 where
  pub is : r ≡ from + length (front s (drop from text))
  pub low : from ≤ r
  pub high : r ≤ length text
