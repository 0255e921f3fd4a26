-- What a writer does to a lent buffer, of bytes or of numbers: what it writes stands from the place on that it was given, everything else stays,
-- and the answer is the place after what was written.
use Rattle.std.specs.Prelude.{ℕ, ◌+◌, ◌-◌, ◌≤◌, ◌≡◌, cond, List, ◌++◌, leb, length, take, drop}

-- The length of a text, known before its first byte is written, and what it is at most.
pub record Sized (text : List ℕ) (most r : ℕ) : Type 0 where
  pub exact : r ≡ length text
  pub bounded : r ≤ most

-- A text at the start of a lent buffer, and what stands past it stays; a buffer that is too short for it stays as it is.
unfoldable pub fitted : List ℕ → List ℕ → List ℕ
fitted text entry = cond (leb (length text) (length entry)) (text ++ drop (length text) entry) entry

-- At the place 0 the exit is text ++ drop (length text) entry.
pub record Put {X : Type 0} (text : List X) (at : ℕ) (entry exit : List X) (r : ℕ) : Type 0 where
  pub leaves : exit ≡ take at entry ++ (text ++ drop (length text) (drop at entry))
  pub answer : r ≡ at + length text
  pub within : r ≤ length entry

-- The part `&mut buf[at..]` of a buffer of this size, and the buffer once that part has become y.
abbrev pub part : {X : Type 0} → ℕ → ℕ → List X → List X
part size at buffer = take (size - at) (drop at buffer)

abbrev pub with_part : {X : Type 0} → ℕ → ℕ → List X → List X → List X
with_part size at buffer y = take at buffer ++ (y ++ drop (size - at) (drop at buffer))
