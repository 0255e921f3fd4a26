-- What the functions on a book's arrays promise.
use Rattle.std.specs.Prelude.{List, ◌++◌, ℕ, ◌+◌, take, drop, replicate}

-- `width` numbers from a place on taken out: those after them move up, and 0 follows
unfoldable pub closed_up : ℕ → ℕ → List ℕ → List ℕ
closed_up from width xs = take from xs ++ (drop (from + width) xs ++ replicate width 0)
