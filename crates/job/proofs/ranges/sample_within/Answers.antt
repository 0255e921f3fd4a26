-- The dilution is the first number, and the counts are the n after it.
use Rattle.std.proofs.Common.{◌≡◌, ℕ, ◌+◌, ◌<◌, List, ◌∷◌, [], sym, arith, length, take, get_or}
use mathlib.Core.Bool.{and-true}
use Rattle.std.proofs.lemmas.Slice.{between_is}
use Rattle.integer.specs.Within.{all_within, within}
use Rattle.job.specs.inner.LineScan.{sample_within}
use Rattle.job.proofs.ranges.sample_within.Goals as goal

first : (low high : ℕ) (xs : List ℕ) → 0 < length xs → within low high (get_or xs 0 0) ≡ all_within low high (take 1 xs)
unfolding all_within
first low high [] h = absurd (omega arith)
first low high (x ∷ xs) h = sym (and-true (within low high x))

pub returns-then-all_within : goal.returns-then-all_within
unfolding sample_within
returns-then-all_within c =
    let counts = between_is c.args.numbers.now 1 (c.args.n + 1) in
    rw (first 1 100 c.args.numbers.now (omega arith), ← c.all_within.ensures, c.if-all_within.true, ← counts)
    c.all_within-then-all_within.ensures

pub returns-else-all_within : goal.returns-else-all_within
unfolding sample_within
returns-else-all_within c =
    rw (first 1 100 c.args.numbers.now (omega arith), ← c.all_within.ensures, c.if-all_within.false)
