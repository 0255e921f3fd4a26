-- The pairs of a sweep in either order: each comes exactly once; which order is which; and both are refused alike.
use Rattle.std.specs.Prelude.{◌≡◌, refl, [], ◌∷◌, ℕ, ◌≤◌}
use Rattle.ledger.specs.Call.{sweep, sweep_in}
use Rattle.ledger.specs.Order.{pairs_in}
use Rattle.ledger.specs.Refusal.{refusal_of, refusal_under}
use Rattle.ledger.specs.declared.Order.{Order}
use Rattle.ledger.specs.declared.Order.TheVariants.{Cyclic, Tournament}
use Rattle.ledger.specs.Once.{occurrences, ExactlyOnce}
use Rattle.ledger.specs.Pairs.{cyclic, row, rows_from}
use Rattle.ledger.specs.Tournament.{every_second, first_lines, last_of, before_last, moved, round, all_rounds, among, tournament}
use Rattle.ledger.specs.laws.Tournament.{cyclic-once, named, once-to-8}

-- 'Each pair comes exactly once in a sweep', in either order
pub once-in : (order : Order) (n : ℕ) → n ≤ 8 → ExactlyOnce n (pairs_in order n)
unfolding occurrences tournament among all_rounds round moved last_of before_last first_lines every_second
once-in Cyclic = cyclic-once
once-in Tournament = once-to-8 tournament tt

-- which order is which, by the two sweeps of 4
pub cyclic-of-4 : pairs_in Cyclic 4 ≡ named 1 2 ∷ named 1 3 ∷ named 1 4 ∷ named 2 3 ∷ named 2 4 ∷ named 3 4 ∷ []
unfolding cyclic rows_from row
cyclic-of-4 = refl

pub by-tournament-of-4 : pairs_in Tournament 4 ≡ named 1 2 ∷ named 3 4 ∷ named 1 4 ∷ named 2 3 ∷ named 1 3 ∷ named 2 4 ∷ []
unfolding tournament among all_rounds round moved last_of before_last first_lines every_second
by-tournament-of-4 = refl

-- 'It is refused as the cyclic sweep is'
pub refused-alike : (order : Order) (n m : ℕ) → refusal_of n m (sweep_in order) ≡ refusal_of n m sweep
unfolding refusal_under
refused-alike order n m = refl
