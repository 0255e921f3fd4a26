-- While none was found, the pairs that are left have the answer.
use Rattle.std.specs.Prelude.{None}
use Rattle.std.proofs.Common.{◌≡◌, ◌+◌}
use Rattle.ledger.specs.Pairs.{cyclic}
use Rattle.ledger.specs.laws.Order.{pairs_left, rows_left}
use Rattle.record.specs.Loose.{loose_of}
use Rattle.turn.specs.Turn.{at}
use Rattle.record.proofs.query.loose_pair_of.Given as goal

abbrev pub invariant-loop-q : goal.invariant-loop-q
invariant-loop-q l =
    (l.found ≡ l.initial.found) ×
    (loose_of (at l.a) l.t (pairs_left l.n l.p (l.p + 1)) ≡ loose_of (at l.a) l.t (pairs_left l.n l.p l.q))

abbrev pub invariant-search : goal.invariant-search
invariant-search l = (l.found ≡ None) × (loose_of (at l.a) l.t (cyclic l.n) ≡ loose_of (at l.a) l.t (rows_left l.n l.p))
