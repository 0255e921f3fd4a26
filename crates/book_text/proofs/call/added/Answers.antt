-- `call::added` meets its contract.
use Rattle.std.proofs.Common.{arith}
use Rattle.call_text.specs.Calls.{number_limit}
use Rattle.book_text.specs.inner.Played.{no_call}
use Rattle.book_text.proofs.Asking.{no-sample, sample-is}
use Rattle.book_text.proofs.Saying.{add-plays}
use Rattle.book_text.proofs.call.added.Goals as goal

pub returns-then-is_empty : goal.returns-then-is_empty
returns-then-is_empty c = rw (no-sample c.args.numbers.now (search arith)) no_call

pub put_readings-requires : goal.put_readings-requires
unfolding number_limit
put_readings-requires c = omega arith

pub returns : goal.returns
returns c =
    rw (sample-is c.args.numbers.now _ _ (λ z. search arith) c.put_readings.ensures)
    (add-plays _ _ _ _ _ c.add.ensures c.changed.ensures)
