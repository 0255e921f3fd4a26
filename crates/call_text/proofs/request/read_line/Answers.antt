-- `request::read_line` meets its contract: no fields, or a tag and numbers.
use Rattle.std.proofs.Common.{sym}
use lib.Seq.{length-take-le}
use Rattle.call_text.proofs.Lists.{asks_none, asks-some, in_array}
use Rattle.call_text.proofs.request.read_line.Goals as goal

pub returns-in_err-fields : goal.returns-in_err-fields
returns-in_err-fields c = rw c.from_residual.ensures (asks_none _ _ _ _ c.read_fields.ensures c.in_err-fields.was)

pub slice_bounds-by_bench-end : goal.slice_bounds-by_bench-end
slice_bounds-by_bench-end c = in_array _ _ _ _ c.read_fields.ensures _ c.in_ok-fields.was

pub slice_bounds-by_bench-end-2 : goal.slice_bounds-by_bench-end-2
slice_bounds-by_bench-end-2 c = sym (length-take-le _ _ (in_array _ _ _ _ c.read_fields.ensures _ c.in_ok-fields.was))

pub returns : goal.returns
returns c = asks-some _ _ _ _ c.read_fields.ensures _ c.in_ok-fields.was _ c.by_bench.ensures
