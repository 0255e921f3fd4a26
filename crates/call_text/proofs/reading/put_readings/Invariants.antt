-- The invariant: the readings of the first i numbers are written, and what follows them is as it was.
use Rattle.std.proofs.Common.{◌≡◌}
use Rattle.call_text.proofs.Readings.{read_up_to}
use Rattle.call_text.proofs.reading.put_readings.Given as goal

abbrev pub invariant-loop-i : goal.invariant-loop-i
invariant-loop-i l = l.readings ≡ read_up_to l.numbers l.fn.readings l.i
