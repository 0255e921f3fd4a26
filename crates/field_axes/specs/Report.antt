-- What a job text is answered with, as numbers: the report's length or the refusal's number negated, and the refusal's line.
use Rattle.std.specs.Prelude.{ℕ, Result, Ok, Err, ℤ, pos, neg_ℤ}
use Rattle.job.specs.declared.RefusedLine.{RefusedLine}
use Rattle.refusal.specs.Refusal.{number_of}

unfoldable pub length_or_number : Result ℕ RefusedLine → ℤ
length_or_number (Ok length) = pos length
length_or_number (Err refused) = neg_ℤ (pos (number_of refused.refusal))

-- 0 where a report is written, and for 12, which is of no line
unfoldable pub refused_line : Result ℕ RefusedLine → ℕ
refused_line (Ok length) = 0
refused_line (Err refused) = refused.line
