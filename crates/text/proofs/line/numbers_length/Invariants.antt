-- The total is the length of the numbers so far, each of at most 21 bytes with its tab.
use Rattle.std.proofs.Common.{◌≡◌, ◌≤◌, ◌*◌, length, take}
use Rattle.text.specs.Line.{numbers}
use Rattle.text.proofs.line.numbers_length.Given as goal

abbrev pub invariant-loop-value : goal.invariant-loop-value
invariant-loop-value l =
    record { exact : l.total ≡ length (numbers (take l.value-index l.values)); bounded : l.total ≤ 21 * l.value-index }
