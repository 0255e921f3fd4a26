-- The dilution and the first j counts are written.
use Rattle.std.proofs.Common.{◌≡◌, ◌+◌, ◌∷◌, get_or, length, map, pos, take}
use Rattle.job_text.proofs.samples.Lines.numbers.Given as goal

abbrev pub invariant-loop-j : goal.invariant-loop-j
invariant-loop-j l = record {
  long : length l.numbers ≡ 9;
  written : take (l.j + 1) l.numbers ≡ map pos (get_or l.self.samples.dilutions.now l.i 0 ∷ take l.j l.count-items);
}
