-- The invariant: the line read from its first number is the line read on from number i.
use Rattle.std.proofs.Common.{◌≡◌, ◌-◌, length, replicate}
use Rattle.job.specs.inner.LineScan.{numbers_at}
use Rattle.job.proofs.sample.numbers_at.Given as goal

abbrev pub invariant-loop-i : goal.invariant-loop-i
invariant-loop-i l =
    (length l.numbers ≡ 9) × (numbers_at l.text (replicate 9 0) l.from 0 l.inner ≡ numbers_at l.text l.numbers l.at l.i (l.inner - l.i))
