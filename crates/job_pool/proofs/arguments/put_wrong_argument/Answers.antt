-- `job_pool::arguments::put_wrong_argument` meets its contract: 2,048 bytes are room for the line.
use mathlib.Core.List.{[], ◌∷◌}
use Prim.Native.Nat.{ℕ, ◌≤◌, ◌<◌, ◌^◌}
use native.Mathlib.Omega.{arith}
use lib.IntN.{ℤ, pos}
use lib.ListN.{length, length-append}
use mathlib.Core.Path.{◌≡◌}
use mir.Syntax.{w64}
use mir.Val.{SFits, of_z, to_z}
use mir.Facts.{to_z-of_z}
use Rattle.text.specs.Line.{further, number_line, numbers}
use Rattle.text.specs.laws.Digits.{length-number}
use Rattle.text.specs.laws.Numbers.{length-number-line}
use Rattle.job_pool.specs.Arguments.{wrong_argument_line}
use Rattle.job_pool.proofs.arguments.put_wrong_argument.Goals as goal

short : (k : ℕ) → k < 2 ^ 32 → length (number_line 63 (pos k ∷ [])) ≤ 23
unfolding numbers further
short k h = rw length-number-line (simp length-append (omega (arith, length-number (pos k) (omega (arith, h)))))

-- the number, asked of its bits
read : {z : ℤ} {k : ℕ} → z ≡ pos k → k < 2 ^ 32 → to_z w64 (of_z w64 z) ≡ pos k
read {k = k} e h = let f : SFits w64 (pos k) = record { sfits = omega (arith, h) } in rw e (to_z-of_z f)

pub put_line-requires : goal.put_line-requires
put_line-requires c =
    rw (read c.from.ensures c.ranges.number.fits) (omega (arith, short c.args.number c.ranges.number.fits, c.told-out))

pub returns : goal.returns
unfolding wrong_argument_line
returns c = rw (read c.from.ensures c.ranges.number.fits) at c.put_line.ensures
