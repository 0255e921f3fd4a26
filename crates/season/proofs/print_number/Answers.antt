-- `season::print_number` is safe: 32 bytes are room for a tag and a number.
use Prim.Native.Nat.{ℕ, ◌≤◌}
use mathlib.Core.List.{[], ◌∷◌}
use native.Mathlib.Omega.{arith}
use lib.IntN.{pos}
use lib.ListN.{length, length-append}
use mir.Syntax.{w64}
use mir.Facts.{to_z_pos}
use Rattle.text.specs.Line.{further, number_line, numbers}
use Rattle.text.specs.laws.Digits.{length-number}
use Rattle.text.specs.laws.Numbers.{length-number-line}
use Rattle.season.proofs.print_number.Goals as goal

-- the line of a tag and a number
short : (tag k : ℕ) → k ≤ 10_000 → length (number_line tag (pos k ∷ [])) ≤ 32
unfolding numbers further
short tag k h = rw length-number-line (simp length-append (omega (arith, length-number (pos k) (omega arith))))

pub put_line-length-requires : goal.put_line-length-requires
put_line-length-requires g c =
    rw (to_z_pos w64 {n = c.args.number} (omega (arith, c.requires))) (short c.args.tag c.args.number c.requires)
