-- A number from 10^k on, and below 10^(k + 1), has k + 1 digits.
use Rattle.std.proofs.Common.{◌≡◌, arith, length, pow-suc}
use Rattle.text.specs.Decimal.{digits}
use Rattle.text.specs.laws.Digits.{length-from, length-natural, length_digits, one-digit}
use Rattle.text.proofs.natural_length.Goals as goal

pub returns-in-Some : goal.returns-in-Some
returns-in-Some c =
    let k = c.in-Some.power in
    let h = c.in-Some.ensures in
    let more = length-from k c.args.x h.power_le in
    let few = length_digits k c.args.x (omega (arith, h.next_power_gt, pow-suc 10 k)) in
    record { exact = omega arith; bounded = omega (arith, length-natural c.args.x (omega arith)) }

pub returns-in-None : goal.returns-in-None
returns-in-None c =
    let one : length (digits c.args.x) ≡ 1 = rw (one-digit c.args.x (omega (arith, c.in-None.ensures.none))) in
    record { exact = omega arith; bounded = omega arith }
