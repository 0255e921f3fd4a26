-- A negative number has a minus before its digits.
use Rattle.std.proofs.Common.{◌≡◌, ◌∷◌, ◌∙◌, arith}
use Rattle.text.specs.Decimal.{digits, number}
use Rattle.text.specs.laws.Put.{part-size, put-part}
use Rattle.text.proofs.Sign.{negative-text, natural-text}
use Rattle.text.proofs.put_number.Goals as goal
use Rattle.text.proofs.put_number.Goals.{Then-z-lt0, Else-z-lt0}

-- The text on either side of the test.
negative : (c : Then-z-lt0) → number c.args.z ≡ 45 ∷ digits c.magnitude-size.result
negative c = negative-text c.args.z c.ranges.z c.if-z-lt0.true ∙ rw c.magnitude-size.ensures

natural : (c : Else-z-lt0) → number c.args.z ≡ digits c.magnitude-size.result
natural c = natural-text c.args.z c.ranges.z c.if-z-lt0.false ∙ rw c.magnitude-size.ensures

pub put_byte-at-requires : goal.put_byte-at-requires
put_byte-at-requires c = let h = rw (negative (goal.at.put_byte-at-requires c).Then-z-lt0) at c.requires in omega arith

pub put_natural-requires : goal.put_natural-requires
put_natural-requires c =
    let h = rw (negative (goal.at.put_natural-requires c).Then-z-lt0) at c.requires in omega (arith, part-size c.put_byte-at.ensures)

pub put_natural-requires-else-z-lt0 : goal.put_natural-requires-else-z-lt0
put_natural-requires-else-z-lt0 c = rw (natural (goal.at.put_natural-requires-else-z-lt0 c).Else-z-lt0) at c.requires

pub returns-then-z-lt0 : goal.returns-then-z-lt0
returns-then-z-lt0 c =
    rw (negative (goal.at.returns-then-z-lt0 c).Then-z-lt0) (put-part c.put_byte-at.ensures c.put_natural.ensures)

pub returns-else-z-lt0 : goal.returns-else-z-lt0
returns-else-z-lt0 c = rw (natural (goal.at.returns-else-z-lt0 c).Else-z-lt0) c.put_natural-else-z-lt0.ensures
