-- `first::first_line` meets its contract: each field that was read, or was not, picks the same branch of `parameters_at`.
use Rattle.std.proofs.Common.{◌≡◌, true, false, ◌∙◌, sym}
use Rattle.readings.specs.Ranges.{parameters_in_range}
use Rattle.job.proofs.Ends.{p-untagged, p-first, p-second, p-third, p-whole}
use Rattle.job.proofs.first.first_line.Goals as goal

pub returns-then-not-tagged : goal.returns-then-not-tagged
returns-then-not-tagged c = p-untagged _ (sym c.tagged.ensures ∙ c.if-not-tagged.true)

pub returns-in_default : goal.returns-in_default
returns-in_default c = p-first _ (sym c.tagged.ensures ∙ c.if-not-tagged.false) _ c.number.ensures c.in_default.not-Inner

pub returns-in_default-number : goal.returns-in_default-number
returns-in_default-number c =
    p-second _ (sym c.tagged.ensures ∙ c.if-not-tagged.false) _ c.number.ensures _ _ c.in-Inner.is _ c.number-2.ensures
    c.in_default-number.not-Inner

pub returns-in_default-number-2 : goal.returns-in_default-number-2
returns-in_default-number-2 c =
    p-third _ (sym c.tagged.ensures ∙ c.if-not-tagged.false) _ c.number.ensures _ _ c.in-Inner.is _ c.number-2.ensures _ _
    c.in-Inner-number.is _ c.number-3.ensures c.in_default-number-2.not-Last

-- The line's three numbers are read.
pub returns : goal.returns
returns c =
    let e : parameters_in_range c.in-Inner.n c.in-Inner-number.limit c.in-Last.tolerance ≡ true
    = rw (c.from.ensures, c.from-2.ensures) at (sym c.parameters_within.ensures ∙ c.if-not-parameters_within.false) in
    rw (c.from.ensures, c.from-2.ensures)
    (simp e at
    (p-whole _ (sym c.tagged.ensures ∙ c.if-not-tagged.false) _ c.number.ensures _ _ c.in-Inner.is _ c.number-2.ensures _ _
    c.in-Inner-number.is _ c.number-3.ensures _ _ c.in-Last.is))

pub returns-then-not-parameters_within : goal.returns-then-not-parameters_within
returns-then-not-parameters_within c =
    let e : parameters_in_range c.in-Inner.n c.in-Inner-number.limit c.in-Last.tolerance ≡ false
    = rw (c.from.ensures, c.from-2.ensures) at (sym c.parameters_within.ensures ∙ c.if-not-parameters_within.true) in
    simp e at
    (p-whole _ (sym c.tagged.ensures ∙ c.if-not-tagged.false) _ c.number.ensures _ _ c.in-Inner.is _ c.number-2.ensures _ _
    c.in-Inner-number.is _ c.number-3.ensures _ _ c.in-Last.is)
