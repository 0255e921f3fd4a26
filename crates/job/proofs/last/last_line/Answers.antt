-- `last::last_line` meets its contract: the field that was read, or was not, and each test picks the same branch of `ending_at`.
use borrow.Author.Tests.{lt-ltb, le-ltb, le-leb, lt-leb, eq-eqb, ne_eqb}
use Rattle.std.proofs.Common.{◌∙◌, sym, arith}
use Rattle.job.proofs.Tags.{tagged-room}
use Rattle.job.proofs.Ends.{e-untagged, e-first, e-whole}
use Rattle.job.proofs.last.last_line.Goals as goal

pub returns-then-not-tagged : goal.returns-then-not-tagged
returns-then-not-tagged c = e-untagged _ _ _ (sym c.tagged.ensures ∙ c.if-not-tagged.true)

pub overflow_add-at : goal.overflow_add-at
overflow_add-at c = omega (arith, tagged-room _ _ _ (sym c.tagged.ensures ∙ c.if-not-tagged.false))

pub returns-in_default : goal.returns-in_default
returns-in_default c =
    e-first _ _ _ (sym c.tagged.ensures ∙ c.if-not-tagged.false) _ c.number.ensures c.in_default.not-Last

pub returns-then-k-lt-LEAST_SAMPLES : goal.returns-then-k-lt-LEAST_SAMPLES
returns-then-k-lt-LEAST_SAMPLES c =
    let whole = e-whole _ _ c.args.k (sym c.tagged.ensures ∙ c.if-not-tagged.false) _ c.number.ensures _ _ c.in-Last.is in
    rw whole (simp (lt-ltb _ _ c.if-k-lt-LEAST_SAMPLES.true))

pub returns-then-count-k : goal.returns-then-count-k
returns-then-count-k c =
    let whole = e-whole _ _ c.args.k (sym c.tagged.ensures ∙ c.if-not-tagged.false) _ c.number.ensures _ _ c.in-Last.is in
    rw whole (simp (le-ltb _ _ c.if-k-lt-LEAST_SAMPLES.false, ne_eqb _ _ c.if-count-k.true))

pub returns-then-next-text : goal.returns-then-next-text
returns-then-next-text c =
    let whole = e-whole _ _ c.args.k (sym c.tagged.ensures ∙ c.if-not-tagged.false) _ c.number.ensures _ _ c.in-Last.is in
    rw whole (simp (le-ltb _ _ c.if-k-lt-LEAST_SAMPLES.false, eq-eqb _ _ c.if-count-k.false, lt-leb _ _ c.if-next-text.true))

pub returns : goal.returns
returns c =
    let whole = e-whole _ _ c.args.k (sym c.tagged.ensures ∙ c.if-not-tagged.false) _ c.number.ensures _ _ c.in-Last.is in
    rw whole (simp (le-ltb _ _ c.if-k-lt-LEAST_SAMPLES.false, eq-eqb _ _ c.if-count-k.false, le-leb _ _ c.if-next-text.false))
