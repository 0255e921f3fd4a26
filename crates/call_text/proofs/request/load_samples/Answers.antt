-- `request::load_samples` meets its contract: a k with a minus, too few numbers after it, or n, k and the samples.
use Rattle.std.proofs.Common.{◌∙◌, arith, get_or, pos, sym}
use mir.Syntax.{w64}
use mir.Val.{SFits}
use mir.Facts.{to_z-of_z}
use borrow.Author.Rules.{rules}
use Rattle.call_text.proofs.Asking.{rest-size, samples_minus, samples-short, some-samples, tried_none, tried_some}
use Rattle.call_text.proofs.request.load_samples.Goals as goal

pub returns-in_err-k : goal.returns-in_err-k
returns-in_err-k c =
    let f : SFits w64 (get_or c.args.numbers.now 1 (pos 0)) = search rules in
    let t = tried_none _ _ f (rw (to_z-of_z f) at c.try_from.ensures) (sym c.in_err-k.was ∙ c.ok.ensures.value) in
    c.from_residual.ensures ∙ samples_minus _ _ t.0 t.1

pub returns-then-samples-k : goal.returns-then-samples-k
returns-then-samples-k c =
    let f : SFits w64 (get_or c.args.numbers.now 1 (pos 0)) = search rules in
    let t = tried_some _ _ _ (rw (to_z-of_z f) at c.try_from.ensures) (sym c.in_ok-k.was ∙ c.ok.ensures.value) in
    samples-short _ _ _ t c.in-len2-up.len_at_least (omega (arith, rest-size c.args.numbers.now))

pub returns : goal.returns
returns c =
    let f : SFits w64 (get_or c.args.numbers.now 1 (pos 0)) = search rules in
    let g : SFits w64 (get_or c.args.numbers.now 0 (pos 0)) = search rules in
    let t = tried_some _ _ _ (rw (to_z-of_z f) at c.try_from.ensures) (sym c.in_ok-k.was ∙ c.ok.ensures.value) in
    some-samples _ _ _ _ t (rw (to_z-of_z g) at c.argument.ensures) c.in-len2-up.len_at_least (omega (arith, rest-size c.args.numbers.now))
