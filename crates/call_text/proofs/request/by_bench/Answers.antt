-- `request::by_bench` meets its contract: no number, or the bench and the numbers after it.
use Rattle.std.proofs.Common.{◌∙◌, get_or, pos}
use mir.Syntax.{w64}
use mir.Val.{SFits}
use mir.Facts.{to_z-of_z}
use borrow.Author.Rules.{rules}
use Rattle.text.specs.laws.Put.{rest_all}
use Rattle.call_text.proofs.Asking.{a-bench, no-bench}
use Rattle.call_text.proofs.request.by_bench.Goals as goal

pub returns-in_default : goal.returns-in_default
returns-in_default c = no-bench _ _ c.in_default.len_below

pub returns : goal.returns
returns c =
    let f : SFits w64 (get_or c.args.numbers.now 0 (pos 0)) = search rules in
    c.by_tag.ensures ∙ rw (rest_all 1 c.args.numbers.now) (a-bench _ _ _ (rw (to_z-of_z f) at c.argument.ensures) c.in-len1-up.len_at_least)
