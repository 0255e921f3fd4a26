-- `call::one_number` meets its contract: how many numbers there are picks the arm.
use Rattle.std.proofs.Common.{sym, ◌∙◌, ap, pos, Some, arith, get_or}
use mir.Facts.{to_z-of_z}
use mir.Syntax.{w64}
use mir.Val.{SFits}
use borrow.Author.Rules.{rules}
use Rattle.book_text.proofs.Asking.{alone-at, none-alone}
use Rattle.book_text.proofs.call.one_number.Goals as goal

pub returns-in-len1 : goal.returns-in-len1
returns-in-len1 c =
    let f : SFits w64 (get_or c.args.numbers.now 0 (pos 0)) = search rules in
    ap Some (rw (to_z-of_z f) at c.argument.ensures) ∙ sym (alone-at c.args.numbers.now (omega arith))

pub returns-in_default : goal.returns-in_default
returns-in_default c = sym (none-alone c.args.numbers.now (λ e. omega arith))

pub returns-in_default-2 : goal.returns-in_default-2
returns-in_default-2 c = sym (none-alone c.args.numbers.now (λ e. omega arith))
