-- `call::by_tag` meets its contract.
use Rattle.std.proofs.Common.{arith}
use Rattle.book_text.specs.inner.Played.{no_call}
use Rattle.book_text.proofs.Asking.{other-tag}
use Rattle.book_text.proofs.call.by_tag.Goals as goal

pub returns-in_default : goal.returns-in_default
returns-in_default c =
    rw (other-tag c.args.tag c.args.numbers.now (λ e. omega arith) (λ e. omega arith) (λ e. omega arith) (λ e. omega arith) (λ e. omega arith)
    (λ e. omega arith)) no_call
