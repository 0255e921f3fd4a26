-- `read_text` meets its contract: whether the buffer is full picks the branch.
use Rattle.std.proofs.Common.{◌≡◌, length}
use borrow.Author.Rules.{rules}
use borrow.Author.Tests.{ne_eqb}
use Rattle.play.proofs.Input.{ends-early, fills}
use Rattle.play.proofs.program.read_text.Goals as goal

pub returns-in_ok-left-clause-reads : goal.returns-in_ok-left-clause-reads
returns-in_ok-left-clause-reads g c =
    let full : length c.read_full.new.buf ≡ 65536 = search rules in
    let all : length c.args.text.now ≡ 65536 = search rules in
    let read = c.in_ok-n.ensures in
    fills _ _ _ full all read.within _ _ read.bytes read.rest c.if-n-eq-INPUT_LIMIT.true _ c.in_ok-left.ensures

pub returns-else-n-eq-INPUT_LIMIT-clause-reads : goal.returns-else-n-eq-INPUT_LIMIT-clause-reads
returns-else-n-eq-INPUT_LIMIT-clause-reads g c =
    let full : length c.read_full.new.buf ≡ 65536 = search rules in
    let all : length c.args.text.now ≡ 65536 = search rules in
    let read = c.in_ok-n.ensures in
    ends-early _ _ _ full all read.within _ read.bytes c.if-n-eq-INPUT_LIMIT.false _ (ne_eqb _ _ c.if-n-eq-INPUT_LIMIT.false)
