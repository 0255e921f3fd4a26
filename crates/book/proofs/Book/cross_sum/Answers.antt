-- `book::Book::cross_sum` meets its contract.
use Rattle.std.proofs.Common.{◌∙◌}
use Rattle.book.proofs.Rebuilding.{below-diagonal, no-pair, pair-at}
use Rattle.book.proofs.Book.cross_sum.Goals as goal
use Rattle.book.proofs.Book.cross_sum.Goals.{else-i-j-via-then-i-j+else-j-self, else-i-j-via-else-i-j}

pub returns-then-j-self : goal.returns-then-j-self
returns-then-j-self c = c.pair_sum.ensures ∙ pair-at c.args.self.now c.requires c.args.p c.if-i-j.true

pub returns-else-i-j : goal.returns-else-i-j
returns-else-i-j c =
    elim c.else-i-j.branch [
      | else-i-j-via-then-i-j+else-j-self w ↦ no-pair c.args.self.now c.requires c.args.p w.if-j-self.false
      | else-i-j-via-else-i-j w ↦ below-diagonal c.args.self.now c.requires c.args.p w.if-i-j.false
    ]
