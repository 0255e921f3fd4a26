-- Every row of the table is a round, by one test over the table.
use Rattle.integer.specs.Tabulate.{tabulate}
use Rattle.ledger.specs.Tournament.{before_last, every_second, first_lines, last_of, moved, round}
use Rattle.record.proofs.Rounds.{entry-p, entry-q, flat, half-most, row_of, table}
use Rattle.record.specs.inner.Orders.{half, lines_after, round_in}
use Rattle.record.proofs.sweep.round_of.Goals as goal

pub returns : goal.returns
unfolding table row_of flat tabulate round_in lines_after first_lines every_second moved last_of before_last round
returns c =
    let most = half-most c.args.n c.requires.1 in (
      entry-p (half c.args.n) c.args.row c.args.column most c.requires.2 c.requires.3,
      entry-q (half c.args.n) c.args.row c.args.column most c.requires.2 c.requires.3,
    )
