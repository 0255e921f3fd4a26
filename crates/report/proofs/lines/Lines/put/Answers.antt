-- `Lines::put` meets its contract: the R line, and the A lines after it.
use native.Mathlib.Omega.{arith}
use Rattle.text.specs.laws.Put.{part-size, put-part}
use Rattle.report.specs.inner.Text.{text_of}
use Rattle.report.proofs.Written.{text-size}
use Rattle.report.proofs.lines.Lines.put.Goals as goal

pub put_word_line-at-requires : goal.put_word_line-at-requires
put_word_line-at-requires c =
    let lines = c.args.self.now in
    rw c.word_of-word.ensures (omega (arith, text-size lines.head lines.outcome lines.axes lines.n))

pub put_rows-requires : goal.put_rows-requires
put_rows-requires c =
    let lines = c.args.self.now in
    let first = rw c.word_of-word.ensures at c.put_word_line-at.ensures in (
      lines.few,
      omega (arith, lines.few),
      omega (arith, text-size lines.head lines.outcome lines.axes lines.n, part-size first),
    )

pub returns : goal.returns
unfolding text_of
returns c = put-part (rw c.word_of-word.ensures at c.put_word_line-at.ensures) c.put_rows.ensures
