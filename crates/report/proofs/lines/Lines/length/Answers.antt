-- `Lines::length` meets its contract: the R line, and the A lines.
use mathlib.Core.Path.{ap}
use native.Mathlib.Omega.{arith}
use lib.ListN.{length}
use Rattle.run.specs.laws.Word.{short-word}
use Rattle.text.specs.laws.Numbers.{length-word-line}
use Rattle.report.proofs.Written.{text-size}
use Rattle.report.proofs.lines.Lines.length.Goals as goal

pub returns : goal.returns
returns c =
    let lines = c.args.self.now in
    record {
      exact =
          rw (
            text-size lines.head lines.outcome lines.axes lines.n,
            length-word-line,
            c.word_of.ensures,
            c.numbers_length.ensures.exact,
          )
          (omega (arith, c.rows_length.ensures.exact 65));
      bounded =
          omega (
            arith,
            ap length c.word_of.ensures,
            short-word lines.outcome,
            c.numbers_length.ensures.bounded,
            c.rows_length.ensures.bounded,
            lines.few,
          );
    }
