-- A book's table is that of the job with its samples.
use Rattle.std.specs.Prelude.{◌≡◌, true, List, [], ◌++◌, ℕ, ◌*◌, ◌≤◌, leb, length, Ok}
use Rattle.std.proofs.Common.{sym, ap₂, ◌∙◌, append-nil, arith}
use Rattle.std.proofs.Math.Path.{ap}
use Rattle.std.proofs.Math.Nat.{mul_comm}
use borrow.Author.Tests.{eq-eqb, le-leb, leb-true}
use Rattle.std.specs.Float.Ieee.Bits.{is_true}
use Rattle.limits.specs.Limits.{least_samples, most_samples}
use Rattle.limits.specs.Unless.{unless}
use Rattle.limits.specs.laws.Unless.{passed}
use Rattle.integer.specs.Tabulate.{tabulate}
use Rattle.integer.specs.Within.{within}
use Rattle.readings.specs.Ranges.{parameters_in_range}
use Rattle.readings.specs.Samples.{Sample, sample_at, samples}
use Rattle.scatter.specs.Table.{table_of}
use Rattle.refusal.specs.Refusal.{judged}
use Rattle.job.specs.Values.{Proper, in_range}
use Rattle.job_table.specs.JobTable.{samples_of, table_for}
use Rattle.job_text.proofs.Reading.{reads-back}
use Rattle.book.specs.Book.{counts_of, dilutions_of, samples_in}
use Rattle.book.specs.Calls.{book_refusal, make_table}
use Rattle.book.specs.Consistent.{AllProper, Consistent}
use Rattle.book.specs.Done.{table_to}
use Rattle.book.specs.declared.Book.{Book}
use Rattle.book.specs.laws.Book.{held, length-counts, length-dilutions}
use Rattle.book.specs.laws.Calls.{channels-passed, number-held}
use Rattle.book.specs.laws.Held.{counts-within, dilutions-within}
use Rattle.book_job.specs.SameTable.{SameTable, job_with_those}

-- samples handed over as dilutions and counts are those samples
handed-over : (n : ℕ) (ss : List Sample) → AllProper n ss → samples n (dilutions_of ss) (counts_of ss) ≡ ss
unfolding samples
handed-over n ss p =
    ap₂ (λ d c. tabulate (length (dilutions_of ss)) (sample_at n d c)) (sym (append-nil (dilutions_of ss))) (sym (append-nil (counts_of ss)))
    ∙ ap (λ k. tabulate k (sample_at n (dilutions_of ss ++ []) (counts_of ss ++ []))) (length-dilutions ss)
    ∙ held n ss [] [] p

module _ (b : Book) (c : Consistent b) (e : book_refusal b.n b.summary.k make_table ≡ 0) where
  enough : least_samples ≤ length (samples_in b)
  unfolding book_refusal
  enough =
      let p = channels-passed b.n (unless (leb least_samples b.summary.k) 3 0) e in
      let q = passed (leb least_samples b.summary.k) 3 0 p.2 (omega arith) in
      rw (← number-held b) (leb-true least_samples b.summary.k (is_true _ q.0))

  module _ (limit tolerance : ℕ) (r : parameters_in_range b.n limit tolerance ≡ true) where
    proper : Proper (job_with_those b limit tolerance)
    unfolding in_range within
    proper =
        record {
          ranges = simp (r, dilutions-within b.n (samples_in b) c.proper, counts-within b.n (samples_in b) c.proper);
          samples = simp (
            length-dilutions,
            le-leb least_samples (length (samples_in b)) enough,
            le-leb (length (samples_in b)) most_samples c.number,
          );
          counted =
              length-counts b.n (samples_in b) c.proper ∙ mul_comm b.n (length (samples_in b))
              ∙ ap (λ k. k * b.n) (sym (length-dilutions (samples_in b)));
        }

    those : samples_of (job_with_those b limit tolerance) ≡ samples_in b
    unfolding samples_of
    those = handed-over b.n (samples_in b) c.proper

    tables : table_to b ≡ Ok (table_for (job_with_those b limit tolerance))
    unfolding table_to table_for judged
    tables = rw (eq-eqb (book_refusal b.n b.summary.k make_table) 0 e) (ap (λ ss. Ok (table_of b.n ss)) (sym those))

pub same-table : SameTable
same-table b c e limit tolerance r =
    record {
      text = reads-back (job_with_those b limit tolerance) (proper b c e limit tolerance r);
      samples = those b c e limit tolerance r;
      table = tables b c e limit tolerance r;
    }
