-- What `report` and `play` answer, as numbers.
use Rattle.std.proofs.Common.{ℕ, ◌≤◌, ◌≡◌, refl, sym, ap, ◌∙◌, Bool, true, false, cond, List, Result, Ok, Err, arith, leb, length}
use borrow.Author.Tests.{leb-true}
use Rattle.job.specs.Job.{Answer, refused, accepted, job_of}
use Rattle.job.specs.Reply.{Replies, Short, reply_by, reply_of}
use Rattle.job.specs.declared.RefusedLine.{RefusedLine}
use Rattle.play.specs.Buffer.{PlaysAll, output_of}
use Rattle.play.specs.Text.{played}
use Rattle.refusal.specs.Refusal.{numbered}
use Rattle.refusal.specs.declared.Refusal.{Refusal}
use Rattle.report.specs.Report.{report_of}
use Rattle.field_axes.specs.Done.{ReportsText}
use Rattle.field_axes.specs.Report.{length_or_number, refused_line}

short-by : (a : Answer) (size n : ℕ) → Short report_of a → Ok n ≡ reply_by report_of a size → n ≤ 2048
unfolding Short reply_by
short-by (refused number at) size n h e = let x : ◌≡◌ {A = ℕ} 0 1 = cc in absurd (omega arith)
short-by (accepted j) size n h e = by-test (leb (length (report_of j)) size) e
  where
    by-test : (b : Bool) → ◌≡◌ {A = Result ℕ RefusedLine} (Ok n) (cond b (Ok (length (report_of j)))
        (Err (record { refusal = numbered 12; line = 0 }))) →
        n ≤ 2048
    by-test true e = let q : n ≡ length (report_of j) = cc in rw q h
    by-test false e = let x : ◌≡◌ {A = ℕ} 0 1 = cc in absurd (omega arith)

module _ (text entry exit : List ℕ) (done : Result ℕ RefusedLine) (r : Replies report_of text entry exit done) where
  pub short : (n : ℕ) → done ≡ Ok n → n ≤ 2048
  unfolding reply_of
  short n e = short-by (job_of text) (length entry) n r.short (sym e ∙ r.answer)

  pub as-numbers : (other : Result ℕ RefusedLine) → done ≡ other → ReportsText text entry exit (refused_line other) (length_or_number other)
  as-numbers other e =
      record {
        answer = ap length_or_number (sym e ∙ r.answer);
        line = ap refused_line (sym e ∙ r.answer);
        buffer = r.buffer;
      }

-- what is written fits the buffer
pub played-fits : (text entry exit : List ℕ) (done : Result ℕ Refusal) → PlaysAll text entry exit done → (n : ℕ) → done ≡ Ok n → n ≤ length entry
unfolding output_of
played-fits text entry exit done p n e = by-test (leb (length (played false text)) (length entry)) refl (sym e ∙ p.answer)
  where
    by-test : (b : Bool) → leb (length (played false text)) (length entry) ≡ b →
        Ok n ≡ cond b (Ok (length (played false text))) (Err (numbered 12)) → n ≤ length entry
    by-test true t e = let q : n ≡ length (played false text) = cc in rw q (leb-true _ _ t)
    by-test false t e = let x : ◌≡◌ {A = ℕ} 0 1 = cc in absurd (omega arith)
