-- `printed` meets its contract: a report lies within the part that is lent for it, and a refusal's line within the buffer.
use Rattle.std.proofs.Common.{ℕ, ◌≡◌, ◌≤◌, List, Result, Ok, Err, arith, length, length-append, length-drop, length-take-le, refl}
use Rattle.std.specs.Prelude.{MatchResult}
use Rattle.job.specs.Job.{Job}
use Rattle.job.specs.Reply.{Replies}
use Rattle.job.specs.declared.RefusedLine.{RefusedLine}
use Rattle.job.specs.laws.Replying.{written-printed}
use Rattle.refusal.specs.Refusal.{number_of}
use Rattle.text.specs.Line.{line_x}
use Rattle.text.specs.Put.{Put}
use Rattle.test_jobs.proofs.printed.Goals as goal

within : (f : Job → List ℕ) (text part after whole printed : List ℕ) (r : Result ℕ RefusedLine) (n most : ℕ) → length part ≤ most →
    length whole ≤ most → Replies f text part after r →
    MatchResult r (λ written. (n ≡ written) × (printed ≡ whole)) (λ at. Put (line_x (number_of at.refusal) at.line) 0 whole printed n) → n ≤ most
within f text part after whole printed (Ok w) n most p l report told =
    omega (arith, told.0, (written-printed f part after text (Ok w) report w refl).within)
within f text part after whole printed (Err e) n most p l report told = omega (arith, told.within)

pub returns : goal.returns
returns c =
    within _ _ _ _ _ _ _ _ (length c.args.out.now) (rw (length-take-le _ _ c.requires.0) c.requires.0)
    (omega (arith, length-append {A = ℕ}, length-drop {A = ℕ}, c.report-reply.auto.buf, c.put_reply.auto.out))
    c.report-reply.ensures c.put_reply.ensures
