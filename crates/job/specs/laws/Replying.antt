-- Laws of a job text answered by another text: a buffer that is long enough, one that is too short, a refused job, and what is printed.
use Rattle.std.specs.Prelude.{ℕ, ◌≤◌, ◌<◌, Bool, List, ◌++◌, Result, Ok, Err, MatchResult}
use Rattle.std.proofs.Math.Path.{◌≡◌, refl, sym}
use Rattle.std.proofs.Common.{◌∙◌, zero-add, arith}
use Rattle.std.proofs.Math.Bool.{true, false, cond}
use borrow.Author.Tests.{le-leb, leb-false, leb-true, lt-leb}
use Rattle.std.proofs.Math.Dec.{leb}
use Rattle.std.proofs.Math.ListN.{drop, length}
use Rattle.limits.specs.Unless.{unless}
use Rattle.text.specs.Put.{Put, fitted}
use Rattle.text.specs.Written.{Writes, lent_after, or_short, written_of}
use Rattle.text.specs.laws.Put.{front_length}
use Rattle.text.specs.Line.{line_x}
use Rattle.job.specs.Job.{Answer, Job, accepted, job_of, refused}
use Rattle.job.specs.Reading.{reading_of}
use Rattle.job.specs.Reply.{Answers, Replies, Short, buffer_by, buffer_of, printed_by, printed_of, reply_by, reply_of}
use Rattle.job.specs.laws.Refusals.{Known, known}
use Rattle.job.specs.declared.RefusedLine.{RefusedLine}
use Rattle.refusal.specs.declared.Refusal.{Refusal}
use Rattle.refusal.specs.Refusal.{judged, number_of, numbered}

-- a writer's answer, as that to a job text: its one refusal is of no line
unfoldable pub as_reply : Result ℕ Refusal → Result ℕ RefusedLine
as_reply (Ok length) = Ok length
as_reply (Err refusal) = Err (record { refusal = refusal; line = 0 })

module _ (f : Job → List ℕ) where
  -- an accepted job, by its text's length
  module _ (j : Job) (short : length (f j) ≤ 2048) (entry : List ℕ) where
    pub too_short : length entry < length (f j) → Answers f (accepted j) entry entry (Err (record { refusal = numbered 12; line = 0 }))
    unfolding reply_by buffer_by fitted Short
    too_short h =
        let test = lt-leb (length (f j)) (length entry) h in
        record { answer = rw test; buffer = rw test; short = short }

    pub put_whole : (exit : List ℕ) (r : ℕ) → Put (f j) 0 entry exit r → Answers f (accepted j) entry exit (Ok r)
    unfolding reply_by buffer_by fitted Short
    put_whole exit r p =
        let e = front_length p in
        let test = le-leb (length (f j)) (length entry) (omega (arith, p.within, e)) in
        record { answer = rw (test, e); buffer = rw test p.leaves; short = short }

    -- the same of a writer that has no line to tell
    pub written-answers : {exit : List ℕ} {w : Result ℕ Refusal} → Writes 0 (f j) entry exit w → Answers f (accepted j) entry exit (as_reply w)
    unfolding reply_by buffer_by fitted Short or_short written_of judged lent_after as_reply
    written-answers {exit} {w} h = by (leb (length (f j)) (length entry)) refl h.answer h.buffer
      where
        by : (b : Bool) → leb (length (f j)) (length entry) ≡ b → w ≡ written_of (unless b 12 0) (f j) →
            exit ≡ lent_after (unless b 12 0) (f j) entry →
            Answers f (accepted j) entry exit (as_reply w)
        by true t e g = rw e (record { answer = rw t; buffer = rw t g; short = short })
        by false t e g = rw e (record { answer = rw t; buffer = rw t g; short = short })

  -- what a reading of a text tells
  pub replies-answered : (text entry exit : List ℕ) (a : Answer) (r : Result ℕ RefusedLine) → job_of text ≡ a → Answers f a entry exit r →
      Replies f text entry exit r
  unfolding reply_of buffer_of
  replies-answered text entry exit a r e h = record { answer = rw e h.answer; buffer = rw e h.buffer; short = rw e h.short }

  pub replies-refused : (text entry : List ℕ) (r : RefusedLine) → reading_of (job_of text) ≡ Err r → Replies f text entry entry (Err r)
  unfolding reading_of reply_by buffer_by Short
  replies-refused text entry r e = replies-answered _ _ _ _ _ refl (by (job_of text) e)
    where
      by : (a : Answer) → reading_of a ≡ Err r → Answers f a entry entry (Err r)
      by (refused n l) q = record { answer = sym (cc); buffer = refl; short = tt }
      by (accepted j) q = let x : ◌≡◌ {A = ℕ} 0 1 = cc in absurd (omega arith)

  -- what is printed: of a buffer of 2,048 bytes, never that it is too short
  module _ (entry exit : List ℕ) where
    written-by : (a : Answer) (n : ℕ) → Answers f a entry exit (Ok n) → Put (printed_by f a) 0 entry exit n
    unfolding reply_by buffer_by fitted printed_by
    written-by (refused number line) n r = let e = r.answer in let x : ◌≡◌ {A = ℕ} 0 1 = cc in absurd (omega arith)
    written-by (accepted j) n r = by-test (leb (length (f j)) (length entry)) refl r.answer r.buffer
      where
        by-test : (b : Bool) → leb (length (f j)) (length entry) ≡ b →
            ◌≡◌ {A = Result ℕ RefusedLine} (Ok n) (cond b (Ok (length (f j))) (Err (record { refusal = numbered 12; line = 0 }))) →
            exit ≡ cond b (f j ++ drop (length (f j)) entry) entry → Put (f j) 0 entry exit n
        by-test true t e g =
            let q : n ≡ length (f j) = cc in
            record { leaves = g; answer = q ∙ sym (zero-add _); within = rw q (leb-true _ _ t) }
        by-test false t e g = let x : ◌≡◌ {A = ℕ} 0 1 = cc in absurd (omega arith)

    refused-by : (a : Answer) (refusal : RefusedLine) → Known a → 2048 ≤ length entry → Answers f a entry exit (Err refusal) →
        (exit ≡ entry) × (printed_by f a ≡ line_x (number_of refusal.refusal) refusal.line)
    unfolding reply_by buffer_by fitted printed_by Short
    refused-by (refused number line) refusal k h r =
        let e = r.answer in
        let p : refusal ≡ record { refusal = numbered number; line = line } = cc in
        (r.buffer, rw p (rw k.is))
    refused-by (accepted j) refusal k h r = by-test (leb (length (f j)) (length entry)) refl r.answer
      where
        by-test : (b : Bool) → leb (length (f j)) (length entry) ≡ b →
            ◌≡◌ {A = Result ℕ RefusedLine} (Err refusal) (cond b (Ok (length (f j))) (Err (record { refusal = numbered 12; line = 0 }))) →
            (exit ≡ entry) × (f j ≡ line_x (number_of refusal.refusal) refusal.line)
        by-test true t e = let x : ◌≡◌ {A = ℕ} 0 1 = cc in absurd (omega arith)
        by-test false t e = absurd (omega (arith, leb-false (length (f j)) (length entry) t, r.short))

    module _ (text : List ℕ) (answer : Result ℕ RefusedLine) (r : Replies f text entry exit answer) where
      answers : (other : Result ℕ RefusedLine) → answer ≡ other → Answers f (job_of text) entry exit other
      unfolding reply_of buffer_of
      answers other e = record { answer = sym e ∙ r.answer; buffer = r.buffer; short = r.short }

      pub written-printed : (n : ℕ) → answer ≡ Ok n → Put (printed_of f text) 0 entry exit n
      unfolding printed_of
      written-printed n e = written-by (job_of text) n (answers (Ok n) e)

      pub refused-printed : (refusal : RefusedLine) → 2048 ≤ length entry → answer ≡ Err refusal →
          (exit ≡ entry) × (printed_of f text ≡ line_x (number_of refusal.refusal) refusal.line)
      unfolding printed_of
      refused-printed refusal h e = refused-by (job_of text) refusal (known text) h (answers (Err refusal) e)

-- what is printed of a reply: the text that was left in the buffer, or the line of the refusal
pub reply_printed : (f : Job → List ℕ) (text entry mid exit : List ℕ) (answer : Result ℕ RefusedLine) (n : ℕ) → 2048 ≤ length entry →
    Replies f text entry mid answer →
    MatchResult answer (λ written. (n ≡ written) × (exit ≡ mid)) (λ refused. Put (line_x (number_of refused.refusal) refused.line) 0 mid exit n) →
    Put (printed_of f text) 0 entry exit n
reply_printed f text entry mid exit (Ok written) n room r told = rw (told.0, told.1) (written-printed f entry mid text (Ok written) r written refl)
reply_printed f text entry mid exit (Err e) n room r told =
    let d = refused-printed f entry mid text (Err e) r e room refl in
    rw d.1 (rw d.0 at told)
