-- The writer of job text: what it does to a lent buffer, and what follows of every call of it. `proofs/Writer` has the proofs.
use Rattle.std.specs.Prelude.{ℕ, ◌≤◌, ◌≡◌, List, ◌++◌, Result, Ok, length, drop, take}
use Rattle.job.specs.Job.{Job, accepted, job_of}
use Rattle.readings.specs.Refusal.{job_refusal}
use Rattle.text.specs.Written.{Writes}
use Rattle.refusal.specs.declared.Refusal.{Refusal}
use Rattle.job_text.specs.JobText.{job_text_of, job_with, longest}

-- 'a writer that takes n, the sweep limit, the tolerance and the samples, and writes job text': 2, 6, 3 and 12, 'tried in that order'
abbrev pub WritesJobText : ℕ → ℕ → ℕ → List ℕ → List ℕ → List ℕ → List ℕ → Result ℕ Refusal → Type 0
WritesJobText n limit tolerance dilutions counts =
    Writes (job_refusal n limit tolerance dilutions counts) (job_text_of (job_with n limit tolerance dilutions counts))

-- 'Reading that text yields those same values': whatever was handed over, where the answer is a length.
abbrev pub WrittenIsRead : Type 0
WrittenIsRead = (n limit tolerance : ℕ) (dilutions counts entry exit : List ℕ) (k : ℕ)
    → WritesJobText n limit tolerance dilutions counts entry exit (Ok k)
    → job_of (take k exit) ≡ accepted (job_with n limit tolerance dilutions counts)

-- 'and writing what was read from an accepted text yields that text': it is not refused by a buffer that has room for the text.
abbrev pub ReadIsWritten : Type 0
ReadIsWritten = (text : List ℕ) (j : Job) → job_of text ≡ accepted j → (entry exit : List ℕ) (r : Result ℕ Refusal) → length text ≤ length entry
    → WritesJobText j.n j.limit j.tolerance j.dilutions j.counts entry exit r
    → (r ≡ Ok (length text)) × (exit ≡ text ++ drop (length text) entry)

-- No text of the writer is longer than `axes` takes.
abbrev pub WrittenIsShort : Type 0
WrittenIsShort = (n limit tolerance : ℕ) (dilutions counts entry exit : List ℕ) (k : ℕ)
    → WritesJobText n limit tolerance dilutions counts entry exit (Ok k) → k ≤ longest
