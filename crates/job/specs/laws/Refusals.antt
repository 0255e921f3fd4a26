-- The refusals of job text: a refusal that `job_of` gives is one of 1 to 4, and the one with its number.
use Rattle.std.specs.Prelude.{ℕ, suc, ◌≤◌, Bool, true, false, cond, List, [], ◌∷◌, ◌&&◌, ltb, eqb, length, get_or}
use Rattle.std.proofs.Math.Path.{◌≡◌, refl}
use Rattle.std.proofs.Common.{lit≤}
use Rattle.std.proofs.Math.Option.{Option, none, some}
use Rattle.text.specs.Parts.{split}
use Rattle.refusal.specs.Refusal.{number_of, numbered}
use Rattle.readings.specs.Ranges.{parameters_in_range}
use Rattle.job.specs.Range.{sample_in_range}
use Rattle.job.specs.Text.{line_of}
use Rattle.job.specs.Job.{Job, Answer, refused, accepted, with_sample, next_line, nothing, ended, judged_line, job_after, begun, job_of_lines, job_of}

pub record KnownNumber (number : ℕ) : Type 0 where
  pub is : number_of (numbered number) ≡ number
  pub from : 1 ≤ number
  pub to : number ≤ 4

abbrev pub Known : Answer → Type 0
Known (refused number line) = KnownNumber number
Known (accepted j) = Unit

known-1 : KnownNumber 1
known-1 = record { is = refl; from = lit≤ tt; to = lit≤ tt }

known-2 : KnownNumber 2
known-2 = record { is = refl; from = lit≤ tt; to = lit≤ tt }

known-3 : KnownNumber 3
known-3 = record { is = refl; from = lit≤ tt; to = lit≤ tt }

known-4 : KnownNumber 4
known-4 = record { is = refl; from = lit≤ tt; to = lit≤ tt }

either : (b : Bool) (x y : Answer) → Known x → Known y → Known (cond b x y)
either true x y p q = p
either false x y p q = q

judged-known : (j : Job) (o oE : Option (List ℕ)) (rest : List (List ℕ)) (go : List ℕ → Answer) → ((xs : List ℕ) → Known (go xs)) →
    Known (judged_line j o oE rest go)
unfolding judged_line ended
judged-known j (some xs) oE rest go h =
    either (sample_in_range xs) _ (refused 2 (next_line j)) (either (ltb (length j.dilutions) 256) (go xs) (refused 3 (next_line j)) (h xs) known-3)
    known-2
judged-known j none (some xs) rest go h =
    either (ltb (length j.dilutions) 2) (refused 3 (next_line j)) _ known-3
    (either (eqb (get_or xs 0 0) (length j.dilutions) && nothing rest) (accepted j) (refused 4 (next_line j)) tt known-4)
judged-known j none none rest go h = known-1

after-known : (ls : List (List ℕ)) (j : Job) → Known (job_after j ls)
unfolding job_after
after-known [] j = known-1
after-known (part ∷ []) j = known-1
after-known (line ∷ part ∷ parts) j =
    judged-known j (line_of 83 (suc j.n) line) (line_of 69 1 line) (part ∷ parts) (λ xs. job_after (with_sample j xs) (part ∷ parts))
    (λ xs. after-known (part ∷ parts) (with_sample j xs))

begun-known : (o : Option (List ℕ)) (rest : List (List ℕ)) → Known (begun o rest)
unfolding begun
begun-known none rest = known-1
begun-known (some xs) rest =
    either (parameters_in_range (get_or xs 0 0) (get_or xs 1 0) (get_or xs 2 0)) _ (refused 2 1) (after-known rest _) known-2

lines-known : (ls : List (List ℕ)) → Known (job_of_lines ls)
unfolding job_of_lines
lines-known [] = known-1
lines-known (part ∷ []) = known-1
lines-known (line ∷ part ∷ parts) = begun-known (line_of 80 3 line) (part ∷ parts)

pub known : (text : List ℕ) → Known (job_of text)
unfolding job_of
known text = lines-known (split 10 text)
