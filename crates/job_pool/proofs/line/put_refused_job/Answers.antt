-- `job_pool::line::put_refused_job` meets its contract: each field is written where the last one ended.
use Rattle.std.proofs.Common.{◌≡◌, ◌∙◌, ℕ, List, [], ◌∷◌, ◌++◌, ap, append-nil, append_assoc, arith, sym}
use Rattle.text.specs.Decimal.{digits}
use Rattle.text.specs.Line.{further, line}
use Rattle.text.specs.laws.Put.{part-size, put-part, same-put}
use Rattle.job_pool.specs.Printed.{refused_job_line}
use Rattle.job_pool.proofs.line.put_refused_job.Goals as goal

grouped : (n a j : List ℕ) → (88 ∷ []) ++ n ++ a ++ j ++ (10 ∷ []) ≡ (88 ∷ []) ++ ((n ++ (a ++ j)) ++ (10 ∷ []))
grouped n a j = simp append_assoc

fields : (number at job : ℕ) →
    (88 ∷ []) ++ (9 ∷ digits number) ++ (9 ∷ digits at) ++ (9 ∷ digits job) ++ (10 ∷ []) ≡ refused_job_line number at job
unfolding refused_job_line line further
fields number at job =
    grouped (9 ∷ digits number) (9 ∷ digits at) (9 ∷ digits job)
    ∙ ap (λ (l : List ℕ). (88 ∷ []) ++ (((9 ∷ digits number) ++ ((9 ∷ digits at) ++ l)) ++ (10 ∷ []))) (sym (append-nil (9 ∷ digits job)))

pub put_natural_field-at-requires : goal.put_natural_field-at-requires
put_natural_field-at-requires c = omega (arith, part-size c.put_byte-at.ensures)

pub put_natural_field-at-requires-2 : goal.put_natural_field-at-requires-2
put_natural_field-at-requires-2 c =
    let number = c.put_natural_field-at.ensures in
    omega (arith, part-size (put-part c.put_byte-at.ensures number.puts), number.bounded)

pub put_natural_field-at-requires-3 : goal.put_natural_field-at-requires-3
put_natural_field-at-requires-3 c =
    let number = c.put_natural_field-at.ensures in
    let line = c.put_natural_field-at-2.ensures in
    omega (arith, part-size (put-part (put-part c.put_byte-at.ensures number.puts) line.puts), number.bounded, line.bounded)

pub put_byte-requires : goal.put_byte-requires
put_byte-requires c =
    let number = c.put_natural_field-at.ensures in
    let line = c.put_natural_field-at-2.ensures in
    let job = c.put_natural_field-at-3.ensures in
    let put = put-part (put-part (put-part c.put_byte-at.ensures number.puts) line.puts) job.puts in
    omega (arith, part-size put, number.bounded, line.bounded, job.bounded)

pub returns : goal.returns
returns c =
    let number = rw (c.from.ensures, c.number.ensures) at c.put_natural_field-at.ensures.puts in
    let line = put-part (put-part c.put_byte-at.ensures number) c.put_natural_field-at-2.ensures.puts in
    same-put (fields _ _ _) (put-part (put-part line c.put_natural_field-at-3.ensures.puts) c.put_byte.ensures)
