-- The text of a table fits, and where the table is that of samples it is theirs.
use Rattle.std.proofs.Common.{◌≡◌, ℕ, ◌≤◌, List, ◌∷◌, [], ℤ, pos, arith}
use Rattle.readings.specs.Samples.{Sample}
use Rattle.scatter.specs.Table.{table_of}
use Rattle.scatter.specs.declared.table.Table.{Table}
use Rattle.text.specs.laws.Put.{same-put}
use Rattle.job_table.specs.Table.{samples_text}
use Rattle.job_table.specs.inner.Done.{text_of_rows}
use Rattle.job_table.specs.inner.Rows.{table_rows}
use Rattle.job_table.specs.laws.TextLaws.{text-of-samples}
use Rattle.job_table.proofs.lines.put_table.Goals as goal

-- what is written is the text of the samples
text-is : (n k m : ℕ) (t : Table) (head : List ℤ) (rows : List (List ℤ)) (ss : List Sample) →
    head ≡ pos n ∷ pos k ∷ pos t.e ∷ [] → m ≡ n → rows ≡ table_rows n t.scatter → t ≡ table_of n ss → n ≤ 8 →
    text_of_rows head m rows ≡ samples_text n k ss
text-is n k m t head rows ss h o q e few = rw (h, o, q, e) (text-of-samples n k ss few)

pub put-requires : goal.put-requires
put-requires c = omega arith

pub returns : goal.returns
returns c =
    let p = c.put.ensures in
    let l = c.of-lines.ensures in
    record {
      puts =
          λ ss e. same-put (text-is c.args.n c.args.k _ c.args.table _ _ ss l.0 l.1 l.2 e c.requires.0)
          (record { leaves = p.leaves; answer = omega arith; within = omega arith });
    }
