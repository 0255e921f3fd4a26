-- `job_table::lines::table_job` meets its contract: the text is that of the job's table, and it is written where it fits.
use Rattle.std.proofs.Common.{◌≡◌, ℕ, List, ◌∷◌, [], ℤ, pos, arith}
use Rattle.job.specs.Held.{Held, job_in}
use Rattle.job.specs.JobArrays.{JobArrays}
use Rattle.job.specs.laws.Held.{channels-held, samples-few}
use Rattle.job.specs.laws.Replying.{put_whole, too_short}
use Rattle.scatter.specs.declared.table.Table.{Table}
use Rattle.job_table.specs.JobTable.{table_for}
use Rattle.job_table.specs.Table.{table_text}
use Rattle.job_table.specs.inner.Done.{text_of_rows}
use Rattle.job_table.specs.inner.Rows.{table_rows}
use Rattle.job_table.specs.laws.TextLaws.{text-of-arrays}
use Rattle.job_table.proofs.lines.table_job.Goals as goal

-- What is written is the text of the job's table: a are the arrays that contracts see, and b the struct's.
text-is : (a b : JobArrays) → Held b → b ≡ a → (m : ℕ) (t : Table) (head : List ℤ) (rows : List (List ℤ)) → t ≡ table_for (job_in a) →
    head ≡ pos b.n ∷ pos b.k ∷ pos t.e ∷ [] → m ≡ b.n → rows ≡ table_rows b.n t.scatter → text_of_rows head m rows ≡ table_text (job_in a)
text-is a b h is m t head rows e p o q = rw (p, o, q, ← is) (text-of-arrays b h t (rw is e))

pub of-lines-requires : goal.of-lines-requires
of-lines-requires c = (channels-held _ c.job.invariant, samples-few _ c.job.invariant)

pub returns-then-buf-length : goal.returns-then-buf-length
returns-then-buf-length c =
    let l = c.of-lines.ensures in
    let s = rw (text-is c.args.job.now _ c.job.invariant c.job.view_is _ _ _ _ c.table_of-table.ensures l.0 l.1 l.2) at c.length.ensures in
    rw c.into.ensures
    (too_short table_text (job_in c.args.job.now) (omega (arith, s.exact, s.bounded)) _ (omega (arith, s.exact, c.if-buf-length.true)))

pub put-requires : goal.put-requires
put-requires c = omega (arith, c.length.ensures.exact, c.if-buf-length.false)

pub returns : goal.returns
returns c =
    let l = c.of-lines.ensures in
    let w = text-is c.args.job.now _ c.job.invariant c.job.view_is _ _ _ _ c.table_of-table.ensures l.0 l.1 l.2 in
    let s = rw w at c.length.ensures in
    put_whole table_text (job_in c.args.job.now) (omega (arith, s.exact, s.bounded)) _ _ _ (rw w at c.put.ensures)
