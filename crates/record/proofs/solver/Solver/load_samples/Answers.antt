use Rattle.std.proofs.Common.{◌≡◌, ◌*◌, ℕ, List, sym, ap, ◌∙◌, arith, take}
use Rattle.ledger.specs.Call.{load_samples}
use Rattle.ledger.specs.laws.Accepted.{samples-alone}
use Rattle.limits.specs.Limits.{entry_limit}
use Rattle.limits.specs.laws.Channels.{places}
use Rattle.readings.specs.Samples.{Sample}
use Rattle.readings.specs.laws.Refusal.{are-readings, two-channels}
use Rattle.scatter.specs.Table.{entries, scatter, shift, table_from_under, table_of, table_under}
use Rattle.scatter.specs.declared.table.Table.{Table}
use Rattle.scatter.specs.laws.Entries.{table-entries}
use Rattle.record.proofs.EndOfRun.{accepted, refuses}
use Rattle.refusal.specs.laws.Judged.{judged-ok}
use Rattle.record.specs.Solver.{accepted_of_under, loaded_solver, samples_solver, value_of}
use Rattle.record.specs.declared.query.Answer.TheVariants.{SamplesLoaded}
use Rattle.record.specs.laws.Accepted.{table_taken}
use Rattle.record.proofs.solver.Solver.load_samples.Goals as goal

pub returns-in-Err : goal.returns-in-Err
returns-in-Err c =
    refuses c.args.self (load_samples c.args.samples.now.n c.args.samples.now.dilutions.now c.args.samples.now.counts.now) c.requires _
    (sym (samples-alone _ _ _ _ _)) _ _
    c.in-Err.ensures c.refuse.ensures

pub table_of_readings-table-requires : goal.table_of_readings-table-requires
table_of_readings-table-requires c = are-readings _ _ _ (judged-ok _ _ _ c.in_default.ensures).0

pub overflow_mul-n : goal.overflow_mul-n
overflow_mul-n c = record { fits = omega (arith, places _ (are-readings _ _ _ (judged-ok _ _ _ c.in_default.ensures).0).channels) }

pub shared_ref_as_front-of_table : goal.shared_ref_as_front-of_table
shared_ref_as_front-of_table c = places _ (are-readings _ _ _ (judged-ok _ _ _ c.in_default.ensures).0).channels

pub of_table-requires : goal.of_table-requires
of_table-requires c =
    let taken = (judged-ok _ _ _ c.in_default.ensures).0 in
    rw c.table_of_readings-table.ensures
    (table_taken c.args.samples.now.n _ (two-channels _ _ _ taken) (are-readings _ _ _ taken).channels)

-- what the entries and the e of the table load
same-table : (n : ℕ) (ss : List Sample) (t : Table) → t ≡ table_of n ss →
    loaded_solver n (take (n * n) t.entries) t.e ≡ loaded_solver n (entries (scatter n ss)) (shift (scatter n ss))
unfolding table_under table_from_under
same-table n ss t e = rw e (ap (λ l. loaded_solver n l (shift (scatter n ss))) (table-entries n ss entry_limit))

pub returns : goal.returns
unfolding value_of accepted_of_under samples_solver table_under table_from_under
returns c =
    accepted c.args.self (load_samples c.args.samples.now.n c.args.samples.now.dilutions.now c.args.samples.now.counts.now) c.requires _
    (sym (samples-alone _ _ _ _ _)) _ _
    c.in_default.ensures
    (ap (λ (x : Table). SamplesLoaded x.e) c.table_of_readings-table.ensures)
    (c.of_table.ensures.is ∙ same-table c.args.samples.now.n _ _ c.table_of_readings-table.ensures)
