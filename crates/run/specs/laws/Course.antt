-- The course of a run, step by step, and what it says of the outcome.
use Rattle.std.specs.Prelude.{◌≡◌, refl, Bool, true, false, cond, List, ℕ, zero, suc, ◌+◌, ◌≤◌, ℤ}
use Rattle.std.proofs.Common.{sym, true≢false, add-suc, suc-add, zero-add, arith}
use Rattle.ledger.specs.Call.{Call, sweep, loose_pair}
use Rattle.record.specs.laws.Named.{fresh_kept, named-kept}
use Rattle.record.specs.Kept.{Kept}
use Rattle.record.specs.Done.{loaded_record}
use Rattle.record.specs.Record.{answer_to, fresh, record_after}
use Rattle.record.specs.declared.Record.{Record}
use Rattle.record.specs.Run.{Run, no_pair, no_turn, own, run_from, stop, tried}
use Rattle.run.specs.Run.{run_after, table_run}
use Rattle.record.specs.declared.run.Outcome.{Outcome}
use Rattle.record.specs.declared.run.Outcome.TheVariants.{Settled, Still, Spent}

-- with tolerance t: sweeps left to the limit, sweeps run, whether the last one made no turn, the record, and how the run ends
pub data Course (t : ℕ) : ℕ → ℕ → Bool → Record → Run → Type 0 where
  settles : {left sweeps : ℕ} {idle : Bool} {r : Record} → no_pair (answer_to r (own (loose_pair t))) ≡ true →
      Course t left sweeps idle r (stop Settled sweeps r)
  is-still : {left sweeps : ℕ} {r : Record} → no_pair (answer_to r (own (loose_pair t))) ≡ false → Course t left sweeps true r (stop Still sweeps r)
  is-spent : {sweeps : ℕ} {r : Record} → no_pair (answer_to r (own (loose_pair t))) ≡ false → Course t 0 sweeps false r (stop Spent sweeps r)
  sweeps-on : {left sweeps : ℕ} {r : Record} {z : Run} → no_pair (answer_to r (own (loose_pair t))) ≡ false →
      Course t left (suc sweeps) (no_turn (answer_to r (own sweep))) (record_after r (own sweep)) z → Course t (suc left) sweeps false r z

tried-course : (t left sweeps : ℕ) (idle : Bool) (r : Record) (later : Run) →
    (no_pair (answer_to r (own (loose_pair t))) ≡ false → Course t left sweeps false r later) →
    Course t left sweeps idle r (tried sweeps idle t r later)
unfolding tried
tried-course t left sweeps idle r later c = by-pair (no_pair (answer_to r (own (loose_pair t)))) refl idle
  where
    by-pair : (b : Bool) → no_pair (answer_to r (own (loose_pair t))) ≡ b → (idle : Bool) →
        Course t left sweeps idle r (cond b (stop Settled sweeps r) (cond idle (stop Still sweeps r) later))
    by-pair true e idle = settles e
    by-pair false e true = is-still e
    by-pair false e false = c e

pub course : (t left sweeps : ℕ) (idle : Bool) (r : Record) → Course t left sweeps idle r (run_from left sweeps idle t r)
unfolding run_from
course t zero sweeps idle r = tried-course t zero sweeps idle r _ (λ e. is-spent e)
course t (suc left) sweeps idle r =
    tried-course t (suc left) sweeps idle r _ (λ e. sweeps-on e (course t left (suc sweeps) _ (record_after r (own sweep))))

-- r is what a sweep that made no turn has left
pub record AfterIdle (r : Record) : Type 0 where
  pub before : Record
  pub left : r ≡ record_after before (own sweep)
  pub idle : no_turn (answer_to before (own sweep)) ≡ true

-- what an outcome says of the sweeps run and the last record: 'no loose pair'; 'the last sweep made no turn'; 'limit reached'
unfoldable pub Says : Outcome → ℕ → ℕ → ℕ → Record → Type 0
Says Settled limit t sweeps r = no_pair (answer_to r (own (loose_pair t))) ≡ true
Says Still limit t sweeps r = (no_pair (answer_to r (own (loose_pair t))) ≡ false) × (1 ≤ sweeps) × AfterIdle r
Says Spent limit t sweeps r = (no_pair (answer_to r (own (loose_pair t))) ≡ false) × (sweeps ≡ limit)

pub record Ends (limit t : ℕ) (z : Run) : Type 0 where
  pub within : z.sweeps ≤ limit
  pub says : Says z.outcome limit t z.sweeps z.last

course-ends : {t left sweeps : ℕ} {idle : Bool} {r : Record} {z : Run} → Course t left sweeps idle r z →
    (idle ≡ true → (1 ≤ sweeps) × AfterIdle r) → Ends (sweeps + left) t z
unfolding Says
course-ends (settles e) h = record { within = omega arith; says = e }
course-ends (is-still e) h = record { within = omega arith; says = (e, (h refl).0, (h refl).1) }
course-ends (is-spent e) h = record { within = omega arith; says = (e, omega arith) }
course-ends {t} {left} {sweeps} {r = r} {z = z} (sweeps-on {left = later} e c) h =
    rw (add-suc sweeps later, ← suc-add sweeps later) (course-ends c (λ i. (omega arith, record { before = r; left = refl; idle = i })))

pub run_ends : (first : Call) (limit t : ℕ) → Ends limit t (run_after first limit t)
unfolding run_after
run_ends first limit t = rw zero-add at (course-ends (course t limit 0 false (record_after fresh (own first))) (λ e. absurd (true≢false (sym e))))

-- and of a table
pub table-ends : (n : ℕ) (numbers : List ℤ) (e limit t : ℕ) → Ends limit t (table_run n numbers e limit t)
unfolding table_run
table-ends n numbers e limit t =
    rw zero-add at (course-ends (course t limit 0 false (loaded_record fresh n numbers e)) (λ i. absurd (true≢false (sym i))))

pub course-kept : {t left sweeps : ℕ} {idle : Bool} {r : Record} {z : Run} → Course t left sweeps idle r z → Kept r → Kept z.last
course-kept (settles e) k = k
course-kept (is-still e) k = k
course-kept (is-spent e) k = k
course-kept (sweeps-on e c) k = course-kept c (named-kept _ (own sweep) k)

pub run-kept : (first : Call) (limit t : ℕ) → Kept (run_after first limit t).last
unfolding run_after
run-kept first limit t = course-kept (course t limit 0 false _) (named-kept fresh (own first) fresh_kept)
