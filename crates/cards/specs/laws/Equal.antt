-- Card 9, equal samples: every S is 0, and a run on a table of zeros is settled before its first sweep.
use Rattle.std.specs.Prelude.{ℕ, zero, suc, ◌+◌, ◌-◌, ◌*◌, ◌^◌, ◌<◌, ◌≤◌, ◌≡◌, refl, List, ℤ, pos, length, get_or, replicate, take}
use Rattle.std.proofs.Math.Path.{sym}
use Rattle.std.proofs.Common.{ap, ◌∙◌, mul_assoc, suc-mul, zero-mul, arith, pow_pos, ext_get_or}
use Rattle.std.proofs.Math.Bool.{false}
use Rattle.std.proofs.Math.Nat.{mul-mul-mul_comm}
use borrow.Author.Tests.{eq-eqb}
use Rattle.std.proofs.Math.IntN.{+ℤ_invr, *ℤ-zero}
use Rattle.std.proofs.Math.ListN.{length-replicate}
use Rattle.integer.specs.Padded.{padded}
use Rattle.integer.specs.laws.Padded.{length-padded, padded-at}
use Rattle.integer.specs.laws.RowMajor.{row_major-all}
use Rattle.integer.specs.laws.Tabulate.{get_d-repeated}
use Rattle.ledger.specs.laws.Accepted.{Loads}
use Rattle.ledger.specs.Call.{load, loose_pair}
use Rattle.ledger.specs.Refusal.{refusal_of}
use Rattle.limits.specs.Limits.{entry_limit, tolerance_limit, units}
use Rattle.limits.specs.laws.Channels.{places}
use Rattle.record.specs.laws.Fill.{kept-flat_of}
use Rattle.record.specs.Flat.{kept_entry}
use Rattle.record.specs.Record.{answer_to, fresh, record_after}
use Rattle.record.specs.Solver.{accepted_of_under, answer_of, loaded_solver, value_of}
use Rattle.record.specs.declared.Record.{Record}
use Rattle.record.specs.laws.Named.{own-answers}
use Rattle.ledger.specs.Pairs.{cyclic}
use Rattle.rounding.specs.laws.Nearest.{rnd-zero}
use Rattle.record.specs.laws.Accepted.{load-taken, loose-pair-taken}
use Rattle.readings.specs.Samples.{Sample, z, total}
use Rattle.scatter.specs.Table.{S, scatter, smallest_shift, shift, shift_under, entries, table_from, table_from_under, table_of, table_under}
use Rattle.scatter.specs.laws.Entries.{entry_at, largest-zeros, length-entries, length-scatter, table-entries}
use Rattle.turn.specs.laws.InUse.{in_use-inside}
use Rattle.record.specs.Run.{no_pair, own, stop}
use Rattle.run.specs.Run.{run_after, run_of}
use Rattle.run.specs.laws.Calls.{own-after}
use Rattle.record.specs.laws.Running.{run_settled}
use Rattle.record.specs.declared.run.Outcome.TheVariants.{Settled}
use Rattle.record.specs.Loose.{loose_of}
use Rattle.record.specs.laws.Loose.{first-loose}
use Rattle.record.specs.declared.query.Answer.TheVariants.{NoPair}
use Rattle.integer.specs.Matrix.{matrix_of}
use Rattle.cards.specs.Cards.{SettledAtOnce, zero_table}

abbrev zeros : ℕ → List ℤ
zeros n = replicate (n * n) (pos 0)

total-equal : (f : Sample → ℕ) (k : ℕ) (s : Sample) → total f (replicate k s) ≡ k * f s
unfolding total
total-equal f zero s = sym (zero-mul (f s))
total-equal f (suc k) s = rw (total-equal f k s) (omega (arith, suc-mul k (f s)))

-- k × (k × ab) = (k × a) × (k × b)
same : (k a b : ℕ) → k * (k * (a * b)) ≡ (k * a) * (k * b)
same k a b = sym (mul_assoc k k (a * b)) ∙ mul-mul-mul_comm k k a b

zeros-only : (m : ℕ) (us : List ℤ) → length us ≡ m → ((p : ℕ) → get_or us p (pos 0) ≡ pos 0) → us ≡ replicate m (pos 0)
zeros-only m us l h =
    ext_get_or (pos 0) us (replicate m (pos 0)) (l ∙ sym (length-replicate m (pos 0))) (λ p b. h p ∙ sym (get_d-repeated m p (pos 0)))

S-zero : (k : ℕ) (s : Sample) (i j : ℕ) → S (replicate k s) i j ≡ pos 0
unfolding S
S-zero k s i j =
    rw (
      length-replicate k s,
      total-equal (λ s. z s i * z s j) k s,
      total-equal (λ s. z s i) k s,
      total-equal (λ s. z s j) k s,
      same k (z s i) (z s j),
    )
    (+ℤ_invr (pos (k * z s i * (k * z s j))))

equal-samples : (n k : ℕ) (s : Sample) → scatter n (replicate k s) ≡ zeros n
unfolding scatter
equal-samples n k s =
    zeros-only (n * n) _ (length-scatter n (replicate k s))
    (row_major-all n (S (replicate k s)) (λ u. u ≡ pos 0) refl (λ i j g h. S-zero k s i j))

zero-entries : (n : ℕ) → entries (zeros n) ≡ zeros n
zero-entries n =
    zeros-only (n * n) _ (length-entries entry_limit (zeros n) ∙ length-replicate (n * n) (pos 0))
    (λ p. entry_at entry_limit (zeros n) p ∙ rw (get_d-repeated (n * n) p (pos 0)) (rnd-zero (2 ^ shift (zeros n)) (pow_pos (shift (zeros n)))))

no_shift : (n : ℕ) → shift (zeros n) ≡ 0
unfolding shift_under smallest_shift
no_shift n = rw (largest-zeros (n * n))

padded-zeros : (n : ℕ) → n ≤ 8 → padded 64 (pos 0) (zeros n) ≡ replicate 64 (pos 0)
padded-zeros n h =
    zeros-only 64 _ (length-padded 64 (pos 0) (zeros n) (rw length-replicate (places n h)))
    (λ p. padded-at 64 (pos 0) (zeros n) p ∙ get_d-repeated (n * n) p (pos 0))

zero-table : (n k : ℕ) (s : Sample) → n ≤ 8 → table_of n (replicate k s) ≡ zero_table
unfolding table_under table_from_under
zero-table n k s h =
    ap table_from (equal-samples n k s)
    ∙ (λ i. record {
      e = no_shift n i;
      entries = (ap (padded 64 (pos 0)) (zero-entries n) ∙ padded-zeros n h) i;
      scatter = padded-zeros n h i;
    })

module _ (n t : ℕ) (low : 2 ≤ n) (high : n ≤ 8) (few : t ≤ tolerance_limit) where
  zeros_load : Loads n (zeros n)
  unfolding matrix_of
  zeros_load =
      record {
        low = low;
        high = high;
        count = length-replicate (n * n) (pos 0);
        small = λ i. rw (get_d-repeated (n * n) i (pos 0)) (omega arith);
        same = λ i j h k. get_d-repeated (n * n) (i * n + j) (pos 0) ∙ sym (get_d-repeated (n * n) (j * n + i) (pos 0));
      }

  start : Record
  start = record_after fresh (own (load n (zeros n)))

  loaded : start ≡ record { solver = loaded_solver n (zeros n) 0; refused = fresh.refused }
  unfolding accepted_of_under start
  loaded = own-after fresh (load n (zeros n)) (load-taken fresh.solver.n fresh.solver.m n (zeros n) zeros_load)

  entry_zero : (i j : ℕ) → i < n → j < n → kept_entry (loaded_solver n (zeros n) 0).a i j ≡ pos 0
  unfolding loaded_solver matrix_of
  entry_zero i j h k =
      kept-flat_of _ i j (omega arith) (omega arith) ∙ in_use-inside n _ i j h k
      ∙ rw (get_d-repeated (n * n) (i * n + j) (pos 0)) (*ℤ-zero (pos units))

  none : loose_of (kept_entry (loaded_solver n (zeros n) 0).a) t (cyclic n) ≡ NoPair
  none =
      (first-loose n (kept_entry (loaded_solver n (zeros n) 0).a) t).none-if-none
      (λ p q h. rw (entry_zero (p - 1) (q - 1) (omega (arith, h.0, h.1, h.2)) (omega (arith, h.0, h.1, h.2))) (omega arith))

  asked : answer_to start (own (loose_pair t)) ≡ NoPair
  unfolding answer_of value_of loaded_solver
  asked =
      own-answers start (loose_pair t)
      ∙ rw (loaded, eq-eqb (refusal_of n 0 (loose_pair t)) 0 (loose-pair-taken n 0 (omega arith) t few)) none

  -- settled, 0 sweeps
  zeros-settled : (limit : ℕ) → run_of n (zeros n) limit t ≡ stop Settled 0 start
  unfolding run_after no_pair start
  zeros-settled limit = run_settled limit 0 t false start (rw asked)

pub equal-settled : (n k limit t : ℕ) (s : Sample) → 2 ≤ n → n ≤ 8 → t ≤ tolerance_limit →
    (table_of n (replicate k s) ≡ zero_table) × SettledAtOnce (run_of n (take (n * n) (table_of n (replicate k s)).entries) limit t)
equal-settled n k limit t s low high few = (
  zero-table n k s high,
  rw (table-entries n (replicate k s) entry_limit, equal-samples n k s, zero-entries n, zeros-settled n t low high few limit) (refl, refl),
)
