-- Laws of this subject: The numbers of an axis: a_ii and r_i, which an axis call answers, and the row beside them. How many they are, and that
-- r_i is below 2^63.
use Rattle.std.specs.Prelude.{ℕ, suc, ◌+◌, ◌-◌, ◌*◌, ◌^◌, ◌<◌, ◌≤◌, ◌≡◌, refl, Bool, true, false, cond, List, [], ◌∷◌, ◌++◌, eqb, ltb, ℤ, pos}
use Rattle.std.specs.Prelude.{get_or, length, replicate, take}
use Rattle.std.proofs.Common.{◌∙◌, le_trans, eq-eqb, lt-ltb, lit≤, length-append}
use native.Mathlib.Omega.{arith}
use Rattle.std.proofs.Math.IntN.{nat_abs}
use Rattle.std.proofs.Math.Seq.{take-append-add}
use Rattle.integer.specs.laws.Sum.{sumℕ-≤, sumℕ-const}
use Rattle.integer.specs.laws.Tests.{cond-≤}
use Rattle.ledger.specs.laws.Accepted.{axis-taken}
use Rattle.integer.specs.RoundedUp.{rounded_up}
use Rattle.ledger.specs.Axis.{error_of, table_error}
use Rattle.limits.specs.Limits.{half_entry}
use Rattle.ledger.specs.Call.{axis}
use Rattle.ledger.specs.Refusal.{refusal_of}
use Rattle.turn.specs.laws.Eight.{get_d-eight, length-eight}
use Rattle.record.specs.laws.Turning.{matrix-small}
use Rattle.record.specs.declared.query.Answer.{Answer}
use Rattle.record.specs.declared.query.Answer.TheVariants.{Loaded, SamplesLoaded, Turned, Swept, TournamentSwept, Pair, NoPair, Axis, Refused}
use Rattle.choice.specs.Widest.{widest}
use Rattle.record.specs.laws.Fill.{at-rows_of}
use Rattle.record.specs.Flat.{entries_of, kept_entry}
use Rattle.record.specs.Kept.{Kept}
use Rattle.record.specs.Record.{answer_to, row_to}
use Rattle.record.specs.Run.{own}
use Rattle.record.specs.Solver.{answer_of, axis_of, value_of, work_of}
use Rattle.record.specs.laws.Named.{own-answers, own_row}
use Rattle.record.specs.declared.Record.{Record}
use Rattle.report.specs.AxisNumbers.{axis_values}
use Rattle.report.specs.inner.AxisNumbers.{axis_numbers, axes_numbers}

pub length-values : (answer : Answer) → length (axis_values answer) ≡ 2
unfolding axis_values
length-values Loaded = refl
length-values (SamplesLoaded e) = refl
length-values (Turned made) = refl
length-values (Swept made) = refl
length-values (TournamentSwept made) = refl
length-values (Pair p q) = refl
length-values NoPair = refl
length-values (Axis entry error) = refl
length-values (Refused number) = refl

-- two numbers stand before the row
pub two-before : (a : Answer) (n : ℕ) (row : List ℤ) → take (suc (suc n)) (axis_values a ++ row) ≡ axis_values a ++ take n row
two-before a n row =
    let e : suc (suc n) ≡ length (axis_values a) + n = omega (arith, length-values a) in
    rw e (take-append-add (axis_values a) row n)

pub length-row : (r : Record) (i : ℕ) → length (row_to r (own (axis i))) ≡ 8
unfolding axis_of entries_of
length-row r i = rw (own_row r i) (by-test (eqb (refusal_of r.solver.n r.solver.m (axis i)) 0))
  where
    by-test : (test : Bool) → length (cond test (entries_of r.solver.v (i - 1)) (replicate 8 (pos 0))) ≡ 8
    by-test true = length-eight _
    by-test false = refl

pub length-numbers : (r : Record) (i : ℕ) → length (axis_numbers r i) ≡ 11
unfolding axis_numbers
length-numbers r i =
    let answer = answer_to r (own (axis i)) in
    omega (arith, length-append (axis_values answer) (row_to r (own (axis i))), length-values answer, length-row r i)

pub length-axes-row : (r : Record) (i : ℕ) → i < 8 → length (get_or (axes_numbers r) i []) ≡ 11
unfolding axes_numbers
length-axes-row r i h =
    rw (get_d-eight (λ k. cond (ltb k r.solver.n) (axis_numbers r (suc k)) (replicate 11 (pos 0))) i [] h) (by-test (ltb i r.solver.n))
  where
    by-test : (test : Bool) → length (cond test (axis_numbers r (suc i)) (replicate 11 (pos 0))) ≡ 11
    by-test true = length-numbers r (suc i)
    by-test false = refl

-- the row of axis i + 1
pub axes-row : (r : Record) (i : ℕ) → i < r.solver.n → i < 8 → get_or (axes_numbers r) i [] ≡ axis_numbers r (suc i)
unfolding axes_numbers
axes-row r i l h = rw (get_d-eight (λ k. cond (ltb k r.solver.n) (axis_numbers r (suc k)) (replicate 11 (pos 0))) i [] h, lt-ltb i r.solver.n l)

-- an axis call that names an axis is not refused
pub axis-answer : (r : Record) (i : ℕ) → 1 ≤ i → i ≤ r.solver.n →
    answer_to r (own (axis i)) ≡
    Axis (kept_entry r.solver.a (i - 1) (i - 1)) (error_of r.solver.n r.solver.e (kept_entry r.solver.a) r.solver.m (i - 1))
unfolding answer_of value_of
axis-answer r i h k =
    own-answers r (axis i) ∙ rw (eq-eqb (refusal_of r.solver.n r.solver.m (axis i)) 0 (axis-taken r.solver.n r.solver.m i h k))

-- the numbers of an axis, from what the call answers
pub numbers-by : (r : Record) (i : ℕ) (value : Answer) (row : List ℤ) (entry : ℤ) (error : ℕ) →
    value ≡ answer_to r (own (axis i)) → row ≡ row_to r (own (axis i)) → value ≡ Axis entry error → pos i ∷ entry ∷ pos error ∷ row ≡ axis_numbers r i
unfolding axis_numbers axis_values
numbers-by r i value row entry error a b e = rw (← a, e, b)

-- the numbers of axis i + 1, and that its error fits
module _ (r : Record) (i : ℕ) (h : i < r.solver.n) where
  taken : eqb (refusal_of r.solver.n r.solver.m (axis (suc i))) 0 ≡ true
  taken = eq-eqb _ 0 (axis-taken r.solver.n r.solver.m (suc i) (omega arith) (omega arith))

  place : suc i - 1 ≡ i
  place = omega arith

  pub error-small : Kept r → error_of r.solver.n r.solver.e (kept_entry r.solver.a) r.solver.m i < 2 ^ 63
  unfolding error_of rounded_up table_error work_of
  error-small k =
      omega (
        arith,
        sumℕ-≤ r.solver.n {g = λ j. widest} (λ j l. cond-≤ (eqb j i) {x = 0} (omega arith) (small j l)),
        sumℕ-const r.solver.n widest,
        cond-≤ (ltb 0 r.solver.e) {x = half_entry * r.solver.n} {y = 0} {n = half_entry * 8} (omega (arith, k.solver.size)) (omega arith),
        k.solver.size,
        k.solver.turns,
      )
    where
      small : (j : ℕ) → j < r.solver.n → nat_abs (kept_entry r.solver.a i j) ≤ widest
      small j l =
          rw (← at-rows_of r.solver.a i j (omega (arith, h, k.solver.size)) (omega (arith, l, k.solver.size)))
          ((matrix-small (work_of r.solver) k.solver.work (le_trans k.solver.turns (lit≤ tt))).small i j)
