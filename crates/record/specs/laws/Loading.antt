-- A load that is not refused: what holds of its numbers, and what it leaves is kept.
use Rattle.std.specs.Prelude.{◌≡◌, refl, true, List, ℕ, ◌*◌, ◌<◌, ◌≤◌, ℤ, ◌*ℤ◌}
use Rattle.std.proofs.Math.Path.{sym, ap}
use Rattle.std.proofs.Common.{◌∙◌, arith, lt-ltb, le-ltb}
use Rattle.std.proofs.Math.Decide.{dec_lt}
use Rattle.std.proofs.Math.IntN.{pos}
use Rattle.integer.specs.Square.{sq}
use Rattle.integer.specs.laws.Square.{sq_pos}
use Rattle.integer.specs.Sum.{sumℕ}
use Rattle.integer.specs.laws.Sum.{sumℕ-cong, sumℕ-const}
use Rattle.ledger.specs.laws.Accepted.{Loads, load-accepted, small-within}
use Rattle.ledger.specs.Call.{load}
use Rattle.ledger.specs.laws.Loaded.{load-size}
use Rattle.limits.specs.Limits.{entry_limit, units, whole}
use Rattle.ledger.specs.Refusal.{refusal_of, refusal_under, entries_within}
use Rattle.ledger.specs.Sound.{matrix_bound, axes_bound}
use Rattle.turn.specs.Turn.{at}
use Rattle.turn.specs.InUse.{in_use}
use Rattle.turn.specs.laws.InUse.{Use, inside, outside, use-of, at-square, in_use-inside, in_use-outside, in_use-symmetric}
use Rattle.integer.specs.Matrix.{Matrix, diagonal, squares, matrix_of}
use Rattle.integer.specs.laws.Matrix.{diagonal-squares, squares-cong}
use Rattle.record.specs.laws.Fill.{kept-flat_of, length-flat}
use Rattle.record.specs.Flat.{kept_entry, entries_of, rows_of, flat_of}
use Rattle.record.specs.Kept.{KeptSolver}
use Rattle.record.specs.Solver.{loaded_solver, work_of}

-- a load's refusal is of its arguments alone
pub load-refusal-alone : (n m k : ℕ) (numbers : List ℤ) → refusal_of n m (load k numbers) ≡ refusal_of 0 0 (load k numbers)
unfolding refusal_under
load-refusal-alone n m k numbers = refl

pub loads-within : {n : ℕ} {numbers : List ℤ} → Loads n numbers → entries_within entry_limit numbers ≡ true
loads-within {n} {numbers} l = small-within entry_limit numbers l.small

-- an entry of the rows of a flat matrix that is 0 outside
pub at-flat : (n : ℕ) (x : Matrix) → n ≤ 8 → (i j : ℕ) → at (rows_of (flat_of (in_use n x))) i j ≡ in_use n x i j
unfolding rows_of entries_of
at-flat n x b i j = at-square (kept_entry (flat_of (in_use n x))) i j ∙ by-use (use-of 8 i j) (use-of n i j)
  where
    stored : i < 8 → j < 8 → in_use 8 (kept_entry (flat_of (in_use n x))) i j ≡ in_use n x i j
    stored h l = in_use-inside 8 _ i j h l ∙ kept-flat_of (in_use n x) i j h l

    by-use : Use 8 i j → Use n i j → in_use 8 (kept_entry (flat_of (in_use n x))) i j ≡ in_use n x i j
    by-use (inside h l) u = stored h l
    by-use (outside e) (inside h l) = stored (omega arith) (omega arith)
    by-use (outside e) (outside d) = in_use-outside 8 _ i j e ∙ sym (in_use-outside n x i j d)

-- what a load leaves
module _ (n : ℕ) (numbers : List ℤ) (l : Loads n numbers) where
  entries : Matrix
  entries i j = pos units *ℤ matrix_of n numbers i j

  matrix : (i j : ℕ) → at (rows_of (flat_of (in_use n entries))) i j ≡ in_use n entries i j
  matrix = at-flat n entries l.high

  axes : (i j : ℕ) → at (rows_of (flat_of (in_use n (diagonal (pos whole))))) i j ≡ in_use n (diagonal (pos whole)) i j
  axes = at-flat n (diagonal (pos whole)) l.high

  bound : squares n (at (rows_of (flat_of (in_use n entries)))) ≤ matrix_bound 0 * matrix_bound 0
  unfolding entries
  bound = rw (squares-cong n (λ i j h k. matrix i j ∙ in_use-inside n entries i j h k)) (load-size n numbers l)

  column : (j : ℕ) → Dec (j < n) → sumℕ n (λ i. sq (at (rows_of (flat_of (in_use n (diagonal (pos whole))))) i j)) ≤ axes_bound 0 * axes_bound 0
  column j (yes h) =
      rw (sumℕ-cong n (λ i k. ap sq (axes i j ∙ in_use-inside n _ i j k h)), diagonal-squares n (pos whole) j h, sq_pos whole)
      (omega arith)
  column j (no h) =
      rw (sumℕ-cong n (λ i k. ap sq (axes i j ∙ in_use-outside n _ i j (rw (lt-ltb i n k, le-ltb j n (omega arith)))) ∙ sq_pos 0), sumℕ-const n 0)
      (omega arith)

  pub loads-kept : (shift : ℕ) → KeptSolver (loaded_solver n numbers shift)
  unfolding loaded_solver work_of entries
  loads-kept shift =
      record {
        size = l.high;
        channels = λ e. omega (arith, l.low, e);
        turns = omega arith;
        work =
            record {
              symmetric = λ i j. matrix i j ∙ in_use-symmetric n entries (λ i j h k. ap (λ z. pos units *ℤ z) (l.same i j h k)) i j
                  ∙ sym (matrix j i);
              outside = λ i j e. matrix i j ∙ in_use-outside n entries i j e;
              axes-outside = λ i j e. axes i j ∙ in_use-outside n _ i j e;
              norm = bound;
              columns = λ j. column j (dec_lt j n);
            };
        matrix-length = length-flat _;
        axes-length = length-flat _;
      }

pub load_kept : (n m k : ℕ) (numbers : List ℤ) → refusal_of n m (load k numbers) ≡ 0 → KeptSolver (loaded_solver k numbers 0)
load_kept n m k numbers e = loads-kept k numbers (load-accepted n m k numbers e) 0
