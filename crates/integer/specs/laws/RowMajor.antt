-- Laws of a matrix's numbers row after row: how many there are, which stands where, and what holds of them all.
use Rattle.std.specs.Prelude.{◌≡◌, List, ℕ, zero, suc, ◌*◌, ◌/◌, ◌%◌, ◌<◌, ◌≤◌, ℤ, pos, length}
use Rattle.std.proofs.Math.Path.{subst}
use Rattle.std.proofs.Common.{div-lt_iff_lt-mul, mod-lt, div-add-mod', arith}
use Rattle.std.proofs.Math.Decide.{dec_lt}
use Rattle.std.proofs.Math.Arith.{digits_lt, digits_div, digits_mod}
use Rattle.std.proofs.Math.ListN.{get_or, get_or-eq_default}
use Rattle.std.proofs.Math.Seq.{ext_get_or}
use Rattle.integer.specs.Matrix.{Matrix, Same, matrix_of, row_major}
use Rattle.integer.specs.laws.Tabulate.{length-tabulate, get_d_tabulate, tabulate-ext}

-- the row and the column of a place
places : (n p : ℕ) → p < n * n → (p / n < n) × (p % n < n)
places zero p h = absurd (omega arith)
places (suc m) p h = ((div-lt_iff_lt-mul {k = suc m} {x = p} {y = suc m} (omega arith)).1 h, mod-lt p {m = suc m} (omega arith))

module _ (n : ℕ) where
  pub length-row_major : (X : Matrix) → length (row_major n X) ≡ n * n
  unfolding row_major
  length-row_major X = length-tabulate (n * n) _

  pub row_major-at : (X : Matrix) → Same n (matrix_of n (row_major n X)) X
  unfolding row_major matrix_of
  row_major-at X i j h g =
      rw (get_d_tabulate (n * n) (λ p. X (p / n) (p % n)) _ (pos 0) (digits_lt h g), digits_div i {m = n} g, digits_mod i {m = n} g)

  pub row_major-same : {X Y : Matrix} → Same n X Y → row_major n X ≡ row_major n Y
  unfolding row_major
  row_major-same e = tabulate-ext (n * n) _ _ (λ p h. e (p / n) (p % n) (places n p h).0 (places n p h).1)

  -- what holds of 0 and of every entry holds at every place
  pub row_major-all : (X : Matrix) (P : ℤ → Type 0) → P (pos 0) → ((i j : ℕ) → i < n → j < n → P (X i j)) → (p : ℕ) →
      P (get_or (row_major n X) p (pos 0))
  unfolding row_major
  row_major-all X P z h p = by (dec_lt p (n * n))
    where
      by : Dec (p < n * n) → P (get_or (row_major n X) p (pos 0))
      by (yes b) = rw (get_d_tabulate (n * n) (λ p. X (p / n) (p % n)) p (pos 0) b) (h (p / n) (p % n) (places n p b).0 (places n p b).1)
      by (no b) = rw (get_or-eq_default (row_major n X) (pos 0) {n = p} (rw length-tabulate (omega arith))) z

  -- lists with the same n×n numbers, and the same after them
  pub same_numbers : (us vs : List ℤ) → length us ≡ length vs → Same n (matrix_of n us) (matrix_of n vs) →
      ((p : ℕ) → n * n ≤ p → get_or us p (pos 0) ≡ get_or vs p (pos 0)) → us ≡ vs
  unfolding matrix_of
  same_numbers us vs l e f = ext_get_or (pos 0) us vs l (λ p b. by p (dec_lt p (n * n)))
    where
      by : (p : ℕ) → Dec (p < n * n) → get_or us p (pos 0) ≡ get_or vs p (pos 0)
      by p (yes b) = subst (λ q. get_or us q (pos 0) ≡ get_or vs q (pos 0)) (div-add-mod' p n) (e (p / n) (p % n) (places n p b).0 (places n p b).1)
      by p (no b) = f p (omega arith)
