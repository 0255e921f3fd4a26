-- The row clause is no wider than it says: S_11 = 2,099,601 and every other S 0 have e = 1 and the entry 1,049,801; row 1 is 512 units off, and no
-- fewer. And for e = 0 it is the clause of the table itself.
use Rattle.std.specs.Prelude.{ℕ, ◌*◌, ◌≤◌, [], ◌∷◌, ℤ, pos, ◌-ℤ◌, ◌*ℤ◌}
use Rattle.std.proofs.Common.{ap, lit≤, arith}
use Rattle.integer.specs.Dot.{dot}
use Rattle.integer.specs.Matrix.{Matrix, diagonal, matrix_of, product}
use Rattle.integer.specs.Square.{sq}
use Rattle.integer.specs.Sum.{sum, sumℕ}
use Rattle.integer.specs.laws.Laws.{one-*ℤ}
use Rattle.integer.specs.laws.Sum.{sumℕ-cong}
use Rattle.limits.specs.Limits.{units}
use Rattle.ledger.specs.Near.{RowNear}

abbrev strong : Matrix
strong = matrix_of 2 (pos 2_099_601 ∷ pos 0 ∷ pos 0 ∷ pos 0 ∷ [])

pub near-512 : RowNear 2 1 (diagonal (pos 1)) strong 1 0 (pos 1_074_996_224) 512
unfolding product dot sum diagonal matrix_of sq sumℕ
near-512 = lit≤ tt

pub not-near-511 : RowNear 2 1 (diagonal (pos 1)) strong 1 0 (pos 1_074_996_224) 511 → ⊥
unfolding product dot sum diagonal matrix_of sq sumℕ
not-near-511 h = let above : 1_048_576 ≤ 1_044_484 = h in omega (arith, above)

-- the clause before document 02's W5: |1024 × Q_i A − entry × Q_i| ≤ error, times D
pub plain_row : (n D : ℕ) (P A : Matrix) (i : ℕ) (entry : ℤ) (error : ℕ) → RowNear n D P A 0 i entry error →
    sumℕ n (λ k. sq (pos units *ℤ product n P A i k -ℤ entry *ℤ P i k)) ≤ D * error * (D * error)
plain_row n D P A i entry error h =
    omega (arith, h, sumℕ-cong n {f = whole} {g = plain} (λ k l. ap (λ z. sq (left k -ℤ z)) (one-*ℤ (entry *ℤ P i k))))
  where
    left : ℕ → ℤ
    left k = pos units *ℤ product n P A i k

    whole : ℕ → ℕ
    whole k = sq (left k -ℤ pos 1 *ℤ (entry *ℤ P i k))

    plain : ℕ → ℕ
    plain k = sq (left k -ℤ entry *ℤ P i k)
