-- The exact rotation keeps the sum of all squares and that of the block's, so the off-diagonal sum changes by the squares of a_pq and a_qp alone.
use Rattle.std.specs.Prelude.{◌≡◌, ◌≢◌, ℕ, ◌+◌, ◌*◌, ◌<◌, ℤ, pos, ◌*ℤ◌}
use Rattle.std.proofs.Common.{sym, ◌∙◌, ap, mul_assoc, arith}
use Rattle.integer.specs.Matrix.{Matrix, product, conjugate, squares}
use Rattle.integer.specs.laws.Matrix.{conjugate-symmetric}
use Rattle.integer.specs.Matrix.{Symmetric}
use Rattle.integer.specs.laws.Pair.{Rotated, rotate-two}
use Rattle.integer.specs.Square.{sq}
use Rattle.integer.specs.laws.Square.{sq_pos, sq-*ℤ}
use Rattle.integer.specs.Sum.{sumℕ}
use Rattle.integer.specs.laws.Sum.{sumℕ-+, sumℕ-*, sumℕ-cong, sumℕ-but-one, sumℕ-but-two, update, update_same, update_other}
use Rattle.turn.specs.laws.Exact.{Whole, exact-rows, exact-columns, conjugate-squares}
use Rattle.turn.specs.Exact.{exact}
use Rattle.turn.specs.Gain.{off_diagonal, exactly_turned}
use Rattle.turn.specs.declared.pair.Rotation.{Rotation}

-- all squares are those of the diagonal and the others
on_diagonal : ℕ → Matrix → ℕ
on_diagonal n X = sumℕ n (λ i. sq (X i i))

squares-parted : (n : ℕ) (X : Matrix) → squares n X ≡ off_diagonal n X + on_diagonal n X
unfolding squares off_diagonal on_diagonal
squares-parted n X = sumℕ-cong n row ∙ sumℕ-+ n (λ i. sumℕ n (update (λ j. sq (X i j)) i 0)) (λ i. sq (X i i))
  where
    row : (i : ℕ) → i < n → sumℕ n (λ j. sq (X i j)) ≡ sumℕ n (update (λ j. sq (X i j)) i 0) + sq (X i i)
    row i o =
        let all : ℕ → ℕ = λ j. sq (X i j) in
        omega (arith, update_same all i 0, sumℕ-but-one n i all (update all i 0) o (λ j m d. sym (update_other all i 0 j d)))

module _ (r : Rotation) (n p q : ℕ) (l : p < q) (k : q < n) (whole : Whole r) (a : Matrix) (h : Symmetric n a) where
  abbrev N² : ℕ
  N² = r.n * r.n

  abbrev C : Matrix
  C = exactly_turned n r p q a

  abbrev H : Matrix
  H = product n (exact r p q) a

  rows : (j : ℕ) → Rotated n p q r.n r.c r.s (λ i. a i j) (λ i. H i j)
  rows = exact-rows r n p q l k a

  columns : (i : ℕ) → Rotated n p q r.n r.c r.s (H i) (C i)
  unfolding conjugate
  columns = exact-columns r n p q l k H

  -- a pair that is rotated
  two : {x y : ℕ → ℤ} → Rotated n p q r.n r.c r.s x y → sq (y p) + sq (y q) ≡ N² * (sq (x p) + sq (x q))
  two {x} e = rw (e.first, e.second) (rotate-two r.n r.c r.s (x p) (x q) whole.norm)

  -- the block, rotated by rows and by columns
  block : sq (C p p) + 2 * sq (C p q) + sq (C q q) ≡ N² * N² * (sq (a p p) + 2 * sq (a p q) + sq (a q q))
  block = total N² _ _ _ _ _ _ _ _ _ _ (two (columns p)) (rw (← mirror) (two (columns q))) (rw (h q p k o) at (two (rows p))) (two (rows q))
    where
      total : (K cpp cpq cqq hpp hpq hqp hqq app apq aqq : ℕ) → cpp + cpq ≡ K * (hpp + hpq) → cpq + cqq ≡ K * (hqp + hqq) →
          hpp + hqp ≡ K * (app + apq) → hpq + hqq ≡ K * (apq + aqq) → cpp + 2 * cpq + cqq ≡ K * K * (app + 2 * apq + aqq)
      total K cpp cpq cqq hpp hpq hqp hqq app apq aqq d e f g = omega (arith, ap (λ x. K * x) f, ap (λ x. K * x) g)

      o : p < n
      o = omega arith

      mirror : C q p ≡ C p q
      mirror = conjugate-symmetric n (exact r p q) a h q p k o

  -- off the block an entry of the diagonal is N² times what it was
  diagonal-moves : on_diagonal n C + N² * N² * (sq (a p p) + sq (a q q)) ≡ N² * N² * on_diagonal n a + (sq (C p p) + sq (C q q))
  unfolding on_diagonal
  diagonal-moves = omega (arith, sumℕ-but-two n p q (λ i. sq (C i i)) (λ i. N² * N² * sq (a i i)) l k elsewhere, sumℕ-* n (N² * N²) (λ i. sq (a i i)))
    where
      elsewhere : (i : ℕ) → i < n → i ≢ p → i ≢ q → sq (C i i) ≡ N² * N² * sq (a i i)
      elsewhere i o d e =
          rw ((columns i).other i o d e, (rows i).other i o d e, sq-*ℤ (pos r.n) (pos r.n *ℤ a i i), sq-*ℤ (pos r.n) (a i i), sq_pos r.n)
          (sym (mul_assoc N² N² (sq (a i i))))

  -- 'The exact sum of squared off-diagonal entries falls by twice the difference of the old and new squares of a_pq'
  pub off-diagonal-falls : off_diagonal n C + 2 * (N² * N² * sq (a p q)) ≡ N² * N² * off_diagonal n a + 2 * sq (C p q)
  off-diagonal-falls =
      omega (arith, block, diagonal-moves, squares-parted n C, ap (λ x. N² * N² * x) (squares-parted n a), conjugate-squares r n p q l k whole a)
