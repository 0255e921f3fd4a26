-- The rule of the test values, of which the first lines of src/main.rt tell, and the matrices and axes that are made of them.
use Rattle.std.specs.Prelude.{Bool, cond, List, [], ◌∷◌, ℕ, ◌+◌, ◌-◌, ◌*◌, ◌/◌, ◌%◌, ◌^◌, eqb, get_or, ℤ}
use Rattle.integer.specs.Signed.{signed}
use Rattle.turn.specs.Turn.{eight}
use Rattle.choice.specs.Widest.{widest}

-- x² mod P, with P = 2^31 − 1
abbrev pub square : ℕ → ℕ
square x = x * x % 2147483647

-- draw(k)
abbrev pub draw_of : ℕ → ℕ
draw_of k = square (k % 2147483647 * 742938285 % 2147483647)

-- a size up to `most`: a small one, one near the most, any up to the most, or one of any length
unfoldable pub size_from : ℕ → ℕ → ℕ → ℕ
size_from wide mode most =
    cond (eqb (mode % 4) 0) (wide % 4)
    (cond (eqb (mode % 4) 1) (most - wide % 4)
    (cond (eqb (mode % 4) 2) (wide % (most + 1)) (wide / 2 ^ (mode / 4 % 62) % (most + 1))))

-- the size of value k
abbrev pub size_of : ℕ → ℕ → ℕ
size_of k most = size_from (draw_of (3 * k) * 0x8000_0000 + draw_of (3 * k + 1)) (draw_of (3 * k + 2)) most

-- whether value k is negative
abbrev pub minus_of : ℕ → Bool
minus_of k = eqb (draw_of (3 * k + 2) / 256 % 2) 1

unfoldable pub value_of : ℕ → ℕ → ℤ
value_of k most = signed (minus_of k) (size_of k most)

-- eight numbers of which no two sums of two are alike, so that the sum of two tells which two
abbrev pub offset : ℕ → ℕ
offset j = get_or (1 ∷ 2 ∷ 4 ∷ 8 ∷ 13 ∷ 21 ∷ 31 ∷ 45 ∷ []) j 0

unfoldable pub row_of : ℕ → ℕ → List ℤ
row_of key most = eight (λ j. value_of (key + offset j) most)

-- a symmetric matrix: entry i, j has the key base + offset i + offset j
unfoldable pub matrix_of : ℕ → List (List ℤ)
matrix_of base = eight (λ i. row_of (base + offset i) widest)

-- axes: entry i, j has the key base + 64 × (i + 1) + offset j
unfoldable pub axes_of : ℕ → List (List ℤ)
axes_of base = eight (λ i. row_of (base + 64 * (i + 1)) (2 ^ 30 + 448))
