-- What a test chooses, and tests of indices.
use Rattle.std.specs.Prelude.{◌≡◌, refl, Bool, true, false, cond, ℕ, ◌+◌, ◌<◌, ◌≤◌, ltb}
use Rattle.std.proofs.Math.Decide.{dec_lt}
use Rattle.std.proofs.Common.{arith, lt-ltb, le-ltb}

pub cond_same : {A : Type 0} (t : Bool) (z : A) → cond t z z ≡ z
cond_same true z = refl
cond_same false z = refl

pub cond-≤ : (t : Bool) {x y n : ℕ} → x ≤ n → y ≤ n → cond t x y ≤ n
cond-≤ true h k = h
cond-≤ false h k = k

-- an index against k and against k + 1
pub next-test : (k j : ℕ) → (j ≡ k → ⊥) → ltb j (k + 1) ≡ ltb j k
next-test k j d = by (dec_lt j k)
  where
    by : Dec (j < k) → ltb j (k + 1) ≡ ltb j k
    by (yes h) = rw (lt-ltb j k h, lt-ltb j (k + 1) (omega arith))
    by (no h) = rw (le-ltb j k (omega arith), le-ltb j (k + 1) (omega arith))
