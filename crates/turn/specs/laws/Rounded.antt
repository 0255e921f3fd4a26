-- The error of an entry that is rounded once, and of one that is rounded in both passes, as squares.
use Rattle.std.specs.Prelude.{◌≡◌, [], ◌∷◌, ℕ, ◌+◌, ◌*◌, ◌<◌, ◌≤◌, ℤ, pos, ◌+ℤ◌, ◌-ℤ◌, ◌*ℤ◌}
use Rattle.std.proofs.Common.{◌∙◌, ap₂, mul-le-mul, mul-le-mul_left, arith}
use Rattle.std.proofs.Math.IntN.{+ℤ_invr}
use Rattle.integer.specs.laws.Laws.{pos-injective}
use Rattle.integer.specs.laws.Ring.{ring, reading}
use Rattle.integer.specs.Square.{sq}
use Rattle.integer.specs.laws.Square.{pos-sq, sq_pos, sq-*ℤ, sq-+ℤ}
use Rattle.integer.specs.laws.Minkowski.{cauchy₂}
use Rattle.rounding.specs.Rounding.{rnd}
use Rattle.rounding.specs.laws.Nearest.{rnd-nearest}

-- one rounding: half a unit, times w
pub rounded : (u : ℤ) (w : ℕ) → 0 < w → 4 * sq (pos w *ℤ rnd u w -ℤ u) ≤ w * w
unfolding sq
rounded u w h = let near = (rnd-nearest u w h).near in omega (arith, mul-le-mul near near)

-- no rounding
pub unmoved : (x y : ℤ) (b : ℕ) → x ≡ y → 4 * sq (x -ℤ y) ≤ b
unmoved x y b e = rw (e, +ℤ_invr y, sq_pos 0) (omega arith)

-- an entry off the block, times N²: one rounding
pub rounded-once : (u : ℤ) (N : ℕ) → 0 < N → 4 * sq (pos (N * N) *ℤ rnd u N -ℤ pos N *ℤ u) ≤ N * N * (N * N)
rounded-once u N h = rw (same, sq-*ℤ (pos N) (pos N *ℤ rnd u N -ℤ u), sq_pos N) (omega (arith, mul-le-mul_left (N * N) (rounded u N h)))
  where
    same : pos (N * N) *ℤ rnd u N -ℤ pos N *ℤ u ≡ pos N *ℤ (pos N *ℤ rnd u N -ℤ u)
    same = ring (pos N ∷ rnd u N ∷ u ∷ []) (search reading depth 20) tt

-- an entry of the block, times N²: two roundings of the first pass, and one of the second
pub rounded-twice : (α β u v : ℤ) (N : ℕ) → 0 < N → α *ℤ α +ℤ β *ℤ β ≡ pos (N * N) →
    4 * sq (pos (N * N) *ℤ rnd (α *ℤ rnd u N +ℤ β *ℤ rnd v N) N -ℤ (α *ℤ u +ℤ β *ℤ v)) ≤ 6 * (N * N * (N * N))
rounded-twice α β u v N h e = rw parts (total (N * N) _ (sq ε) (sq (δ u)) (sq (δ v)) both-passes (rounded _ N h) (rounded u N h) (rounded v N h))
  where
    x : ℤ
    x = rnd (α *ℤ rnd u N +ℤ β *ℤ rnd v N) N

    -- the errors of the second and of the first pass
    ε : ℤ
    ε = pos N *ℤ x -ℤ (α *ℤ rnd u N +ℤ β *ℤ rnd v N)

    δ : ℤ → ℤ
    δ u = pos N *ℤ rnd u N -ℤ u

    parts : pos (N * N) *ℤ x -ℤ (α *ℤ u +ℤ β *ℤ v) ≡ pos N *ℤ ε +ℤ (α *ℤ δ u +ℤ β *ℤ δ v)
    parts = ring (pos N ∷ x ∷ α ∷ β ∷ u ∷ v ∷ rnd u N ∷ rnd v N ∷ []) (search reading depth 20) tt

    second-pass : sq (pos N *ℤ ε) ≡ N * N * sq ε
    second-pass = rw (sq-*ℤ (pos N) ε, sq_pos N)

    first-pass : sq (α *ℤ δ u +ℤ β *ℤ δ v) ≤ N * N * (sq (δ u) + sq (δ v))
    first-pass = rw (pos-injective (sq α + sq β) (N * N) (ap₂ ◌+ℤ◌ (pos-sq α) (pos-sq β) ∙ e)) at (cauchy₂ α β (δ u) (δ v))

    both-passes : sq (pos N *ℤ ε +ℤ (α *ℤ δ u +ℤ β *ℤ δ v)) ≤ 2 * (N * N * sq ε) + 2 * (N * N * (sq (δ u) + sq (δ v)))
    both-passes = omega (arith, sq-+ℤ (pos N *ℤ ε) (α *ℤ δ u +ℤ β *ℤ δ v), second-pass, first-pass)

    total : (k E e d f : ℕ) → E ≤ 2 * (k * e) + 2 * (k * (d + f)) → 4 * e ≤ k → 4 * d ≤ k → 4 * f ≤ k → 4 * E ≤ 6 * (k * k)
    total k E e d f g a b c = omega (arith, g, mul-le-mul_left k a, mul-le-mul_left k b, mul-le-mul_left k c)
