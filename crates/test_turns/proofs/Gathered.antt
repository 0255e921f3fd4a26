-- Eight rows gathered into an array.
use mathlib.Core.Path.{◌≡◌}
use mathlib.Core.List.{List, [], ◌∷◌}
use Prim.Native.Nat.{ℕ}
use lib.IntN.{ℤ}
use Rattle.turn.specs.Turn.{eight}

pub gathered : (f : ℕ → List ℤ) {x₀ x₁ x₂ x₃ x₄ x₅ x₆ x₇ : List ℤ} → x₀ ≡ f 0 → x₁ ≡ f 1 → x₂ ≡ f 2 → x₃ ≡ f 3 → x₄ ≡ f 4 → x₅ ≡ f 5 → x₆ ≡ f 6 →
    x₇ ≡ f 7 → (x₀ ∷ x₁ ∷ x₂ ∷ x₃ ∷ x₄ ∷ x₅ ∷ x₆ ∷ x₇ ∷ []) ≡ eight f
unfolding eight
gathered f e0 e1 e2 e3 e4 e5 e6 e7 k = e0 k ∷ e1 k ∷ e2 k ∷ e3 k ∷ e4 k ∷ e5 k ∷ e6 k ∷ e7 k ∷ []
