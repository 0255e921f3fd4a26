-- Laws of tests in their order.
use Rattle.std.specs.Prelude.{◌≡◌, refl, Bool, true, false, cond, ℕ, ◌<◌, T, eqb}
use Rattle.std.proofs.Common.{arith, eqb-true}
use Rattle.std.proofs.lemmas.Bool.{eqb-false}
use Rattle.limits.specs.Unless.{unless}

-- a test that was passed: the number is not given, so the later tests speak
pub passed : (test : Bool) (number later : ℕ) → unless test number later ≡ 0 → 0 < number → T test × (later ≡ 0)
passed true number later e l = (tt, e)
passed false number later e l = absurd (omega arith)

-- a first refusal, and after it another: neither of them
pub neither : (first later : ℕ) → cond (eqb first 0) later first ≡ 0 → (first ≡ 0) × (later ≡ 0)
neither first later = by-test (eqb first 0) refl
  where
    by-test : (test : Bool) → eqb first 0 ≡ test → cond test later first ≡ 0 → (first ≡ 0) × (later ≡ 0)
    by-test true q e = (eqb-true first 0 q, e)
    by-test false q e = absurd (eqb-false first 0 q e)
