-- What `numbers_at` comes to, case by case.
use Prim.Native.Nat.{ℕ, suc, ◌+◌, ◌-◌, ◌<◌, ◌≤◌}
use mathlib.Core.Path.{◌≡◌, refl, sym, ap, ◌∙◌}
use mathlib.Core.List.{List}
use native.Mathlib.Omega.{arith}
use lib.ListN.{set}
use Rattle.job.specs.inner.FieldScan.{field_at}
use Rattle.job.specs.declared.field.Field.{Field}
use Rattle.job.specs.declared.field.Field.TheVariants.{Inner, Last, Bad}
use Rattle.std.specs.Prelude.{Option, None, Some}
use Rattle.job.specs.inner.LineScan.{last_number, inner_number, numbers_at}
use Rattle.job.specs.declared.sample.Line.{Line}

-- A field after which no tab stands, and one after which no line feed does.
abbrev pub IsNotInner : Field → Type 0
IsNotInner f = (v next : ℕ) → f ≡ Inner v next → ⊥

abbrev pub IsNotLast : Field → Type 0
IsNotLast f = (v next : ℕ) → f ≡ Last v next → ⊥

inner-only : (f : Field) (go : ℕ → ℕ → Option Line) → IsNotInner f → inner_number f go ≡ None
unfolding inner_number
inner-only (Inner v next) go h = absurd (h v next refl)
inner-only (Last v next) go h = refl
inner-only Bad go h = refl

last-only : (f : Field) (xs : List ℕ) (i : ℕ) → IsNotLast f → last_number xs i f ≡ None
unfolding last_number
last-only (Inner v next) xs i h = refl
last-only (Last v next) xs i h = absurd (h v next refl)
last-only Bad xs i h = refl

-- r is the line, read on from the field f at the place `at`.
module _ (r : Option Line) (text xs : List ℕ) (at i m : ℕ) (q : r ≡ numbers_at text xs at i m) (f : Field) (p : f ≡ field_at text at) where
  more : 0 < m → r ≡ inner_number f (λ v next. numbers_at text (set xs i v) next (i + 1) (m - 1))
  unfolding numbers_at
  more h =
      let e : m ≡ suc (m - 1) = omega arith in
      q ∙ ap (numbers_at text xs at i) e ∙ rw (← p) refl

  pub numbers_more : 0 < m → (v next : ℕ) → f ≡ Inner v next → r ≡ numbers_at text (set xs i v) next (i + 1) (m - 1)
  unfolding inner_number
  numbers_more h v next g = more h ∙ rw g refl

  pub numbers-broken : 0 < m → IsNotInner f → None ≡ r
  numbers-broken h g = sym (more h ∙ inner-only f _ g)

  pub numbers-unended : m ≤ 0 → IsNotLast f → None ≡ r
  unfolding numbers_at
  numbers-unended h g =
      let e : m ≡ 0 = omega arith in
      sym (q ∙ ap (numbers_at text xs at i) e ∙ rw (← p) (last-only f xs i g))

  pub numbers-last : m ≤ 0 → (v next : ℕ) → f ≡ Last v next → Some (record { numbers = set xs i v; next = next }) ≡ r
  unfolding numbers_at last_number
  numbers-last h v next g =
      let e : m ≡ 0 = omega arith in
      sym (q ∙ ap (numbers_at text xs at i) e ∙ rw (← p, g) refl)
