-- The greatest size in a list: as the library takes it, and of the front alone where there are zeros after it.
use Rattle.std.specs.Prelude.{◌≡◌, refl, ℕ, ◌<◌, ◌≤◌, max, ℤ, pos, nat_abs, List, [], ◌∷◌, map, take, get_or}
use Rattle.std.specs.List.{fold, reduce}
use Rattle.std.specs.Option.{unwrap_or}
use Rattle.std.proofs.Common.{◌∙◌, arith, length-take}
use Rattle.std.proofs.Math.Decide.{dec_lt}
use Rattle.std.proofs.Math.ListN.{get_or-eq_default}
use Rattle.std.proofs.Math.Seq.{get_or-take}
use Rattle.scatter.specs.Table.{largest}
use Rattle.scatter.specs.inner.Ranges.{ZeroFrom}
use Rattle.scatter.specs.laws.Shift.{largest-bounds, largest-is, largest-least}

fold-largest : (a : ℕ) (us : List ℤ) → fold max a (map nat_abs us) ≡ max a (largest us)
unfolding largest
fold-largest a [] = omega arith
fold-largest a (u ∷ us) = fold-largest (max a (nat_abs u)) us ∙ omega arith

pub reduced-largest : (us : List ℤ) → unwrap_or (reduce max (map nat_abs us)) 0 ≡ largest us
unfolding largest
reduced-largest [] = refl
reduced-largest (u ∷ us) = fold-largest (nat_abs u) us

module _ (s : List ℤ) (size : ℕ) (z : ZeroFrom size s) where
  in-front : (p : ℕ) → nat_abs (get_or (take size s) p (pos 0)) ≤ largest s
  in-front p = by (dec_lt p size)
    where
      by : Dec (p < size) → nat_abs (get_or (take size s) p (pos 0)) ≤ largest s
      by (yes i) = rw (get_or-take size s p (pos 0) i) (largest-bounds s p)
      by (no i) = rw (get_or-eq_default (take size s) (pos 0) {n = p} (rw length-take (omega arith))) (omega arith)

  of-all : (p : ℕ) → nat_abs (get_or s p (pos 0)) ≤ largest (take size s)
  of-all p = by (dec_lt p size)
    where
      by : Dec (p < size) → nat_abs (get_or s p (pos 0)) ≤ largest (take size s)
      by (yes i) = rw (← get_or-take size s p (pos 0) i) (largest-bounds (take size s) p)
      by (no i) = rw (z.zero p (omega arith)) (omega arith)

  pub front-largest : largest (take size s) ≡ largest s
  front-largest = largest-is s (largest (take size s)) (largest-least (take size s) (largest s) in-front) (λ p h. of-all p)
