-- What `samples_at` comes to at a sample, case by case.
use Prim.Native.Nat.{ℕ, suc, ◌+◌, ◌-◌, ◌*◌, ◌<◌, ◌≤◌}
use mathlib.Core.Path.{◌≡◌, refl, ap, ◌∙◌}
use mathlib.Core.List.{List}
use mathlib.Core.Bool.{true, false}
use native.Mathlib.Nat.{mul-le-mul_right}
use borrow.Author.Tests.{lt-ltb, le-ltb}
use native.Mathlib.Omega.{arith}
use Rattle.job.specs.inner.LineScan.{ending_at, line_at, sample_within}
use Rattle.job.specs.declared.sample.Line.{Line}
use Rattle.std.specs.Prelude.{Option, None, Some, Result, Ok, Err}
use Rattle.refusal.specs.declared.Refusal.{Refusal}
use Rattle.refusal.specs.declared.Refusal.TheVariants.{OutOfRange, SampleCount}
use Rattle.job.specs.inner.Scan.{refused_at, finished_at, finished_by, kept, sample_of, samples_at}
use Rattle.job.specs.JobArrays.{JobArrays}
use Rattle.job.specs.declared.RefusedLine.{RefusedLine}

pub kept-within : (k n : ℕ) → k < 256 → n ≤ 8 → k * n + n ≤ 2048
kept-within k n h g =
    let h' : k ≤ 255 = omega arith in
    omega (arith, mul-le-mul_right n h')

-- r is the reading, which has come to the place `at` with the samples of j; l is the line there.
module _ (r : Result JobArrays RefusedLine) (text : List ℕ) (at : ℕ) (j : JobArrays) (q : r ≡ samples_at (257 - j.k) text at j) (w : j.k ≤ 256)
    (l : Option Line) (p : l ≡ line_at text at 83 j.n) where
  come : r ≡ sample_of text at j l (λ line. samples_at (257 - (j.k + 1)) text line.next (kept j line.numbers))
  unfolding samples_at
  come =
      let e : 257 - j.k ≡ suc (257 - (j.k + 1)) = omega arith in
      q ∙ ap (λ (m : ℕ). samples_at m text at j) e ∙ rw (← p) refl

  -- no sample more
  module _ (e : l ≡ None) (z : Result Unit Refusal) (a : z ≡ ending_at text at j.k) where
    end : r ≡ finished_by j z
    unfolding sample_of finished_at
    end = come ∙ rw (e, ← a) refl

    pub samples-ended : (x : Unit) → z ≡ Ok x → r ≡ Ok j
    unfolding finished_by
    samples-ended x q = end ∙ rw q refl

    pub samples-refused : (refusal : Refusal) → z ≡ Err refusal → r ≡ refused_at refusal (j.k + 2)
    unfolding finished_by
    samples-refused refusal q = end ∙ rw q refl

  module _ (line : Line) (e : l ≡ Some line) where
    pub samples-beyond : sample_within j.n line.numbers ≡ false → r ≡ refused_at OutOfRange (j.k + 2)
    unfolding sample_of
    samples-beyond f = come ∙ rw e (simp f)

    module _ (t : sample_within j.n line.numbers ≡ true) where
      pub samples-full : 256 ≤ j.k → r ≡ refused_at SampleCount (j.k + 2)
      unfolding sample_of
      samples-full h = come ∙ rw e (simp (t, le-ltb _ _ h))

      pub samples-more : j.k < 256 → r ≡ samples_at (257 - (j.k + 1)) text line.next (kept j line.numbers)
      unfolding sample_of
      samples-more h = come ∙ rw e (simp (t, lt-ltb _ _ h))
