-- Samples handed over one list after another are the samples of the first list, and then those of the second.
use Rattle.std.specs.Prelude.{ℕ, ◌+◌, ◌*◌, ◌<◌, ◌≤◌, ◌≡◌, take}
use Rattle.std.proofs.Common.{sym, ◌∙◌, mul-add, arith, get_or-append-add}
use Rattle.std.proofs.Math.Path.{ap, ap₂}
use mathlib.Core.List.{List, ◌++◌}
use Rattle.std.proofs.Math.Nat.{mul-suc, mul-le-mul_left}
use Rattle.std.proofs.Math.ListN.{length, drop, length-append, length-drop, get_or-append}
use Rattle.std.proofs.Math.Seq.{drop-append-add, take-append-le}
use Rattle.std.proofs.lemmas.List.{drop-append-le}
use Rattle.integer.specs.laws.Tabulate.{tabulate-append, tabulate-ext}
use Rattle.readings.specs.Samples.{sample, sample_at, samples}

module _ (n : ℕ) (dilutions counts : List ℕ) (counted : length counts ≡ n * length dilutions) (later-dilutions later-counts : List ℕ) where
  pub sample-before : (s : ℕ) → s < length dilutions →
      sample_at n (dilutions ++ later-dilutions) (counts ++ later-counts) s ≡ sample_at n dilutions counts s
  unfolding sample_at
  sample-before s h =
      let room : n * s + n ≤ length counts = rw counted (omega (arith, mul-suc n s, mul-le-mul_left n h)) in
      ap₂ sample
      (get_or-append dilutions later-dilutions 0 s h)
      (ap (take n) (drop-append-le (n * s) counts later-counts (omega arith))
      ∙ take-append-le n (drop (n * s) counts) later-counts (rw length-drop (omega arith)))

  pub sample-after : (s : ℕ) →
      sample_at n (dilutions ++ later-dilutions) (counts ++ later-counts) (length dilutions + s) ≡ sample_at n later-dilutions later-counts s
  unfolding sample_at
  sample-after s =
      ap₂ sample
      (get_or-append-add dilutions later-dilutions s 0)
      (ap (take n)
      (ap (λ k. drop k (counts ++ later-counts)) (mul-add n (length dilutions) s ∙ ap (λ k. k + n * s) (sym counted))
      ∙ drop-append-add counts later-counts (n * s)))

  pub samples-append : samples n (dilutions ++ later-dilutions) (counts ++ later-counts) ≡
      samples n dilutions counts ++ samples n later-dilutions later-counts
  unfolding samples
  samples-append =
      rw length-append
      (tabulate-append (length dilutions) (length later-dilutions) _
      ∙ ap₂ ◌++◌ (tabulate-ext (length dilutions) _ _ sample-before) (tabulate-ext (length later-dilutions) _ _ (λ s h. sample-after s)))
