-- Laws of samples: what each sample of readings is, and totals of lists put together.
use Rattle.std.specs.Prelude.{◌≡◌, refl, List, [], ◌∷◌, ◌++◌, ℕ, ◌+◌, ◌*◌, ◌<◌, length, get_or, drop}
use Rattle.std.proofs.Common.{sym, ◌∙◌, add_assoc, zero-add, arith, length-drop}
use Rattle.std.proofs.Math.Nat.{mul-le-mul_left, mul-suc}
use Rattle.std.proofs.Math.Seq.{length-take-le, get_or-take, get_or-drop}
use Rattle.integer.specs.laws.Tabulate.{length-tabulate, get_d_tabulate}
use Rattle.readings.specs.Samples.{Sample, sample_at, samples, total}

unfoldable pub no_sample : Sample
no_sample = record { dilution = 0; counts = [] }

-- 'A sample has a dilution and n counts': sample s of readings has dilution s, and on channel j count n × s + j
pub record IsSample (n : ℕ) (dilutions counts : List ℕ) (s : ℕ) (r : Sample) : Type 0 where
  pub dilution : r.dilution ≡ get_or dilutions s 0
  pub channels : length r.counts ≡ n
  pub count : (j : ℕ) → j < n → get_or r.counts j 0 ≡ get_or counts (n * s + j) 0

module _ (n : ℕ) (dilutions counts : List ℕ) where
  pub length-samples : length (samples n dilutions counts) ≡ length dilutions
  unfolding samples
  length-samples = length-tabulate (length dilutions) _

  pub sample-is : length counts ≡ n * length dilutions → (s : ℕ) → s < length dilutions →
      IsSample n dilutions counts s (get_or (samples n dilutions counts) s no_sample)
  unfolding samples sample_at
  sample-is e s h =
      rw (get_d_tabulate (length dilutions) (sample_at n dilutions counts) s no_sample h)
      (record {
        dilution = refl;
        channels = length-take-le n (drop (n * s) counts) (rw (length-drop, e) (omega (arith, mul-suc n s, mul-le-mul_left n h)));
        count = λ j b. get_or-take n (drop (n * s) counts) j 0 b ∙ get_or-drop (n * s) counts j 0;
      })

pub total-append : (f : Sample → ℕ) (ss rs : List Sample) → total f (ss ++ rs) ≡ total f ss + total f rs
unfolding total
total-append f [] rs = sym (zero-add (total f rs))
total-append f (s ∷ ss) rs = rw (total-append f ss rs) (sym (add_assoc (f s) (total f ss) (total f rs)))

pub total_ext : (f g : Sample → ℕ) (ss : List Sample) → ((s : Sample) → f s ≡ g s) → total f ss ≡ total g ss
unfolding total
total_ext f g [] e = refl
total_ext f g (s ∷ ss) e = rw (e s, total_ext f g ss e)
