-- Document 01, 'From readings to a table': samples, their values z, and totals over samples. Samples and channels count from 0 here.
use Rattle.std.specs.Prelude.{List, [], ◌∷◌, ℕ, ◌+◌, ◌*◌, length, get_or, take, drop}
use Rattle.integer.specs.Tabulate.{tabulate}

-- 'A sample has a dilution and n counts'
pub record Sample : Type 0 where
  pub dilution : ℕ
  pub counts : List ℕ

abbrev pub sample : ℕ → List ℕ → Sample
sample dilution counts = record { dilution = dilution; counts = counts }

-- 'its value z on a channel is count × dilution'
unfoldable pub z : Sample → ℕ → ℕ
z s i = get_or s.counts i 0 * s.dilution

-- Sample after sample: a dilution each, and n counts each
unfoldable pub sample_at : ℕ → List ℕ → List ℕ → ℕ → Sample
sample_at n dilutions counts s = sample (get_or dilutions s 0) (take n (drop (n * s) counts))

unfoldable pub samples : ℕ → List ℕ → List ℕ → List Sample
samples n dilutions counts = tabulate (length dilutions) (sample_at n dilutions counts)

-- The sum of what each sample gives: 'sum of z_i' is total (λ s. z s i)
unfoldable pub total : (Sample → ℕ) → List Sample → ℕ
total f [] = 0
total f (s ∷ ss) = f s + total f ss
