-- Sums and sums, place by place: those of two lists of samples together, and those of a list without some of its samples.
use Rattle.std.specs.Prelude.{List, ℕ, ◌+◌, ◌-◌, get_or}
use Rattle.integer.specs.Tabulate.{tabulate}
use Rattle.sums.specs.declared.Sums.{Sums}

-- f of what two lists have at each of m places
unfoldable pub placewise : ℕ → (ℕ → ℕ → ℕ) → List ℕ → List ℕ → List ℕ
placewise m f xs ys = tabulate m (λ p. f (get_or xs p 0) (get_or ys p 0))

-- Document 02, W6: 'by adding their sample numbers, channel sums and cross sums'
unfoldable pub plus_of : Sums → Sums → Sums
plus_of a b =
    record { k = a.k + b.k; channel = placewise 8 ◌+◌ a.channel b.channel; cross = placewise 64 ◌+◌ a.cross b.cross }

-- The same sums taken away again; no difference is below 0
unfoldable pub minus_of : Sums → Sums → Sums
minus_of a b =
    record { k = a.k - b.k; channel = placewise 8 ◌-◌ a.channel b.channel; cross = placewise 64 ◌-◌ a.cross b.cross }
