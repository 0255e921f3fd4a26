-- What a sample adds to the sums so far.
use Rattle.std.specs.Prelude.{List, ℕ, ◌+◌, get_or}
use Rattle.integer.specs.Tabulate.{tabulate}

-- Each of m places raised by f's value there
unfoldable pub raised : ℕ → (ℕ → ℕ) → List ℕ → List ℕ
raised m f xs = tabulate m (λ p. get_or xs p 0 + f p)
