-- Document 01, 'Caused by the input' and 'Caused by the state': every refusal of a call by its arguments and the state, and their order. Document
-- 02's 15, which is tried before them, is of the bench alone (specs/Bench).
use Rattle.std.specs.Prelude.{ℕ, ◌+◌, ◌-◌, ◌*◌, ◌/◌, Bool, true, false, ◌&&◌, List, [], ◌∷◌, eqb, leb, ltb, ℤ, pos, negsuc, nat_abs, length}
use Rattle.integer.specs.Matrix.{Matrix, matrix_of}
use Rattle.integer.specs.Range.{all}
use Rattle.ledger.specs.Call.{Call, load, load_samples, turn, sweep_in, loose_pair, axis}
use Rattle.limits.specs.Limits.{entry_limit, least_channels, most_channels, tolerance_limit, turn_limit}
use Rattle.limits.specs.Unless.{unless}
use Rattle.readings.specs.Refusal.{samples_refusal}

unfoldable pub equal : ℤ → ℤ → Bool
equal (pos x) (pos y) = eqb x y
equal (pos x) (negsuc y) = false
equal (negsuc x) (pos y) = false
equal (negsuc x) (negsuc y) = eqb x y

unfoldable pub symmetric : ℕ → Matrix → Bool
symmetric n a = all (λ i. all (λ j. equal (a i j) (a j i)) n) n

-- no entry is beyond ±limit
unfoldable pub entries_within : ℕ → List ℤ → Bool
entries_within limit [] = true
entries_within limit (x ∷ xs) = leb (nat_abs x) limit && entries_within limit xs

-- The refusal's number, or 0 for a call that is accepted, under a limit of the entries, on a state with n channels (0: no matrix) and m turns made.
-- Load: 5, 6, 8, 7. A load of samples 'is refused as W1's writer refuses them': 2, 6, 3. Other calls: 10, then 2 or 9, then 11
unfoldable pub refusal_under : ℕ → ℕ → ℕ → Call → ℕ
refusal_under limit n m (load k numbers) =
    unless (leb least_channels k && leb k most_channels) 5
    (unless (eqb (length numbers) (k * k)) 6
    (unless (entries_within limit numbers) 8
    (unless (symmetric k (matrix_of k numbers)) 7 0)))
refusal_under limit n m (load_samples k dilutions counts) = samples_refusal k dilutions counts
refusal_under limit n m (turn p q) =
    unless (ltb 0 n) 10 (unless (leb 1 p && (ltb p q && leb q n)) 9 (unless (ltb m turn_limit) 11 0))
refusal_under limit n m (sweep_in order) = unless (ltb 0 n) 10 (unless (leb (m + n * (n - 1) / 2) turn_limit) 11 0)
refusal_under limit n m (loose_pair t) = unless (ltb 0 n) 10 (unless (leb t tolerance_limit) 2 0)
refusal_under limit n m (axis i) = unless (ltb 0 n) 10 (unless (leb 1 i && leb i n) 9 0)

-- 'an entry beyond ±2,097,152' (document 02, W9)
abbrev pub refusal_of : ℕ → ℕ → Call → ℕ
refusal_of = refusal_under entry_limit
