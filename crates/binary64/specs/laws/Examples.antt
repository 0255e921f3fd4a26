-- Worked examples: numbers and their bytes.
use Rattle.std.specs.Prelude.{◌≡◌, refl, [], ◌∷◌, pos, negsuc}
use Rattle.std.specs.Float.Ieee.{odd, units as smallest, round, size, span, climb, to_bits}
use Rattle.binary64.specs.Binary64.{binary64_of, low_bytes, bytes_of}

-- 75776 / 1024 = 74 = 1.15625 × 2^6: 0x4052800000000000
whole-number : bytes_of (binary64_of (pos 75776) 0) ≡ 0 ∷ 0 ∷ 0 ∷ 0 ∷ 0 ∷ 128 ∷ 82 ∷ 64 ∷ []
unfolding bytes_of low_bytes to_bits binary64_of round size smallest odd span climb
whole-number = refl

-- −1 / 1024 = −2^-10: 0xbf50000000000000
least-unit : bytes_of (binary64_of (negsuc 0) 0) ≡ 0 ∷ 0 ∷ 0 ∷ 0 ∷ 0 ∷ 0 ∷ 80 ∷ 191 ∷ []
unfolding bytes_of low_bytes to_bits binary64_of round size smallest odd span climb
least-unit = refl

-- 2147483647 × 2^40 / 1024 = (2^31 − 1) × 2^30: 0x43bfffffffc00000
large-shift : bytes_of (binary64_of (pos 2_147_483_647) 40) ≡ 0 ∷ 0 ∷ 192 ∷ 255 ∷ 255 ∷ 255 ∷ 191 ∷ 67 ∷ []
unfolding bytes_of low_bytes to_bits binary64_of round size smallest odd span climb
large-shift = refl
