-- Document 02, W12: a kept entry and an error in IEEE 754 binary64, and the eight bytes of a binary64 number.
use Rattle.std.specs.Prelude.{ℕ, zero, suc, ◌+◌, ◌*◌, ◌/◌, ◌%◌, ◌^◌, ◌≡◌, List, [], ◌∷◌, ℤ, pos, nat_abs, length, replicate, T, Float}
use Rattle.std.specs.Int.Signed.{lt_z}
use Rattle.std.proofs.Math.Pow.{are_bytes}
use Rattle.std.specs.Float.{binary64}
use Rattle.std.specs.Float.Ieee.{fits, round, to_bits, of_bits}
use Rattle.std.specs.Float.Ieee.Exact.{HasValue}
use Rattle.limits.specs.Limits.{units}

-- 'equal to a_ii × 2^e / 1024 and r_i × 2^e / 1024': z × 2^e / 1024, the binary64 number nearest to it (`nothing-lost`: it is that number).
unfoldable pub binary64_of : ℤ → ℕ → Float
binary64_of z e = round binary64 (lt_z z (pos 0)) (nat_abs z * 2 ^ e) units

-- 'each number's least significant byte first': the lowest k bytes of a whole number, and the whole number that bytes stand for.
unfoldable pub low_bytes : ℕ → ℕ → List ℕ
low_bytes zero x = []
low_bytes (suc k) x = x % 256 ∷ low_bytes k (x / 256)

unfoldable pub from_bytes : List ℕ → ℕ
from_bytes [] = 0
from_bytes (b ∷ bs) = b + 256 * from_bytes bs

-- The eight bytes of a number's binary64 interchange format (IEEE 754, 3.4: sign, exponent, significand), least significant first.
unfoldable pub bytes_of : Float → List ℕ
bytes_of x = low_bytes 8 (to_bits binary64 x)

-- The number that eight bytes stand for, read the same way.
unfoldable pub read_back_of : List ℕ → Float
read_back_of bytes = of_bits binary64 (from_bytes bytes)

-- 'equal to a_ii × 2^e / 1024 .. with nothing lost. A zero is given as plus zero.' `HasValue x s a c` of the logic's IEEE 754 says that x is
-- finite (no NaN, no infinity), has the sign s (true where it is negative), and is a / c in size: for x = ±m × 2^k it is m × 2^k × c = a.
pub record NothingLost (z : ℤ) (e : ℕ) : Type 0 where
  -- it is a number of the format: at most 53 significant binary digits, the exponent within its range
  pub held : T (fits binary64 (binary64_of z e))
  -- it is z × 2^e / 1024: the sign of z, and |z| × 2^e / 1024 in size
  pub value : HasValue (binary64_of z e) (lt_z z (pos 0)) (nat_abs z * 2 ^ e) units
  -- and no other number of the format is
  pub only : (x : Float) → T (fits binary64 x) → HasValue x (lt_z z (pos 0)) (nat_abs z * 2 ^ e) units → x ≡ binary64_of z e
  -- its bytes are eight, each from 0 to 255, and whoever reads them back has that number
  pub eight : length (bytes_of (binary64_of z e)) ≡ 8
  pub are-bytes : T (are_bytes (bytes_of (binary64_of z e)))
  pub read : read_back_of (bytes_of (binary64_of z e)) ≡ binary64_of z e
  -- plus zero: every bit is 0, the sign's too
  pub plus-zero : z ≡ pos 0 → bytes_of (binary64_of z e) ≡ replicate 8 0
