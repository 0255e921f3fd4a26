-- Bytes of a number, least significant first: how many, each a byte, and read back they are that number.
use Rattle.std.specs.Prelude.{ℕ, zero, suc, ◌/◌, ◌%◌, ◌^◌, ◌<◌, ◌≡◌, refl, length, T, ltb, Float}
use Rattle.std.proofs.Common.{ap, ◌∙◌, pow-suc, arith, lt→ltb}
use Rattle.std.proofs.Math.Pow.{are_bytes}
use Rattle.std.specs.Float.{binary64}
use Rattle.std.specs.Float.Ieee.{fits, to_bits, of_bits}
use Rattle.std.specs.Float.Ieee.Fits.{and_i}
use Rattle.std.specs.Float.Ieee.Bits.{of_bits-to_bits, to_bits-lt}
use Rattle.binary64.specs.Binary64.{low_bytes, from_bytes, bytes_of, read_back_of}

-- Every number below 256^k is that of its lowest k bytes.
from_low : (k x : ℕ) → x < 256 ^ k → from_bytes (low_bytes k x) ≡ x
unfolding low_bytes from_bytes
from_low zero x h = omega arith
from_low (suc k) x h =
    let rest = from_low k (x / 256) (omega (arith, pow-suc 256 k)) in
    rw rest (omega arith)

low-length : (k x : ℕ) → length (low_bytes k x) ≡ k
unfolding low_bytes
low-length zero x = refl
low-length (suc k) x = ap suc (low-length k (x / 256))

low-bytes : (k x : ℕ) → T (are_bytes (low_bytes k x))
unfolding low_bytes
low-bytes zero x = tt
low-bytes (suc k) x = and_i (ltb (x % 256) 256) (are_bytes (low_bytes k (x / 256))) (lt→ltb (x % 256) 256 (omega arith)) (low-bytes k (x / 256))

pub eight-bytes : (x : Float) → length (bytes_of x) ≡ 8
unfolding bytes_of
eight-bytes x = low-length 8 (to_bits binary64 x)

pub are-bytes : (x : Float) → T (are_bytes (bytes_of x))
unfolding bytes_of
are-bytes x = low-bytes 8 (to_bits binary64 x)

-- Every number that the format holds is read back; of a NaN the format holds one.
pub bytes_read : (x : Float) → T (fits binary64 x) → read_back_of (bytes_of x) ≡ x
unfolding read_back_of bytes_of
bytes_read x h = ap (of_bits binary64) (from_low 8 (to_bits binary64 x) (to_bits-lt binary64 x h)) ∙ of_bits-to_bits binary64 x h
