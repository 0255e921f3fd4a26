-- The text of a number, by its sign, with its size as a call is given it.
use mathlib.Core.Path.{◌≡◌}
use mathlib.Core.Bool.{true, false, true≢false}
use mathlib.Core.List.{◌∷◌}
use native.Mathlib.Nat.{not-suc-le-zero}
use borrow.Author.Tests.{ltb-true}
use lib.IntN.{ℤ, pos, negsuc, nat_abs}
use lib.Signed.{lt_z}
use mir.Syntax.{w64}
use mir.Val.{SFits, to_z, of_z}
use mir.Facts.{to_z-of_z}
use Rattle.integer.specs.laws.Word.{sign_read}
use Rattle.text.specs.Decimal.{digits, number}

pub negative-text : (z : ℤ) → SFits w64 z → lt_z (to_z w64 (of_z w64 z)) (pos 0) ≡ true → number z ≡ 45 ∷ digits (nat_abs (to_z w64 (of_z w64 z)))
unfolding number
negative-text (pos n) f e = absurd (not-suc-le-zero (ltb-true n 0 (sign_read f e)))
negative-text (negsuc n) f e = rw (to_z-of_z f)

pub natural-text : (z : ℤ) → SFits w64 z → lt_z (to_z w64 (of_z w64 z)) (pos 0) ≡ false → number z ≡ digits (nat_abs (to_z w64 (of_z w64 z)))
unfolding number
natural-text (pos n) f e = rw (to_z-of_z f)
natural-text (negsuc n) f e = absurd (true≢false (sign_read f e))
