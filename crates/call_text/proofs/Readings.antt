-- A reading, as it was tried for a number of 32 bits; and a list of them, written place after place.
use Prim.Native.Nat.{ℕ, suc, ◌+◌, ◌≤◌, ◌<◌}
use mathlib.Core.Path.{◌≡◌, refl, sym, ◌∙◌}
use mathlib.Core.List.{List, ◌++◌, append_assoc, map, map-append}
use native.Mathlib.Numerals.{add-one}
use native.Mathlib.Omega.{arith}
use Rattle.std.proofs.Common.{Bool, Err, Ok, Result, cond, false, leb, nat_abs, true}
use Rattle.std.specs.Int.{FitsUnsignedBits}
use Rattle.std.specs.Result.{OkIff, result_unwrap_or}
use borrow.Author.Tests.{le-leb, leb-true}
use lib.IntN.{ℤ, pos, negsuc}
use mir.Facts.{to_z-of_z}
use lib.ListN.{length, take, drop, get_or, set, length-map}
use lib.Seq.{drop-cons, length-take-le, set_at, take-suc}
use Rattle.call_text.specs.Calls.{most_reading, reading}

pub reading-tried : {E : Type 0} (x : ℤ) (r : Result ℕ E) (y : ℕ) → OkIff r (FitsUnsignedBits 32 x) (nat_abs x) →
    y ≡ result_unwrap_or r most_reading → y ≡ reading x
unfolding reading
reading-tried (pos n) (Ok m) y h e = e ∙ h.1 ∙ sym (let k : n ≤ most_reading = let w = h.0 in omega arith in simp (le-leb n most_reading k))
reading-tried (pos n) (Err z) y h e =
    e ∙ sym (by (leb n most_reading) refl)
  where
    by : (t : Bool) → leb n most_reading ≡ t → cond t n most_reading ≡ most_reading
    by true q = absurd (h (omega (arith, leb-true n most_reading q)))
    by false q = refl
reading-tried (negsuc n) (Ok m) y h e = absurd h.0
reading-tried (negsuc n) (Err z) y h e = e

-- the readings of the first i numbers, and what was there after them
abbrev pub read_up_to : List ℤ → List ℕ → ℕ → List ℕ
read_up_to numbers entry i = map reading (take i numbers) ++ drop i entry

module _ (numbers : List ℤ) (entry : List ℕ) (i : ℕ) (h : i < length numbers) (k : i < length entry) where
  pub reads-next : set (read_up_to numbers entry i) i (reading (get_or numbers i (pos 0))) ≡ read_up_to numbers entry (i + 1)
  reads-next =
      let size : length (map reading (take i numbers)) ≡ i = length-map (take i numbers) reading ∙ length-take-le i numbers (omega arith) in
      rw (
        drop-cons entry i 0 k,
        set_at (map reading (take i numbers)) (get_or entry i 0) (drop (suc i) entry) (reading (get_or numbers i (pos 0))) i size,
        add-one,
        take-suc numbers i (pos 0) h,
        map-append,
        append_assoc,
      )

-- by which both are proved
pub ruleset as_readings = (to_z-of_z, reading-tried, reads-next)
