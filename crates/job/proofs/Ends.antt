-- What the lines `P` and `E` come to, number by number.
use Prim.Native.Nat.{ℕ, ◌+◌}
use mathlib.Core.Path.{◌≡◌, sym, ap}
use mathlib.Core.Bool.{true, false, cond, ◌&&◌}
use mathlib.Core.List.{List}
use lib.Dec.{leb, ltb, eqb, lit<, lit≤}
use lib.ListN.{length, set, replicate}
use Rattle.job.specs.inner.FieldScan.{field_at, tagged_at}
use Rattle.job.specs.declared.field.Field.{Field}
use Rattle.job.specs.declared.field.Field.TheVariants.{Inner, Last}
use Rattle.readings.specs.Ranges.{parameters_in_range}
use Rattle.std.specs.Prelude.{None, Ok, Err}
use Rattle.job.specs.inner.LineScan.{numbers_at, line_at, parameters_of, parameters_at, ending_of, ending_at}
use Rattle.refusal.specs.declared.Refusal.TheVariants.{Malformed, OutOfRange, SampleCount, WrongEnd}
use Rattle.job.proofs.Lines.{IsNotInner, IsNotLast, numbers_more, numbers-broken, numbers-unended, numbers-last}

untagged : (text : List ℕ) (at tag m : ℕ) → tagged_at text at tag ≡ false → None ≡ line_at text at tag m
unfolding line_at
untagged text at tag m t = sym (simp t)

tagged : (text : List ℕ) (at tag m : ℕ) → tagged_at text at tag ≡ true → line_at text at tag m ≡ numbers_at text (replicate 9 0) (at + 2) 0 m
unfolding line_at
tagged text at tag m t = simp t

module _ (text : List ℕ) where
  malformed-p : None ≡ line_at text 0 80 2 → Err Malformed ≡ parameters_at text
  unfolding parameters_at parameters_of
  malformed-p q = ap parameters_of q

  pub p-untagged : tagged_at text 0 80 ≡ false → Err Malformed ≡ parameters_at text
  p-untagged t = malformed-p (untagged text 0 80 2 t)

  module _ (t : tagged_at text 0 80 ≡ true) (f : Field) (p : f ≡ field_at text 2) where
    pub p-first : IsNotInner f → Err Malformed ≡ parameters_at text
    p-first b = malformed-p (numbers-broken _ _ _ _ _ _ (tagged text 0 80 2 t) f p (lit< tt) b)

    module _ (n second : ℕ) (e : f ≡ Inner n second) (f' : Field) (p' : f' ≡ field_at text second) where
      after-n : line_at text 0 80 2 ≡ numbers_at text (set (replicate 9 0) 0 n) second 1 1
      after-n = numbers_more _ _ _ _ _ _ (tagged text 0 80 2 t) f p (lit< tt) n second e

      pub p-second : IsNotInner f' → Err Malformed ≡ parameters_at text
      p-second b = malformed-p (numbers-broken _ _ _ _ _ _ after-n f' p' (lit< tt) b)

      module _ (limit third : ℕ) (e' : f' ≡ Inner limit third) (f'' : Field) (p'' : f'' ≡ field_at text third) where
        after-limit : line_at text 0 80 2 ≡ numbers_at text (set (set (replicate 9 0) 0 n) 1 limit) third 2 0
        after-limit = numbers_more _ _ _ _ _ _ after-n f' p' (lit< tt) limit third e'

        pub p-third : IsNotLast f'' → Err Malformed ≡ parameters_at text
        p-third b = malformed-p (numbers-unended _ _ _ _ _ _ after-limit f'' p'' (lit≤ tt) b)

        pub p-whole : (tolerance next : ℕ) → f'' ≡ Last tolerance next →
            cond (parameters_in_range n limit tolerance) (Ok (record { n = n; limit = limit; tolerance = tolerance; next = next }))
            (Err OutOfRange) ≡ parameters_at text
        unfolding parameters_at parameters_of
        p-whole tolerance next e'' =
            ap parameters_of (numbers-last _ _ _ _ _ _ after-limit f'' p'' (lit≤ tt) tolerance next e'')

module _ (text : List ℕ) (at k : ℕ) where
  malformed-e : None ≡ line_at text at 69 0 → Err Malformed ≡ ending_at text at k
  unfolding ending_at ending_of
  malformed-e q = ap (ending_of text k) q

  pub e-untagged : tagged_at text at 69 ≡ false → Err Malformed ≡ ending_at text at k
  e-untagged t = malformed-e (untagged text at 69 0 t)

  module _ (t : tagged_at text at 69 ≡ true) (f : Field) (p : f ≡ field_at text (at + 2)) where
    pub e-first : IsNotLast f → Err Malformed ≡ ending_at text at k
    e-first b = malformed-e (numbers-unended _ _ _ _ _ _ (tagged text at 69 0 t) f p (lit≤ tt) b)

    pub e-whole : (count next : ℕ) → f ≡ Last count next →
        ending_at text at k ≡ cond (ltb k 2) (Err SampleCount) (cond (eqb count k && leb (length text) next) (Ok (record {})) (Err WrongEnd))
    unfolding ending_at ending_of
    e-whole count next e =
        sym (ap (ending_of text k)
        (numbers-last _ _ _ _ _ _ (tagged text at 69 0 t) f p (lit≤ tt) count next e))
