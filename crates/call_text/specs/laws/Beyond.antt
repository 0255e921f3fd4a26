-- 9,999,999,999 is beyond every range: it is no bench, a load with it as n is refused 5, an entry of it, of either sign, is not within the limit
-- (refusal 8), a tolerance of it is refused 2, and a channel or an axis of it 9; samples with it as n are refused 2. So are samples that have
-- 4,294,967,295 for a dilution or a count, and a reading that is in a range is the number itself.
use Rattle.std.specs.Prelude.{ℕ, ◌≤◌, ◌<◌, ◌≡◌, Bool, cond, ◌&&◌, List, [], ◌∷◌, ◌++◌, ℤ, nat_abs, negsuc, pos}
use Rattle.std.proofs.Math.Path.{refl}
use Rattle.std.proofs.Math.Bool.{true, false, and-false}
use Rattle.std.proofs.Common.{arith}
use borrow.Author.Tests.{lt-leb, lt-ltb, ltb-true}
use Rattle.std.proofs.Math.Dec.{leb, ltb}
use Rattle.integer.specs.Within.{all_within, within}
use Rattle.limits.specs.Limits.{entry_limit, least_dilution, most_count, most_dilution}
use Rattle.readings.specs.Refusal.{samples_refusal}
use Rattle.ledger.specs.Bench.{is_bench}
use Rattle.ledger.specs.Call.{load, load_samples, turn, loose_pair, axis}
use Rattle.ledger.specs.Refusal.{refusal_of, refusal_under, entries_within}
use Rattle.call_text.specs.Calls.{most_reading, reading}
use Rattle.call_text.specs.Numbers.{beyond}

-- it is no bench
pub bench-beyond : is_bench beyond ≡ false
unfolding is_bench within
bench-beyond = refl

pub channels-beyond : (n m : ℕ) (numbers : List ℤ) → refusal_of n m (load beyond numbers) ≡ 5
unfolding refusal_under
channels-beyond n m numbers = refl

-- n channels are loaded
module _ (n m : ℕ) (loaded : 0 < n) (few : n ≤ 8) where
  some-loaded : ltb 0 n ≡ true
  some-loaded = lt-ltb 0 n loaded

  above : leb beyond n ≡ false
  above = lt-leb beyond n (omega arith)

  pub first-beyond : (q : ℕ) → refusal_of n m (turn beyond q) ≡ 9
  unfolding refusal_under
  first-beyond q = rw (some-loaded, not-both (ltb beyond q) refl)
    where
      not-both : (t : Bool) → ltb beyond q ≡ t → (t && leb q n) ≡ false
      not-both true e = let h = ltb-true beyond q e in lt-leb q n (omega arith)
      not-both false e = refl

  pub second-beyond : (p : ℕ) → refusal_of n m (turn p beyond) ≡ 9
  unfolding refusal_under
  second-beyond p = rw (some-loaded, above, and-false, and-false)

  pub tolerance-beyond : refusal_of n m (loose_pair beyond) ≡ 2
  unfolding refusal_under
  tolerance-beyond = rw some-loaded

  pub axis-beyond : refusal_of n m (axis beyond) ≡ 9
  unfolding refusal_under
  axis-beyond = rw (some-loaded, above)

-- among the entries
pub entry-beyond : (xs : List ℤ) (x : ℤ) (ys : List ℤ) → nat_abs x ≡ beyond → entries_within entry_limit (xs ++ x ∷ ys) ≡ false
unfolding entries_within
entry-beyond [] x ys e = rw e
entry-beyond (y ∷ xs) x ys e = rw (entry-beyond xs x ys e, and-false)

-- samples of any n, by 32 bits
pub samples-channels-beyond : (n m : ℕ) (dilutions counts : List ℕ) → refusal_of n m (load_samples beyond dilutions counts) ≡ 2
unfolding refusal_under samples_refusal within
samples-channels-beyond n m dilutions counts = refl

none_within : (low high : ℕ) → high < most_reading → (xs ys : List ℕ) → all_within low high (xs ++ most_reading ∷ ys) ≡ false
unfolding all_within within
none_within low high h [] ys = rw (lt-leb most_reading high h, and-false)
none_within low high h (x ∷ xs) ys = rw (none_within low high h xs ys, and-false)

module _ (n m k : ℕ) (xs ys : List ℕ) where
  pub dilution-beyond : (counts : List ℕ) → refusal_of n m (load_samples k (xs ++ most_reading ∷ ys) counts) ≡ 2
  unfolding refusal_under samples_refusal
  dilution-beyond counts = rw (none_within least_dilution most_dilution (omega arith) xs ys, and-false)

  pub count-beyond : (dilutions : List ℕ) → refusal_of n m (load_samples k dilutions (xs ++ most_reading ∷ ys)) ≡ 2
  unfolding refusal_under samples_refusal
  count-beyond dilutions = rw (none_within 0 most_count (omega arith) xs ys, and-false, and-false)

-- a reading below 4,294,967,295 is the number itself, so one in a range is
pub reading-itself : (x : ℤ) → reading x < most_reading → x ≡ pos (reading x)
unfolding reading
reading-itself (negsuc x) h = absurd (omega arith)
reading-itself (pos x) h = by (leb x most_reading) h
  where
    by : (t : Bool) → cond t x most_reading < most_reading → pos x ≡ pos (cond t x most_reading)
    by true h = refl
    by false h = absurd (omega arith)
