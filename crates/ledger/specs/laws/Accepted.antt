-- What it says of a call's arguments that no refusal applies to it.
use Rattle.std.specs.Prelude.{◌≡◌, Bool, true, false, ◌&&◌, T, eqb, ltb, ℤ, pos, negsuc, nat_abs, length, get_or}
use Rattle.std.proofs.Math.Path.{refl}
use Rattle.std.proofs.Common.{ap, eqb→eq, ltb→lt, le-leb, lt-ltb}
use mathlib.Core.List.{List, [], ◌∷◌}
use Prim.Native.Nat.{ℕ, zero, suc, ◌+◌, ◌-◌, ◌*◌, ◌/◌, ◌<◌, ◌≤◌}
use native.Mathlib.Omega.{arith}
use Rattle.std.proofs.Math.Dec.{leb, eqb_refl, leb→le}
use Rattle.std.proofs.Math.Facts.{and_yes}
use Rattle.integer.specs.Range.{all}
use Rattle.integer.specs.laws.Range.{below, from_each}
use Rattle.limits.specs.Limits.{entry_limit, turn_limit}
use Rattle.integer.specs.Matrix.{Matrix, matrix_of}
use Rattle.integer.specs.Matrix.{Symmetric}
use Rattle.ledger.specs.Call.{Call, load, load_samples, turn, sweep_in, loose_pair, axis}
use Rattle.ledger.specs.declared.Order.{Order}
use Rattle.limits.specs.Unless.{unless}
use Rattle.limits.specs.laws.Unless.{passed}
use Rattle.readings.specs.Refusal.{samples_refusal}
use Rattle.ledger.specs.Refusal.{equal, symmetric, entries_within, refusal_of, refusal_under}

-- 'Load: 5, 6, 8, 7': none of them
pub record Loads (n : ℕ) (numbers : List ℤ) : Type 0 where
  pub low : 2 ≤ n
  pub high : n ≤ 8
  pub count : length numbers ≡ n * n
  pub small : (i : ℕ) → nat_abs (get_or numbers i (pos 0)) ≤ entry_limit
  pub same : Symmetric n (matrix_of n numbers)

-- 'not 1 ≤ p < q ≤ n', 'turn with m = 448': neither of them
pub record TurnGiven (n m p q : ℕ) : Type 0 where
  pub first : 1 ≤ p
  pub ordered : p < q
  pub last : q ≤ n
  pub left : m < turn_limit

pub equal-same : (x y : ℤ) → T (equal x y) → x ≡ y
unfolding equal
equal-same (pos x) (pos y) t = ap pos (eqb→eq x y t)
equal-same (pos x) (negsuc y) t = absurd t
equal-same (negsuc x) (pos y) t = absurd t
equal-same (negsuc x) (negsuc y) t = ap negsuc (eqb→eq x y t)

pub equal_of : (x y : ℤ) → x ≡ y → T (equal x y)
unfolding equal
equal_of x y e = rw e (itself y)
  where
    itself : (z : ℤ) → T (equal z z)
    itself (pos n) = eqb_refl n
    itself (negsuc n) = eqb_refl n

symmetric-same : (n : ℕ) (a : Matrix) → T (symmetric n a) → Symmetric n a
unfolding symmetric
symmetric-same n a t i j o m =
    equal-same (a i j) (a j i) (below (λ j. equal (a i j) (a j i)) n (below (λ i. all (λ j. equal (a i j) (a j i)) n) n t i o) j m)

pub symmetric-of : (n : ℕ) (a : Matrix) → Symmetric n a → T (symmetric n a)
unfolding symmetric
symmetric-of n a s = from_each _ n (λ i h. from_each _ n (λ j k. equal_of (a i j) (a j i) (s i j h k)))

module _ (limit : ℕ) where
  pub within-small : (numbers : List ℤ) → T (entries_within limit numbers) → (i : ℕ) → nat_abs (get_or numbers i (pos 0)) ≤ limit
  unfolding entries_within
  within-small [] t i = omega arith
  within-small (x ∷ xs) t zero = leb→le (nat_abs x) limit (and_yes (leb (nat_abs x) limit) (entries_within limit xs) t).0
  within-small (x ∷ xs) t (suc i) = within-small xs (and_yes (leb (nat_abs x) limit) (entries_within limit xs) t).1 i

  pub small-within : (numbers : List ℤ) → ((i : ℕ) → nat_abs (get_or numbers i (pos 0)) ≤ limit) → entries_within limit numbers ≡ true
  unfolding entries_within
  small-within [] h = refl
  small-within (x ∷ xs) h = rw (le-leb (nat_abs x) limit (h 0), small-within xs (λ i. h (suc i)))

-- a call that is not refused under a limit is not refused under a larger one
module _ (limit larger : ℕ) (h : limit ≤ larger) where
  still-within : (numbers : List ℤ) → T (entries_within limit numbers) → entries_within larger numbers ≡ true
  still-within numbers t = small-within larger numbers (λ i. omega (arith, h, within-small limit numbers t i))

  later-only : (test : Bool) (number later later' : ℕ) → (later ≡ 0 → later' ≡ 0) → unless test number later ≡ 0 → unless test number later' ≡ 0
  later-only true number later later' f e = f e
  later-only false number later later' f e = e

  entries-only : (numbers : List ℤ) (later : ℕ) → unless (entries_within limit numbers) 8 later ≡ 0 →
      unless (entries_within larger numbers) 8 later ≡ 0
  entries-only numbers later e =
      let entries = passed (entries_within limit numbers) 8 later e (omega arith) in
      rw (still-within numbers entries.0) entries.1

  pub accepted-under : (n m : ℕ) (call : Call) → refusal_under limit n m call ≡ 0 → refusal_under larger n m call ≡ 0
  unfolding refusal_under
  accepted-under n m (load k numbers) e =
      later-only (leb 2 k && leb k 8) 5 _ _
      (later-only (eqb (length numbers) (k * k)) 6 _ _ (entries-only numbers (unless (symmetric k (matrix_of k numbers)) 7 0))) e
  accepted-under n m (load_samples k dilutions counts) e = e
  accepted-under n m (turn p q) e = e
  accepted-under n m (sweep_in order) e = e
  accepted-under n m (loose_pair t) e = e
  accepted-under n m (axis i) e = e

-- on any state: a load does not depend on it
pub load-accepted : (k m n : ℕ) (numbers : List ℤ) → refusal_of k m (load n numbers) ≡ 0 → Loads n numbers
unfolding refusal_under
load-accepted k m n numbers e =
    let size = passed (leb 2 n && leb n 8) 5 _ e (omega arith) in
    let count = passed (eqb (length numbers) (n * n)) 6 _ size.1 (omega arith) in
    let entries = passed (entries_within entry_limit numbers) 8 _ count.1 (omega arith) in
    let mirrors = passed (symmetric n (matrix_of n numbers)) 7 _ entries.1 (omega arith) in
    record {
      low = leb→le 2 n (and_yes (leb 2 n) (leb n 8) size.0).0;
      high = leb→le n 8 (and_yes (leb 2 n) (leb n 8) size.0).1;
      count = eqb→eq (length numbers) (n * n) count.0;
      small = within-small entry_limit numbers entries.0;
      same = symmetric-same n (matrix_of n numbers) mirrors.0;
    }

-- and neither does a load of samples
pub samples-accepted : (k m n : ℕ) (dilutions counts : List ℕ) → refusal_of k m (load_samples n dilutions counts) ≡ 0 →
    samples_refusal n dilutions counts ≡ 0
unfolding refusal_under
samples-accepted k m n dilutions counts e = e

pub samples-alone : (k m n : ℕ) (dilutions counts : List ℕ) → refusal_of k m (load_samples n dilutions counts) ≡ samples_refusal n dilutions counts
unfolding refusal_under
samples-alone k m n dilutions counts = refl

-- a turn, on a state with n channels and m turns made
pub turn-accepted : (n m p q : ℕ) → refusal_of n m (turn p q) ≡ 0 → TurnGiven n m p q
unfolding refusal_under
turn-accepted n m p q e =
    let held = passed (ltb 0 n) 10 _ e (omega arith) in
    let places = passed (leb 1 p && (ltb p q && leb q n)) 9 _ held.1 (omega arith) in
    let left = passed (ltb m turn_limit) 11 _ places.1 (omega arith) in
    let pair = and_yes (leb 1 p) (ltb p q && leb q n) places.0 in
    let order = and_yes (ltb p q) (leb q n) pair.1 in
    record {
      first = leb→le 1 p pair.0;
      ordered = ltb→lt p q order.0;
      last = leb→le q n order.1;
      left = ltb→lt m turn_limit left.0;
    }

-- 'sweep with m + n(n−1)/2 > 448': not so
pub sweep-accepted : (n m : ℕ) (order : Order) → refusal_of n m (sweep_in order) ≡ 0 → m + n * (n - 1) / 2 ≤ turn_limit
unfolding refusal_under
sweep-accepted n m order e =
    let held = passed (ltb 0 n) 10 _ e (omega arith) in
    leb→le (m + n * (n - 1) / 2) turn_limit (passed (leb (m + n * (n - 1) / 2) turn_limit) 11 _ held.1 (omega arith)).0

-- 'no matrix loaded': not so
pub sweep-held : (n m : ℕ) (order : Order) → refusal_of n m (sweep_in order) ≡ 0 → 1 ≤ n
unfolding refusal_under
sweep-held n m order e = ltb→lt 0 n (passed (ltb 0 n) 10 _ e (omega arith)).0

-- an axis, from 1 to n
pub record Names (n i : ℕ) : Type 0 where
  pub first : 1 ≤ i
  pub last : i ≤ n

pub axis-accepted : (n m i : ℕ) → refusal_of n m (axis i) ≡ 0 → Names n i
unfolding refusal_under
axis-accepted n m i e =
    let held = passed (ltb 0 n) 10 _ e (omega arith) in
    let place = and_yes (leb 1 i) (leb i n) (passed (leb 1 i && leb i n) 9 _ held.1 (omega arith)).0 in
    record { first = leb→le 1 i place.0; last = leb→le i n place.1 }

pub axis-taken : (n m i : ℕ) → 1 ≤ i → i ≤ n → refusal_of n m (axis i) ≡ 0
unfolding refusal_under
axis-taken n m i k l = rw (lt-ltb 0 n (omega arith), le-leb 1 i k, le-leb i n l)
