-- The answer of the search is the first loose pair in row order, and no other answer is; so of a loose-pair call.
use Rattle.std.specs.Prelude.{◌≡◌, Bool, true, false, cond, ◌⊎◌, ℕ, suc, ◌-◌, ◌≤◌, ◌<◌, ltb, nat_abs}
use Rattle.std.proofs.Math.Path.{refl}
use Rattle.std.proofs.Common.{sym, ◌∙◌, inl, arith, eq-eqb, ltb-true, ltb-false}
use mathlib.Core.List.{List, [], ◌∷◌}
use Rattle.std.proofs.Math.Logic.{inr}
use Rattle.std.proofs.Math.Numerals.{unary_clauses}
use Rattle.integer.specs.Matrix.{Matrix}
use Rattle.ledger.specs.Bench.{by}
use Rattle.ledger.specs.Call.{loose_pair}
use Rattle.ledger.specs.laws.Cyclic.{cyclic-pairs}
use Rattle.ledger.specs.Pairs.{Pair, cyclic, Ordered, Each}
use Rattle.ledger.specs.Refusal.{refusal_of}
use Rattle.record.specs.laws.Among.{Among, here, there, cyclic-among}
use Rattle.record.specs.laws.RowOrder.{Precedes, Rising, compared, cyclic-rising, one_way}
use Rattle.record.specs.declared.query.Answer.{Answer}
use Rattle.record.specs.declared.query.Answer.TheVariants.{Pair as PairIs, NoPair}
use Rattle.record.specs.Done.{Done, LooseDone}
use Rattle.record.specs.Flat.{kept_entry}
use Rattle.record.specs.Loose.{Before, FirstLoose, IsFirst, IsPair, PairOrNone, loose_of}
use Rattle.record.specs.Record.{answer_to}
use Rattle.record.specs.Solver.{answer_of, value_of}
use Rattle.record.specs.declared.Record.{Record}

-- every pair of a list is one of p < q < n
each-among : (n : ℕ) (pairs : List Pair) (pair : Pair) → Each n pairs → Among pair pairs → Ordered n pair
unfolding Each
each-among n [] pair all m = elim m [ ]
each-among n (x ∷ pairs) pair all here = all.0
each-among n (x ∷ pairs) pair all (there m) = each-among n pairs pair all.1 m

-- the search, on pairs that count from 0
module _ (a : Matrix) (t : ℕ) where
  abbrev size : Pair → ℕ
  size pair = nat_abs (a pair.p pair.q)

  -- the answer is a pair of the list that exceeds t, and none that comes before it does
  record Found (pairs : List Pair) (pair : Pair) : Type 0 where
    pub among : Among pair pairs
    pub exceeds : t < size pair
    pub none_before : (x : Pair) → Among x pairs → Precedes x pair → size x ≤ t

  -- or none, and none exceeds t
  abbrev Ends : List Pair → Answer → Type 0
  Ends pairs answer =
      ((pair : Pair) × (answer ≡ PairIs (suc pair.p) (suc pair.q)) × Found pairs pair)
      ⊎ ((answer ≡ NoPair) × ((x : Pair) → Among x pairs → size x ≤ t))

  search-ends : (pairs : List Pair) → Rising pairs → Ends pairs (loose_of a t pairs)
  unfolding loose_of Rising
  search-ends [] rising = inr (refl, λ x. elim [ ])
  search-ends (pair ∷ pairs) rising = by-test (ltb t (size pair)) refl (search-ends pairs rising.1)
    where
      first : (x : Pair) → Among x (pair ∷ pairs) → Precedes x pair → size x ≤ t
      first x here b = absurd (one_way b b)
      first x (there m) b = absurd (one_way b (rising.0 x m))

      all_of : size pair ≤ t → ((x : Pair) → Among x pairs → size x ≤ t) → (x : Pair) → Among x (pair ∷ pairs) → size x ≤ t
      all_of l all x here = l
      all_of l all x (there m) = all x m

      before_of : size pair ≤ t → (y : Pair) → ((x : Pair) → Among x pairs → Precedes x y → size x ≤ t) →
          (x : Pair) → Among x (pair ∷ pairs) → Precedes x y → size x ≤ t
      before_of l y all x here b = l
      before_of l y all x (there m) b = all x m b

      by-test : (b : Bool) → ltb t (size pair) ≡ b → Ends pairs (loose_of a t pairs) →
          Ends (pair ∷ pairs) (cond b (PairIs (suc pair.p) (suc pair.q)) (loose_of a t pairs))
      by-test true l later = inl (pair, refl, record { among = here; exceeds = ltb-true t (size pair) l; none_before = first })
      by-test false l (inl (y, e, found)) =
          inl (
            y,
            e,
            record {
              among = there found.among;
              exceeds = found.exceeds;
              none_before = before_of (ltb-false t (size pair) l) y found.none_before;
            },
          )
      by-test false l (inr (e, none)) = inr (e, all_of (ltb-false t (size pair) l) none)

-- the pairs of n channels, as the answer counts them
module _ (n : ℕ) (a : Matrix) (t : ℕ) where
  abbrev from_zero : ℕ → ℕ → Pair
  from_zero p q = record { p = p - 1; q = q - 1 }

  among-pairs : (p q : ℕ) → IsPair n p q → Among (from_zero p q) (cyclic n)
  among-pairs p q h = cyclic-among n (p - 1) (q - 1) (omega (arith, h.0, h.1)) (omega (arith, h.0, h.1, h.2))

  from-zero-before : (p q : ℕ) (pair : Pair) → IsPair n p q → Before p q (suc pair.p) (suc pair.q) → Precedes (from_zero p q) pair
  from-zero-before p q pair h (inl b) = inl (omega (arith, h.0))
  from-zero-before p q pair h (inr b) = inr (omega (arith, h.0, b.0), omega (arith, h.0, h.1, b.1))

  found_first : (pair : Pair) → Found a t (cyclic n) pair → IsFirst n a t (suc pair.p) (suc pair.q)
  found_first pair found =
      let inside = each-among n (cyclic n) pair (cyclic-pairs n) found.among in
      record {
        pair = (omega arith, omega (arith, inside.ordered), omega (arith, inside.within));
        exceeds = simp unary_clauses found.exceeds;
        none_before = λ p q h b. found.none_before (from_zero p q) (among-pairs p q h) (from-zero-before p q pair h b);
      }

  ends-first : (answer : Answer) → Ends a t (cyclic n) answer → FirstLoose n a t answer
  ends-first answer (inl (pair, e, found)) =
      let first = found_first pair found in
      record {
        pair-or-none = inl (suc pair.p, suc pair.q, e);
        pair-is-first = λ p q h.
            let p-is : suc pair.p ≡ p = cc in
            let q-is : suc pair.q ≡ q = cc in
            rw (← p-is, ← q-is) first;
        none-only-if-none = λ h. absurd (let z : ◌≡◌ {A = ℕ} 0 1 = cc in omega arith);
        none-if-none = λ none. absurd (omega (arith, first.exceeds, none _ _ first.pair));
      }
  ends-first answer (inr (e, none)) =
      record {
        pair-or-none = inr e;
        pair-is-first = λ p q h. absurd (let z : ◌≡◌ {A = ℕ} 0 1 = cc in omega arith);
        none-only-if-none = λ h p q k. none (from_zero p q) (among-pairs p q k);
        none-if-none = λ h. e;
      }

  -- the answer is the first in row order whose entry exceeds t in size, and none exactly when none does
  pub first-loose : FirstLoose n a t (loose_of a t (cyclic n))
  first-loose = ends-first (loose_of a t (cyclic n)) (search-ends a t (cyclic n) (cyclic-rising n))

  same_first : {p q p' q' : ℕ} → IsFirst n a t p q → IsFirst n a t p' q' → (p ≡ p') × (q ≡ q')
  same_first {p} {q} {p'} {q'} f g = by (compared p q p' q')
    where
      by : Before p q p' q' ⊎ (Before p' q' p q ⊎ ((p ≡ p') × (q ≡ q'))) → (p ≡ p') × (q ≡ q')
      by (inl b) = absurd (omega (arith, f.exceeds, g.none_before p q f.pair b))
      by (inr (inl b)) = absurd (omega (arith, g.exceeds, f.none_before p' q' g.pair b))
      by (inr (inr e)) = e

  -- and only that answer is
  pub first-loose-unique : (x y : Answer) → FirstLoose n a t x → FirstLoose n a t y → x ≡ y
  first-loose-unique x y f g = by f.pair-or-none g.pair-or-none
    where
      by : PairOrNone x → PairOrNone y → x ≡ y
      by (inl (p, q, e)) (inl (p', q', e')) =
          let same = same_first (f.pair-is-first p q e) (g.pair-is-first p' q' e') in
          e ∙ rw (same.0, same.1) (sym e')
      by (inl (p, q, e)) (inr e') =
          let first = f.pair-is-first p q e in
          absurd (omega (arith, first.exceeds, g.none-only-if-none e' p q first.pair))
      by (inr e) (inl (p, q, e')) =
          let first = g.pair-is-first p q e' in
          absurd (omega (arith, first.exceeds, f.none-only-if-none e p q first.pair))
      by (inr e) (inr e') = e ∙ sym e'

-- so of the answer of a loose-pair call, whichever bench it names
pub loose-done : {r : Record} {bench t : ℕ} {answer : Answer} {next : Record} → Done r (by bench (loose_pair t)) answer next →
    LooseDone r bench t answer next
unfolding answer_to answer_of value_of
loose-done {r} {bench} {t} d =
    let s = r.solver in
    record {
      done = d;
      holds = λ b e. rw (d.answers, b, eq-eqb (refusal_of s.n s.m (loose_pair t)) 0 e) (first-loose s.n (kept_entry s.a) t);
    }
