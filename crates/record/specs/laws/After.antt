-- What a call leaves is kept, whatever the call.
use Rattle.std.specs.Prelude.{◌≡◌, Bool, cond, ◌&&◌, List, ℕ, ◌+◌, ◌-◌, ◌*◌, ◌/◌, ◌≤◌, ltb, ℤ, pos, length, replicate}
use Rattle.std.proofs.Math.Path.{refl}
use Rattle.std.proofs.Common.{sym, ap, ◌∙◌, le_refl, le_trans, arith, eqb-true}
use Rattle.std.proofs.Math.Bool.{true, false}
use Rattle.std.proofs.Math.Dec.{eqb}
use Rattle.integer.specs.Matrix.{Matrix, squares}
use Rattle.integer.specs.laws.Matrix.{squares-cong}
use Rattle.integer.specs.Square.{sq}
use Rattle.integer.specs.Sum.{sumℕ}
use Rattle.integer.specs.laws.Sum.{sumℕ-cong}
use Rattle.integer.specs.laws.Tabulate.{get_d-repeated}
use Rattle.ledger.specs.laws.Accepted.{accepted-under, samples-accepted, turn-accepted, sweep-accepted}
use Rattle.ledger.specs.laws.Loaded.{samples-load}
use Rattle.ledger.specs.Call.{Call, load, load_samples, turn, sweep_in, loose_pair, axis}
use Rattle.ledger.specs.laws.Orders.{once-in}
use Rattle.limits.specs.Limits.{entry_limit, turn_limit}
use Rattle.limits.specs.laws.Values.{some-entry}
use Rattle.ledger.specs.Order.{pairs_in}
use Rattle.ledger.specs.Pairs.{Pair}
use Rattle.ledger.specs.declared.Order.{Order}
use Rattle.ledger.specs.Refusal.{refusal_of, refusal_under}
use Rattle.turn.specs.Turn.{at}
use Rattle.record.specs.KeptWork.{KeptWork}
use Rattle.turn.specs.InUse.{in_use}
use Rattle.turn.specs.laws.InUse.{Use, inside, outside, use-of, at-square, in_use-inside, in_use-outside}
use Rattle.record.specs.laws.Turning.{same-n, work-grows, work-keeps, works-grow, works-keep, works-same-n}
use Rattle.record.specs.Work.{work_pair, work_pairs}
use Rattle.record.specs.Flat.{entries_of, flat_of, kept_entry, rows_of}
use Rattle.record.specs.Kept.{KeptSolver}
use Rattle.record.specs.laws.Fill.{length-flat}
use Rattle.record.specs.laws.Loading.{at-flat, load_kept, loads-kept}
use Rattle.record.specs.Solver.{accepted_of_under, after_of, after_of_under, samples_solver, swept_of, turned_of, unloaded, work_of, worked_of}
use Rattle.record.specs.declared.solver.Solver.{Solver}
use Rattle.record.specs.declared.work.Work.{Work}

-- what is 0 outside is itself in use
itself-in-use : (n : ℕ) (x : Matrix) → ((i j : ℕ) → (ltb i n && ltb j n) ≡ false → x i j ≡ pos 0) → x ≡ in_use n x
itself-in-use n x zero-outside = λ t i j. entry i j (use-of n i j) t
  where
    entry : (i j : ℕ) → Use n i j → x i j ≡ in_use n x i j
    entry i j (inside h k) = sym (in_use-inside n x i j h k)
    entry i j (outside e) = zero-outside i j e ∙ sym (in_use-outside n x i j e)

-- flat and back in rows, every entry stays
flat_back : (n : ℕ) (a : List (List ℤ)) → n ≤ 8 → ((i j : ℕ) → (ltb i n && ltb j n) ≡ false → at a i j ≡ pos 0) → (i j : ℕ) →
    at (rows_of (flat_of (at a))) i j ≡ at a i j
flat_back n a b zero-outside i j =
    ap (λ (x : Matrix). at (rows_of (flat_of x)) i j) itself ∙ at-flat n (at a) b i j ∙ sym (λ t. itself t i j)
  where
    itself : at a ≡ in_use n (at a)
    itself = itself-in-use n (at a) zero-outside

pub worked_kept : (r : Solver) (w : Work) → w.n ≡ r.n → r.n ≤ 8 → KeptWork w → KeptWork (work_of (worked_of r w))
unfolding work_of worked_of
worked_kept r w same b k =
    record {
      symmetric = λ i j. matrix i j ∙ k.symmetric i j ∙ sym (matrix j i);
      outside = λ i j e. matrix i j ∙ outside i j e;
      axes-outside = λ i j e. axes i j ∙ axes-outside i j e;
      norm = rw (squares-cong r.n (λ i j h l. matrix i j)) (rw same at k.norm);
      columns = λ j. rw (sumℕ-cong r.n (λ i h. ap sq (axes i j))) (rw same at (k.columns j));
    }
  where
    outside : (i j : ℕ) → (ltb i r.n && ltb j r.n) ≡ false → at w.matrix i j ≡ pos 0
    outside i j e = k.outside i j (rw same e)

    axes-outside : (i j : ℕ) → (ltb i r.n && ltb j r.n) ≡ false → at w.axes i j ≡ pos 0
    axes-outside i j e = k.axes-outside i j (rw same e)

    matrix : (i j : ℕ) → at (rows_of (flat_of (at w.matrix))) i j ≡ at w.matrix i j
    matrix = flat_back r.n w.matrix b outside

    axes : (i j : ℕ) → at (rows_of (flat_of (at w.axes))) i j ≡ at w.axes i j
    axes = flat_back r.n w.axes b axes-outside

turned-kept : (r : Solver) (p q : ℕ) → KeptSolver r → refusal_of r.n r.m (turn p q) ≡ 0 → KeptSolver (turned_of r p q)
unfolding turned_of worked_of work_of
turned-kept r p q k e =
    let t = turn-accepted r.n r.m p q e in
    let pair : Pair = record { p = p - 1; q = q - 1 } in
    record {
      size = k.size;
      channels = k.channels;
      turns = omega (arith, t.left, work-grows (work_of r) pair);
      work =
          worked_kept r (work_pair (work_of r) pair) (same-n (work_of r) pair) k.size
          (work-keeps (work_of r) pair k.size k.work (omega (arith, t.first, t.ordered))
          (omega (arith, t.first, t.ordered, t.last)));
      matrix-length = length-flat _;
      axes-length = length-flat _;
    }

-- n(n−1)/2 is how many pairs a sweep has
pub sweep-fits : (order : Order) (m n : ℕ) → n ≤ 8 → m + n * (n - 1) / 2 ≤ turn_limit → m + length (pairs_in order n) ≤ turn_limit
sweep-fits order m n h l = omega (arith, l, (once-in order n h).count)

swept_kept : (r : Solver) (order : Order) → KeptSolver r → refusal_of r.n r.m (sweep_in order) ≡ 0 → KeptSolver (swept_of r order)
unfolding swept_of worked_of work_of
swept_kept r order k e =
    record {
      size = k.size;
      channels = k.channels;
      turns =
          le_trans (works-grow (work_of r) (pairs_in order r.n))
          (sweep-fits order r.m r.n k.size (sweep-accepted r.n r.m order e));
      work =
          worked_kept r (work_pairs (work_of r) (pairs_in order r.n)) (works-same-n (work_of r) (pairs_in order r.n)) k.size
          (works-keep (work_of r) (pairs_in order r.n) k.size k.work (once-in order r.n k.size).ordered);
      matrix-length = length-flat _;
      axes-length = length-flat _;
    }

-- under any limit up to today's: what it accepts, today's does
module _ (limit : ℕ) (some : 1 ≤ limit) (below : limit ≤ entry_limit) where
  accepted-kept : (r : Solver) (call : Call) → KeptSolver r → refusal_of r.n r.m call ≡ 0 → KeptSolver (accepted_of_under limit r call)
  unfolding accepted_of_under samples_solver
  accepted-kept r (load n numbers) k e = load_kept r.n r.m n numbers e
  accepted-kept r (load_samples n dilutions counts) k e =
      loads-kept n _ (samples-load limit some below n dilutions counts (samples-accepted r.n r.m n dilutions counts e)) _
  accepted-kept r (turn p q) k e = turned-kept r p q k e
  accepted-kept r (sweep_in order) k e = swept_kept r order k e
  accepted-kept r (loose_pair t) k e = k
  accepted-kept r (axis i) k e = k

  pub after-kept-under : (r : Solver) (call : Call) → KeptSolver r → KeptSolver (after_of_under limit r call)
  unfolding after_of_under
  after-kept-under r call k = by-refusal (eqb (refusal_under limit r.n r.m call) 0) refl
    where
      by-refusal : (t : Bool) → eqb (refusal_under limit r.n r.m call) 0 ≡ t → KeptSolver (cond t (accepted_of_under limit r call) r)
      by-refusal true e = accepted-kept r call k (accepted-under limit entry_limit below _ _ call (eqb-true _ _ e))
      by-refusal false e = k

pub after_kept : (r : Solver) (call : Call) → KeptSolver r → KeptSolver (after_of r call)
after_kept = after-kept-under entry_limit some-entry (le_refl entry_limit)

-- where there is no matrix
empty : (i j : ℕ) → at (rows_of (replicate 64 (pos 0))) i j ≡ pos 0
unfolding rows_of entries_of kept_entry
empty i j = at-square (kept_entry (replicate 64 (pos 0))) i j ∙ by-use (use-of 8 i j)
  where
    by-use : Use 8 i j → in_use 8 (kept_entry (replicate 64 (pos 0))) i j ≡ pos 0
    by-use (inside h k) = in_use-inside 8 _ i j h k ∙ get_d-repeated 64 (8 * i + j) (pos 0)
    by-use (outside e) = in_use-outside 8 _ i j e

pub unloaded-kept : KeptSolver unloaded
unfolding unloaded work_of squares sumℕ
unloaded-kept =
    record {
      size = omega arith;
      channels = omega arith;
      turns = omega arith;
      work =
          record {
            symmetric = λ i j. empty i j ∙ sym (empty j i);
            outside = λ i j e. empty i j;
            axes-outside = λ i j e. empty i j;
            norm = omega arith;
            columns = λ j. omega arith;
          };
      matrix-length = refl;
      axes-length = refl;
    }
