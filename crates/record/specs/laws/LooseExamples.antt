-- a_14 = a_23 = −5 and the other entries 0, with t = 3: the answer is (1,4), and wrong ones are ruled out.
use Rattle.std.specs.Prelude.{◌≡◌, refl, cond, ◌+◌, ◌≤◌, eqb, pos, neg_ℤ}
use Rattle.std.proofs.Common.{inl, arith, lit≤}
use Rattle.integer.specs.Matrix.{Matrix}
use Rattle.ledger.specs.Pairs.{cyclic, row, rows_from}
use Rattle.record.specs.Loose.{FirstLoose, loose_of}
use Rattle.record.specs.declared.query.Answer.TheVariants.{Pair as PairIs, NoPair}

abbrev pub crossed : Matrix
crossed i j = cond (eqb (i + j) 3) (neg_ℤ (pos 5)) (pos 0)

pub one-and-four : loose_of crossed 3 (cyclic 4) ≡ PairIs 1 4
unfolding loose_of cyclic rows_from row
one-and-four = refl

-- (2,3) is the last of them, and the first by columns
pub not-two-and-three : FirstLoose 4 crossed 3 (PairIs 2 3) → ⊥
not-two-and-three first =
    let above : 5 ≤ 3 = (first.pair-is-first 2 3 refl).none_before 1 4 (lit≤ tt, lit≤ tt, lit≤ tt) (inl (lit≤ tt)) in
    omega (arith, above)

-- −5 is not above 3, its size is
pub not_none : FirstLoose 4 crossed 3 NoPair → ⊥
not_none first =
    let above : 5 ≤ 3 = first.none-only-if-none refl 1 4 (lit≤ tt, lit≤ tt, lit≤ tt) in
    omega (arith, above)
