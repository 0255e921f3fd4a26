-- The sweeps of a run at work: the record that holds the work, with whatever e and counts of refused calls, and what a sweep makes of it.
use mathlib.Core.Path.{◌≡◌, refl, sym, ap, ◌∙◌}
use mathlib.Core.Bool.{Bool, true, false}
use mathlib.Core.List.{List, [], ◌∷◌}
use mathlib.Core.Logic.{◌≢◌}
use Prim.Native.Nat.{ℕ, ◌+◌, ◌-◌, ◌*◌, ◌/◌, ◌≤◌}
use native.Mathlib.Decide.{ℕ_discrete}
use native.Mathlib.Nat.{sub-zero}
use native.Mathlib.Omega.{arith}
use lib.Dec.{eqb}
use lib.IntN.{ℤ}
use borrow.Author.Tests.{eq-eqb, ne_eqb}
use Rattle.ledger.specs.Call.{loose_pair, sweep}
use Rattle.ledger.specs.declared.Order.TheVariants.{Cyclic}
use Rattle.ledger.specs.laws.Cyclic.{cyclic-length, cyclic-pairs}
use Rattle.ledger.specs.Pairs.{Pair, cyclic}
use Rattle.ledger.specs.Refusal.{refusal_of}
use Rattle.turn.specs.laws.Eight.{square-cong, square-of}
use Rattle.turn.specs.Shape.{Shaped}
use Rattle.turn.specs.Turn.{at}
use Rattle.limits.specs.Limits.{tolerance_limit, most_sweeps, turn_limit}
use Rattle.record.specs.laws.Accepted.{loose-pair-taken, sweep-taken, turns-suffice}
use Rattle.record.specs.laws.After.{after_kept}
use Rattle.record.specs.laws.Fill.{kept-flat_of}
use Rattle.record.specs.laws.Named.{own-answers, own-leaves}
use Rattle.record.specs.Flat.{entries_of, flat_of, rows_of}
use Rattle.record.specs.Solver.{accepted_of_under, after_of, after_of_under, answer_of, swept_of, value_of, work_of, worked_of}
use Rattle.record.specs.Record.{answer_to}
use Rattle.record.specs.declared.Record.{Record}
use Rattle.record.specs.declared.solver.Solver.{Solver}
use Rattle.record.specs.declared.work.Work.{Work}
use Rattle.record.specs.laws.Turning.{works-grow, works-least, works-same-n}
use Rattle.record.specs.Work.{work_pair, work_pairs}
use Rattle.record.specs.Worked.{Ready}
use Rattle.record.proofs.Sweeping.{pair-shaped}
use Rattle.record.specs.Loose.{loose_of}
use Rattle.record.proofs.Search.{same-loose}
use Rattle.record.specs.inner.Running.{Holds, held_of, solver_of}
use Rattle.record.specs.Run.{Run, no_pair, no_turn, own, run_from, stop}
use Rattle.record.specs.laws.Running.{run_settled, run-still, run-spent, run-sweeps}
use Rattle.record.specs.declared.run.Outcome.TheVariants.{Settled, Still, Spent}

rows-flat : (a : List (List ℤ)) → Shaped a → rows_of (flat_of (at a)) ≡ a
unfolding rows_of entries_of
rows-flat a s = square-cong (λ i j h l. kept-flat_of (at a) i j h l) ∙ sym (square-of a s)

works-shaped : (w : Work) (pairs : List Pair) → Shaped w.matrix → Shaped w.axes →
    Shaped (work_pairs w pairs).matrix × Shaped (work_pairs w pairs).axes
unfolding work_pairs
works-shaped w [] a v = (a, v)
works-shaped w (pair ∷ pairs) a v =
    let s = pair-shaped w pair a v in
    works-shaped (work_pair w pair) pairs s.0 s.1

no_more : (made m : ℕ) → m ≤ made → eqb (made - m) 0 ≡ eqb made m
no_more made m h = by (ℕ_discrete made m)
  where
    by : Dec (made ≡ m) → eqb (made - m) 0 ≡ eqb made m
    by (yes e) = rw (eq-eqb made m e, eq-eqb (made - m) 0 (omega arith))
    by (no d) = rw (ne_eqb made m d, ne_eqb (made - m) 0 (omega arith))

-- work that a kept state holds
module _ (shift : ℕ) (w : Work) (h : Holds shift w) where
  abbrev r : Solver
  r = solver_of shift w

  work-held : work_of r ≡ w
  unfolding work_of
  work-held i = record { n = w.n; matrix = rows-flat w.matrix h.matrix i; axes = rows-flat w.axes h.axes i; m = w.m }

  pub held-ready : Ready w
  held-ready =
      record { size = h.keeps.size; kept = rw work-held at h.keeps.work; few = h.keeps.turns; matrix = h.matrix; axes = h.axes }

  held-loose : (t : ℕ) → refusal_of w.n w.m (loose_pair t) ≡ 0 →
      no_pair (loose_of (at w.matrix) t (cyclic w.n)) ≡ no_pair (answer_of r (loose_pair t))
  unfolding answer_of value_of
  held-loose t e =
      rw (
        eq-eqb (refusal_of w.n w.m (loose_pair t)) 0 e,
        same-loose w.n _ (at w.matrix) t (cyclic w.n) (cyclic-pairs w.n)
            (λ i j g l. kept-flat_of (at w.matrix) i j (omega (arith, g, h.keeps.size)) (omega (arith, l, h.keeps.size))),
      )

  module _ (e : refusal_of w.n w.m sweep ≡ 0) (w' : Work) (s : w' ≡ work_pairs w (cyclic w.n)) where
    swept-size : w'.n ≡ w.n
    swept-size = rw s (works-same-n w (cyclic w.n))

    swept-leaves : after_of r sweep ≡ solver_of shift w'
    unfolding after_of_under accepted_of_under swept_of worked_of
    swept-leaves = rw (eq-eqb (refusal_of w.n w.m sweep) 0 e, work-held, ← s, swept-size)

    swept-holds : Holds shift w'
    swept-holds =
        let shaped = rw (← s) at (works-shaped w (cyclic w.n) h.matrix h.axes) in
        record { keeps = rw swept-leaves at (after_kept r sweep h.keeps); matrix = shaped.0; axes = shaped.1 }

    swept-idle : no_turn (answer_of r sweep) ≡ eqb w'.m w.m
    unfolding answer_of value_of swept_of worked_of no_turn
    swept-idle =
        rw (eq-eqb (refusal_of w.n w.m sweep) 0 e, work-held, ← s) (no_more w'.m w.m (rw (← s) at (works-least w (cyclic w.n))))

    swept-more : 1 ≤ w.n → w'.m ≤ w.m + w.n * (w.n - 1) / 2
    swept-more some = omega (arith, rw (← s) at (works-grow w (cyclic w.n)), cyclic-length w.n some)

-- a run of n channels with a limit and a tolerance t: from here on it is z
pub record Going (shift : ℕ) (refused : List ℕ) (n limit t : ℕ) (z : Run) (w : Work) (sweeps : ℕ) (idle : Bool) : Type 0 where
  pub is : z ≡ run_from (limit - sweeps) sweeps idle t (held_of shift refused w)
  pub size : w.n ≡ n
  pub within : sweeps ≤ limit
  pub few : w.m ≤ sweeps * (n * (n - 1) / 2)
  pub holds : Holds shift w

pub begun : (shift : ℕ) (refused : List ℕ) (limit t : ℕ) (w : Work) → w.m ≡ 0 → Holds shift w →
    Going shift refused w.n limit t (run_from limit 0 false t (held_of shift refused w)) w 0 false
begun shift refused limit t w unturned h =
    record { is = rw sub-zero; size = refl; within = omega arith; few = omega (arith, unturned); holds = h }

-- on what a run is given no call of it is refused
module _ (shift : ℕ) (refused : List ℕ) (n limit t : ℕ) (some : 1 ≤ n) (sixteen : limit ≤ most_sweeps) (tolerance : t ≤ tolerance_limit) where
  module _ (sweeps : ℕ) (z : Run) (w : Work) (idle : Bool) (g : Going shift refused n limit t z w sweeps idle) where
    abbrev now : Record
    now = held_of shift refused w

    channels : 1 ≤ w.n
    channels = rw g.size some

    -- a sweep's turns remain before the limit is reached
    pub remains : sweeps ≢ limit → w.m + w.n * (w.n - 1) / 2 ≤ turn_limit
    remains l = turns-suffice w.n w.m sweeps g.holds.keeps.size (omega (arith, g.within)) (rw g.size g.few)

    -- the first test: settled tells whether no pair is loose
    module _ (settled : Bool) (s : settled ≡ no_pair (loose_of (at w.matrix) t (cyclic w.n))) where
      told : settled ≡ no_pair (answer_to now (own (loose_pair t)))
      told =
          s ∙ held-loose shift w g.holds t (loose-pair-taken w.n w.m channels t tolerance) ∙ ap no_pair (sym (own-answers now (loose_pair t)))

      pub settles : settled ≡ true → stop Settled sweeps now ≡ z
      settles h = sym (g.is ∙ run_settled (limit - sweeps) sweeps t idle now (sym told ∙ h))

      module _ (h : settled ≡ false) where
        loose : no_pair (answer_to now (own (loose_pair t))) ≡ false
        loose = sym told ∙ h

        pub is-still : idle ≡ true → stop Still sweeps now ≡ z
        is-still i = sym (g.is ∙ run-still (limit - sweeps) sweeps t idle now loose i)

        pub is-spent : idle ≡ false → sweeps ≡ limit → stop Spent sweeps now ≡ z
        is-spent i l = sym (g.is ∙ run-spent (limit - sweeps) sweeps t idle now loose i (omega arith))

        pub sweeps-on : idle ≡ false → sweeps ≢ limit → (w' : Work) → w' ≡ work_pairs w (cyclic w.n) →
            Going shift refused n limit t z w' (sweeps + 1) (eqb w'.m w.m)
        sweeps-on i l w' q =
            let goes = run-sweeps (limit - sweeps) sweeps t idle now loose i (limit - (sweeps + 1)) (omega (arith, g.within)) in
            let taken = sweep-taken w.n w.m channels Cyclic (remains l) in
            record {
              is = g.is ∙ goes ∙ rw (
                own-leaves now sweep taken,
                own-answers now sweep,
                swept-leaves shift w g.holds taken w' q,
                swept-idle shift w g.holds taken w' q,
              );
              size = swept-size shift w g.holds taken w' q ∙ g.size;
              within = omega (arith, g.within);
              few = omega (arith, g.few, rw g.size at (swept-more shift w g.holds taken w' q channels));
              holds = swept-holds shift w g.holds taken w' q;
            }
