-- What holds of every list of calls that name a bench: the counts, and that benches are alike.
use Rattle.std.specs.Prelude.{◌≡◌, Bool, ◌&&◌, eqb, ltb}
use Rattle.std.proofs.Math.Path.{refl, sym}
use Rattle.std.proofs.Common.{ap, ◌∙◌, true≢false, add-zero, zero-add, arith, get_or-set_same, eq-eqb, le-ltb, lt-ltb, ne_eqb}
use Rattle.std.proofs.Math.Bool.{true, false, cond, not}
use mathlib.Core.List.{List, [], ◌∷◌, map}
use Prim.Native.Nat.{ℕ, ◌+◌, ◌-◌, ◌≤◌, ◌<◌, min}
use Rattle.std.proofs.Math.Decide.{ℕ_discrete, dec_lt}
use Rattle.std.proofs.Math.Nat.{min-eq_left, min-eq_right}
use Rattle.std.proofs.Math.ListN.{get_or}
use Rattle.std.proofs.Math.Seq.{get_or-set_other}
use Rattle.integer.specs.laws.Tabulate.{get_d-repeated}
use Rattle.integer.specs.laws.Within.{is_within}
use Rattle.ledger.specs.Bench.{NamedCall, is_bench}
use Rattle.ledger.specs.Refusal.{refusal_of}
use Rattle.limits.specs.Limits.{benches, entry_limit, refused_limit}
use Rattle.record.specs.Benches.{Benches-alike, Counts, answers_from, refused_among, renamed}
use Rattle.record.specs.Kept.{Kept}
use Rattle.record.specs.Record.{after, after_from, after_from_under, answer_to, called_under, counted, fresh, is_refused}
use Rattle.record.specs.Record.{raised, record_after, record_after_under, refused_by, row_to}
use Rattle.record.specs.Solver.{after_of, answer_of}
use Rattle.record.specs.declared.AxisAnswer.{AxisAnswer}
use Rattle.record.specs.declared.Record.{Record}
use Rattle.record.specs.declared.query.Answer.TheVariants.{Refused}
use Rattle.record.specs.laws.Named.{fresh_kept, named-kept, refused-answer}
use Rattle.refusal.specs.Refusal.{numbered}

-- the counts: a call raises that of its own bench if it is refused, and no other
module _ (r : Record) (c : NamedCall) (bench : ℕ) (k : Kept r) (b : is_bench bench ≡ true) where
  own-count : c.bench ≡ bench → get_or (raised c.bench r.refused) (bench - 1) 0 ≡ counted (refused_by r bench)
  unfolding raised refused_by is_bench
  own-count e =
      let low = is_within 1 benches bench b in
      rw e (get_or-set_same r.refused (bench - 1) _ 0 (omega (arith, low.0, low.1, k.counts)))

  other-count : is_bench c.bench ≡ true → (c.bench ≡ bench → ⊥) → get_or (raised c.bench r.refused) (bench - 1) 0 ≡ refused_by r bench
  unfolding raised refused_by is_bench
  other-count f d =
      let low = is_within 1 benches bench b in
      let here = is_within 1 benches c.bench f in
      get_or-set_other r.refused (c.bench - 1) (bench - 1) _ 0 (λ e. d (omega (arith, e, low.0, here.0)))

  raises : Bool
  raises = eqb c.bench bench && is_refused (answer_to r c)

  count-after : refused_by (record_after r c) bench ≡ cond raises (counted (refused_by r bench)) (refused_by r bench)
  unfolding raises record_after_under called_under answer_to is_refused refused_by
  count-after = by-bench (is_bench c.bench) refl (ℕ_discrete c.bench bench)
    where
      by-refusal : is_bench c.bench ≡ true → (t : Bool) → Dec (c.bench ≡ bench) →
          get_or (cond t r.refused (raised c.bench r.refused)) (bench - 1) 0 ≡
          cond (eqb c.bench bench && not t) (counted (refused_by r bench)) (refused_by r bench)
      by-refusal f true (yes e) = rw (eq-eqb c.bench bench e)
      by-refusal f true (no d) = rw (ne_eqb c.bench bench d)
      by-refusal f false (yes e) = rw (eq-eqb c.bench bench e) (own-count e)
      by-refusal f false (no d) = rw (ne_eqb c.bench bench d) (other-count f d)

      by-bench : (t : Bool) → is_bench c.bench ≡ t → Dec (c.bench ≡ bench) →
          refused_by (cond t (called_under entry_limit r c) r) bench ≡
          cond (eqb c.bench bench && is_refused (cond t (answer_of r.solver c.call) (Refused (numbered 15)))) (counted (refused_by r bench))
          (refused_by r bench)
      by-bench true f d = rw (refused-answer r.solver c.call) (by-refusal f (eqb (refusal_of r.solver.n r.solver.m c.call) 0) d)
      by-bench false f (yes e) = absurd (true≢false (sym b ∙ ap is_bench (sym e) ∙ f))
      by-bench false f (no d) = rw (ne_eqb c.bench bench d)

-- so after every list, up to the ceiling
stops : (most k rest : ℕ) (t : Bool) → k ≤ most → (cond t (cond (ltb k most) (k + 1) k) k ≤ most) ×
    (min (cond t (cond (ltb k most) (k + 1) k) k + rest) most ≡ min (k + (cond t 1 0 + rest)) most)
stops most k rest false h = (h, ap (λ x. min (k + x) most) (sym (zero-add rest)))
stops most k rest true h = by-ceiling (dec_lt k most)
  where
    by-ceiling : Dec (k < most) →
        (cond (ltb k most) (k + 1) k ≤ most) × (min (cond (ltb k most) (k + 1) k + rest) most ≡ min (k + (1 + rest)) most)
    by-ceiling (yes l) = rw (lt-ltb k most l) (omega (arith, l), ap (λ x. min x most) (omega arith))
    by-ceiling (no l) = rw (le-ltb k most (omega (arith, l)))
        (h, min-eq_right (omega (arith, l)) ∙ sym (min-eq_right (omega (arith, l))))

module _ (bench : ℕ) (b : is_bench bench ≡ true) where
  module _ (r : Record) (c : NamedCall) (k : Kept r) (h : refused_by r bench ≤ refused_limit) where
    raised-within : cond (raises r c bench k b) (counted (refused_by r bench)) (refused_by r bench) ≤ refused_limit
    unfolding counted
    raised-within = (stops refused_limit (refused_by r bench) 0 (raises r c bench k b) h).0

    counts-on : (rest : ℕ) →
        min (cond (raises r c bench k b) (counted (refused_by r bench)) (refused_by r bench) + rest) refused_limit
        ≡ min (refused_by r bench + (cond (raises r c bench k b) 1 0 + rest)) refused_limit
    unfolding counted
    counts-on rest = (stops refused_limit (refused_by r bench) rest (raises r c bench k b) h).1

  counts-from : (r : Record) (calls : List NamedCall) → Kept r → refused_by r bench ≤ refused_limit →
      refused_by (after_from r calls) bench ≡ min (refused_by r bench + refused_among bench r calls) refused_limit
  unfolding after_from_under refused_among raises
  counts-from r [] k h = sym (ap (λ x. min x refused_limit) (add-zero (refused_by r bench)) ∙ min-eq_left h)
  counts-from r (c ∷ calls) k h =
      counts-from (record_after r c) calls (named-kept r c k) (rw (count-after r c bench k b) (raised-within r c k h))
      ∙ rw (count-after r c bench k b) (counts-on r c k h (refused_among bench (record_after r c) calls))

pub counts : Counts
unfolding after fresh refused_by
counts calls bench b =
    counts-from bench b fresh calls fresh_kept (rw none omega arith)
    ∙ ap (λ x. min x refused_limit) (rw none (zero-add (refused_among bench fresh calls)))
  where
    none : refused_by fresh bench ≡ 0
    none = get_d-repeated benches (bench - 1) 0

-- two records with one state, on calls that are renamed and on those that are not
module _ (other : ℕ → ℕ) (same : (bench : ℕ) → is_bench (other bench) ≡ is_bench bench) where
  solver-after : (r : Record) (c : NamedCall) → (record_after r c).solver ≡ cond (is_bench c.bench) (after_of r.solver c.call) r.solver
  unfolding record_after_under called_under
  solver-after r c = by-bench (is_bench c.bench)
    where
      by-bench : (b : Bool) → (cond b (called_under entry_limit r c) r).solver ≡ cond b (after_of r.solver c.call) r.solver
      by-bench true = refl
      by-bench false = refl

  alike-answer : (r r' : Record) (c : NamedCall) → r.solver ≡ r'.solver →
      ◌≡◌ {A = AxisAnswer} (record { value = answer_to r (renamed other c); row = row_to r (renamed other c) })
      (record { value = answer_to r' c; row = row_to r' c })
  unfolding answer_to row_to
  alike-answer r r' c e = rw (same c.bench, e)

  alike : (r r' : Record) (calls : List NamedCall) → r.solver ≡ r'.solver →
      (answers_from r (map (renamed other) calls) ≡ answers_from r' calls) ×
      ((after_from r (map (renamed other) calls)).solver ≡ (after_from r' calls).solver)
  unfolding answers_from after_from_under
  alike r r' [] e = (refl, e)
  alike r r' (c ∷ calls) e =
      let next : (record_after r (renamed other c)).solver ≡ (record_after r' c).solver =
      solver-after r (renamed other c) ∙ rw (same c.bench, e) (sym (solver-after r' c)) in
      let on = alike (record_after r (renamed other c)) (record_after r' c) calls next in
      ((λ i. alike-answer r r' c e i ∷ on.0 i), on.1)

pub benches-alike : Benches-alike
unfolding after
benches-alike other same calls = alike other same fresh fresh calls refl
