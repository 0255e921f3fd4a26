-- The figures with one job more, field by field: of a refused job, and of one that was run.
use Prim.Native.Nat.{ℕ, zero, suc, ◌+◌, ◌-◌, ◌<◌, ◌≤◌}
use mathlib.Core.Path.{◌≡◌, refl, sym, ap, ap₂, ◌∙◌}
use mathlib.Core.List.{List, [], ◌∷◌, ◌++◌}
use native.Mathlib.Nat.{add-zero}
use Rattle.std.proofs.Common.{sub-one}
use native.Mathlib.Omega.{arith}
use mathlib.Core.Bool.{cond, false}
use borrow.Author.Tests.{ne_eqb}
use Rattle.std.specs.Prelude.{Option}
use Rattle.season_report.specs.declared.LargestError.{LargestError}
use lib.Dec.{eqb}
use lib.ListN.{get_or, length, set}
use Rattle.integer.specs.Tabulate.{tabulate}
use Rattle.integer.specs.laws.Tabulate.{length-tabulate, tabulate-suc}
use Rattle.record.specs.declared.Record.{Record}
use Rattle.record.specs.Run.{Run}
use Rattle.season_report.specs.Figures.{by_number}
use Rattle.season_report.specs.Job.{ended_as, error_at, errors_of, is_refused_under, is_settled, is_spent}
use Rattle.season_report.specs.Job.{is_still, ran, record_errors, refused_under, job_turns}
use Rattle.season_report.specs.Season.{added, counting, larger}
use Rattle.season_report.specs.declared.Season.{Season}
use Rattle.season_report.proofs.Axes.{larger-more, one_more}

-- the four counts with a refusal of this number
abbrev pub counts_with : List ℕ → ℕ → List ℕ
counts_with xs number = by_number (λ k. counting (eqb number k) (get_or xs (k - 1) 0))

-- one of them is one more
pub one-counted : (xs : List ℕ) (number : ℕ) → length xs ≡ 4 → 1 ≤ number → number - 1 < 4 →
    set xs (number - 1) (get_or xs (number - 1) 0 + 1) ≡ counts_with xs number
one-counted [] number n h l = absurd (omega arith)
one-counted (a ∷ []) number n h l = absurd (omega arith)
one-counted (a ∷ b ∷ []) number n h l = absurd (omega arith)
one-counted (a ∷ b ∷ c ∷ []) number n h l = absurd (omega arith)
one-counted (a ∷ b ∷ c ∷ d ∷ []) zero n h l = absurd (omega arith)
one-counted (a ∷ b ∷ c ∷ d ∷ []) (suc zero) n h l = λ i. (a + 1) ∷ sym (add-zero b) i ∷ sym (add-zero c) i ∷ sym (add-zero d) i ∷ []
one-counted (a ∷ b ∷ c ∷ d ∷ []) (suc (suc zero)) n h l = λ i. sym (add-zero a) i ∷ (b + 1) ∷ sym (add-zero c) i ∷ sym (add-zero d) i ∷ []
one-counted (a ∷ b ∷ c ∷ d ∷ []) (suc (suc (suc zero))) n h l = λ i. sym (add-zero a) i ∷ sym (add-zero b) i ∷ (c + 1) ∷ sym (add-zero d) i ∷ []
one-counted (a ∷ b ∷ c ∷ d ∷ []) (suc (suc (suc (suc zero)))) n h l = λ i. sym (add-zero a) i ∷ sym (add-zero b) i ∷ sym (add-zero c) i ∷ (d + 1) ∷ []
one-counted (a ∷ b ∷ c ∷ d ∷ []) (suc (suc (suc (suc (suc k))))) n h l = absurd (omega arith)
one-counted (a ∷ b ∷ c ∷ d ∷ e ∷ es) number n h l = absurd (omega arith)

-- no refusal leaves them
same-counts : (xs : List ℕ) → length xs ≡ 4 → xs ≡ by_number (λ k. get_or xs (k - 1) 0 + 0)
same-counts [] n = absurd (omega arith)
same-counts (a ∷ []) n = absurd (omega arith)
same-counts (a ∷ b ∷ []) n = absurd (omega arith)
same-counts (a ∷ b ∷ c ∷ []) n = absurd (omega arith)
same-counts (a ∷ b ∷ c ∷ d ∷ []) n = λ i. sym (add-zero a) i ∷ sym (add-zero b) i ∷ sym (add-zero c) i ∷ sym (add-zero d) i ∷ []
same-counts (a ∷ b ∷ c ∷ d ∷ e ∷ es) n = absurd (omega arith)

-- nor does one of another number
pub none-counted : (xs : List ℕ) (number : ℕ) → length xs ≡ 4 → 4 ≤ number - 1 → xs ≡ counts_with xs number
none-counted xs number n h =
    let other : (k : ℕ) → k ≤ 4 → eqb number k ≡ false = λ k l. ne_eqb number k (λ e. omega arith) in
    same-counts xs n ∙ sym (rw (other 1 (omega arith), other 2 (omega arith), other 3 (omega arith), other 4 (omega arith)) refl)

-- the errors of the first i axes
unfoldable pub errors_to : Record → ℕ → List ℕ
errors_to r i = tabulate i (λ k. error_at r (suc k))

pub next-error : (r : Record) (i : ℕ) → 1 ≤ i → errors_to r i ≡ errors_to r (i - 1) ++ error_at r i ∷ []
unfolding errors_to
next-error r zero h = absurd (omega arith)
next-error r (suc i) h = rw sub-one (tabulate-suc i (λ k. error_at r (suc k)))

-- the largest with one axis more
pub errors-more : (l : Option LargestError) (job : ℕ) (r : Record) (i : ℕ) {so_far then : Option LargestError} {x : ℕ} → 1 ≤ i →
    so_far ≡ larger l job (errors_to r (i - 1)) → x ≡ error_at r i → then ≡ one_more job so_far x i → then ≡ larger l job (errors_to r i)
errors-more l job r i h p q e =
    let before = errors_to r (i - 1) in
    let n : suc (length before) ≡ i = unfold errors_to in omega (arith, length-tabulate (i - 1) (λ k. error_at r (suc k))) in
    e ∙ ap₂ (λ s z. one_more job s z i) p q ∙ ap (one_more job (larger l job before) (error_at r i)) (sym n)
    ∙ sym (larger-more job l before (error_at r i)) ∙ ap (larger l job) (sym (next-error r i h))

-- those of all axes
pub errors-all : (r : Record) → errors_to r r.solver.n ≡ record_errors r
unfolding errors_to record_errors
errors-all r = refl

pub refused-added : (s : Season) (number : ℕ) {counts : List ℕ} → counts ≡ counts_with s.refused number →
    ◌≡◌ {A = Season}
    (record {
      jobs = s.jobs + 1;
      settled = s.settled;
      still = s.still;
      spent = s.spent;
      refused = counts;
      turns = s.turns;
      largest = s.largest;
    })
    (added s (refused_under number))
unfolding added ended_as is_refused_under job_turns errors_of larger
refused-added s number p =
    λ i.
    record {
      jobs = s.jobs + 1;
      settled = sym (add-zero s.settled) i;
      still = sym (add-zero s.still) i;
      spent = sym (add-zero s.spent) i;
      refused = p i;
      turns = sym (add-zero s.turns) i;
      largest = s.largest;
    }

pub run-added : (s : Season) (z : Run) {a b c m : ℕ} {l : Option LargestError} → a ≡ cond (is_settled z.outcome) 1 0 →
    b ≡ cond (is_still z.outcome) 1 0 → c ≡ cond (is_spent z.outcome) 1 0 → m ≡ z.last.solver.m → length s.refused ≡ 4 →
    l ≡ larger s.largest (s.jobs + 1) (record_errors z.last) →
    ◌≡◌ {A = Season}
    (record {
      jobs = s.jobs + 1;
      settled = s.settled + a;
      still = s.still + b;
      spent = s.spent + c;
      refused = s.refused;
      turns = s.turns + m;
      largest = l;
    })
    (added s (ran z))
unfolding added ended_as is_refused_under job_turns errors_of
run-added s z p q r m n l =
    λ i.
    record {
      jobs = s.jobs + 1;
      settled = s.settled + p i;
      still = s.still + q i;
      spent = s.spent + r i;
      refused = same-counts s.refused n i;
      turns = s.turns + m i;
      largest = l i;
    }
