-- Document 01, 'Bench cards': the twelve cards, one statement about the definitions. Channels count from 0 here.
use Rattle.std.specs.Prelude.{ℕ, ◌*◌, ◌<◌, ◌≤◌, ◌≡◌, true, List, [], ◌∷◌, ◌++◌, ℤ, pos, neg_ℤ, ◌-ℤ◌, Some, None, replicate, take}
use Rattle.choice.specs.Choice.{choose, level_of, sign_of, turn_of}
use Rattle.choice.specs.Threshold.{threshold}
use Rattle.integer.specs.Matrix.{matrix_of}
use Rattle.job.specs.Reply.{printed_of}
use Rattle.limits.specs.Limits.{tolerance_limit}
use Rattle.report.specs.Report.{report_of}
use Rattle.rounding.specs.Rounding.{rnd}
use Rattle.record.specs.Run.{Run}
use Rattle.run.specs.Run.{run_of}
use Rattle.record.specs.declared.run.Outcome.TheVariants.{Settled, Still}
use Rattle.scatter.specs.Table.{S, scatter, largest, table_of}
use Rattle.scatter.specs.declared.table.Table.{Table}
use Rattle.readings.specs.Samples.{Sample, sample}
use Rattle.text.specs.Ascii.{ascii}
use Rattle.turn.specs.InUse.{in_use}
use Rattle.turn.specs.Rotation.{rotation_of}
use Rattle.turn.specs.Turn.{square, turn_matrix}

-- −x
abbrev pub neg : ℕ → ℤ
neg x = neg_ℤ (pos x)

-- a_pp, a_pq = a_qp and a_qq of two channels, row after row, and in the corner of an 8 by 8 array
abbrev pub two_by_two : ℤ → ℤ → ℤ → List ℤ
two_by_two pp pq qq = pp ∷ pq ∷ pq ∷ qq ∷ []

abbrev pub block : ℤ → ℤ → ℤ → List (List ℤ)
block pp pq qq = square (in_use 2 (matrix_of 2 (two_by_two pp pq qq)))

-- `S 1 0 0`, `S 5 1 0`, `S 1 5 5`
abbrev pub three_samples : List Sample
three_samples = sample 1 (0 ∷ 0 ∷ []) ∷ sample 5 (1 ∷ 0 ∷ []) ∷ sample 1 (5 ∷ 5 ∷ []) ∷ []

-- dilution 100, counts 65,535 and 0 on both channels
abbrev pub two_samples : List Sample
two_samples = sample 100 (65_535 ∷ 65_535 ∷ []) ∷ sample 100 (0 ∷ 0 ∷ []) ∷ []

-- 'Given `P 2 1 0`, `S 1 0 0`, `S 5 1 0`, `S 1 5 5`, `E 3` (tabs for blanks) it prints ..'; document 02, W3: 'axis 2 now comes before axis 1'
abbrev pub job_text : List ℕ
job_text = ascii "P\t2\t1\t0\n" ++ ascii "S\t1\t0\t0\n" ++ ascii "S\t5\t1\t0\n" ++ ascii "S\t1\t5\t5\n" ++ ascii "E\t3\n"

abbrev pub report_text : List ℕ
report_text = ascii "R\t2\t3\t0\t1\t1\tspent\n" ++ ascii "A\t2\t75776\t7172\t858993459\t644245094\n"
    ++ ascii "A\t1\t26624\t7172\t644245094\t-858993459\n"

-- e = 0, and nothing but zeros
abbrev pub zero_table : Table
zero_table = record { e = 0; entries = replicate 64 (pos 0); scatter = replicate 64 (pos 0) }

-- a run that ends as `settled`, with 0 sweeps
abbrev pub SettledAtOnce : Run → Type 0
SettledAtOnce ran = (ran.outcome ≡ Settled) × (ran.sweeps ≡ 0)

-- of samples whose greatest |S| is 2,097,153: e = 1, and where it stands, with either sign, the entry is 1,048,577 with that sign
pub record Halved (n : ℕ) (ss : List Sample) : Type 0 where
  pub shift : (table_of n ss).e ≡ 1
  pub entry : (i j : ℕ) → i < n → j < n → S ss i j ≡ pos 2_097_153 → matrix_of n (table_of n ss).entries i j ≡ pos 1_048_577
  pub negated : (i j : ℕ) → i < n → j < n → S ss i j ≡ neg 2_097_153 → matrix_of n (table_of n ss).entries i j ≡ neg 1_048_577

pub record BenchCards : Type 0 where
  -- 1. T_1 to T_3 as above.
  pub card1 : (threshold 1 ≡ 108406627) × (threshold 2 ≡ 15278151) × (threshold 3 ≡ 6575832)
  -- 2. rnd(7/5) = 1, rnd(−7/5) = −1, rnd(8/5) = 2, rnd(3/2) = 2, rnd(−3/2) = −2.
  pub card2 : (rnd (pos 7) 5 ≡ pos 1) × (rnd (neg 7) 5 ≡ neg 1) × (rnd (pos 8) 5 ≡ pos 2) × (rnd (pos 3) 2 ≡ pos 2) ×
      (rnd (neg 3) 2 ≡ neg 2)
  -- 3. a_pp = a_qq = 2, a_pq = 1: l = 1, f = −1.
  pub card3 : (level_of (choose (pos 2) (pos 2) (pos 1)) ≡ 1) × (sign_of (choose (pos 2) (pos 2) (pos 1)) ≡ neg 1)
  -- 4. a_pq = 0: no turn.
  pub card4 : (app aqq : ℤ) → choose app aqq (pos 0) ≡ None
  -- 5. a_pp = 0, a_qq = 1,073,741,824, a_pq = 1024: no turn (`still` with t = 0). Loaded, these are 0, 1,048,576 and 1.
  pub card5 : (choose (pos 0) (pos 1_073_741_824) (pos 1024) ≡ None) ×
      ((limit : ℕ) → 1 ≤ limit → (run_of 2 (two_by_two (pos 0) (pos 1) (pos 1_048_576)) limit 0).outcome ≡ Still)
  -- 6. a_qq − a_pp = 13: a_pq = 42 gives l = 2, 43 gives l = 1.
  pub card6 : (app aqq : ℤ) → aqq -ℤ app ≡ pos 13 → (level_of (choose app aqq (pos 42)) ≡ 2) × (level_of (choose app aqq (pos 43)) ≡ 1)
  -- 7. Block 50, 25, 50 turns to 26, −7, 74. By the turn that is chosen for it, l = 1 and f = −1.
  pub card7 : (choose (pos 50) (pos 50) (pos 25) ≡ Some (turn_of 1 true)) ×
      (turn_matrix 2 (rotation_of 1 true) 0 1 (block (pos 50) (pos 25) (pos 50)) ≡ block (pos 26) (neg 7) (pos 74))
  -- 8. The three samples above: S is 50, 25, 25, 50; e = 0.
  pub card8 : (scatter 2 three_samples ≡ pos 50 ∷ pos 25 ∷ pos 25 ∷ pos 50 ∷ []) × ((table_of 2 three_samples).e ≡ 0)
  -- 9. Equal samples: zero table, `settled`, 0 sweeps.
  pub card9 : (n k limit t : ℕ) (s : Sample) → 2 ≤ n → n ≤ 8 → t ≤ tolerance_limit →
      (table_of n (replicate k s) ≡ zero_table) × SettledAtOnce (run_of n (take (n * n) (table_of n (replicate k s)).entries) limit t)
  -- 10, moved by document 02's W9. Greatest |S| 2,097,152: e = 0. With 2,097,153: e = 1, entry 1,048,577.
  pub card10 : (n : ℕ) (ss : List Sample) →
      (largest (scatter n ss) ≡ 2_097_152 → (table_of n ss).e ≡ 0) × (largest (scatter n ss) ≡ 2_097_153 → Halved n ss)
  -- 11, moved by W9. Two samples, dilution 100, counts 65,535 and 0 on both channels: every S is 42,948,362,250,000, e = 25, entry 1,279,961.
  pub card11 : (scatter 2 two_samples ≡ replicate 4 (pos 42_948_362_250_000)) × ((table_of 2 two_samples).e ≡ 25) ×
      (take 4 (table_of 2 two_samples).entries ≡ replicate 4 (pos 1_279_961))
  -- 12. The report above.
  pub card12 : printed_of report_of job_text ≡ report_text
