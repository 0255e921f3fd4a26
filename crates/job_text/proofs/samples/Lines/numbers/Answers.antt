-- All counts of the sample are written.
use Rattle.std.proofs.Common.{◌≡◌, ℕ, ◌+◌, ◌-◌, ◌*◌, ◌≤◌, List, ◌∷◌, ℤ, pos, ◌∙◌, arith, drop, length, length-take-le, length-drop, map, take}
use Rattle.std.proofs.Common.{take-take}
use Rattle.readings.specs.Samples.{sample_at}
use Rattle.job_text.specs.JobText.{sample_numbers}
use Rattle.job_text.proofs.Filling.{counts-there}
use Rattle.job_text.proofs.samples.Lines.numbers.Goals as goal

whole : (numbers : List ℤ) (d : ℕ) (counts : List ℕ) (at n k j : ℕ) → k ≡ n → at + n ≤ length counts → length (take k (drop at counts)) ≤ j →
    j ≤ length (take k (drop at counts)) → take (j + 1) numbers ≡ map pos (d ∷ take j (take k (drop at counts))) →
    take (n + 1) numbers ≡ map pos (d ∷ take n (drop at counts))
whole numbers d counts at n k j e h low high written =
    let long : length (take k (drop at counts)) ≡ n = rw e (length-take-le n (drop at counts) (omega (arith, length-drop at counts))) in
    let all : j ≡ n = omega arith in
    rw (all, e) at written ∙ rw (take-take n n (drop at counts) (omega arith))

pub returns : goal.returns
unfolding sample_numbers sample_at
returns c =
    let a = c.args.self.now.samples in
    let there = counts-there a.n a.dilutions.now a.counts.now c.args.self.now.readings c.args.i c.requires in (
      c.loop-j.invariant.long,
      whole c.loop-j.numbers _ a.counts.now (a.n * c.args.i) a.n (a.n * c.args.i + a.n - a.n * c.args.i) c.loop-j.j (omega arith) there
          c.loop-j-test.false c.loop-j.auto.j-end c.loop-j.invariant.written,
    )
