-- `samples::samples` meets its contract: each line that was read picks the same branch of `samples_at`.
use Rattle.std.proofs.Common.{◌∙◌, sym, refl, arith, rules}
use Rattle.job.proofs.Keeping.{kept-within, samples-beyond, samples-ended, samples-full, samples-more, samples-refused}
use Rattle.job.proofs.Same.{parameters-few}
use Rattle.job.proofs.Told.{accepted-read, begun}
use Rattle.job.specs.inner.Scan.{kept, new_job}
use Rattle.job.proofs.samples.samples.Goals as goal

pub loop-line-init : goal.loop-line-init
unfolding new_job
loop-line-init c = record {
  few = omega arith;
  channels = parameters-few _ _ (sym c.requires);
  long = search rules;
  reads = begun _ _ c.requires;
}

pub returns-then-not-sample_within : goal.returns-then-not-sample_within
returns-then-not-sample_within c =
    let v = c.loop-line.invariant in
    sym
    (samples-beyond _ _ _ _ v.reads v.few _ c.sample_line.ensures _ c.in-Some.is (sym c.sample_within.ensures ∙ c.if-not-sample_within.true))

pub returns-then-k-ge-MOST_SAMPLES : goal.returns-then-k-ge-MOST_SAMPLES
returns-then-k-ge-MOST_SAMPLES c =
    let v = c.loop-line.invariant in
    sym
    (samples-full _ _ _ _ v.reads v.few _ c.sample_line.ensures _ c.in-Some.is (sym c.sample_within.ensures ∙ c.if-not-sample_within.false)
    c.if-k-ge-MOST_SAMPLES.true)

pub overflow_mul-k : goal.overflow_mul-k
overflow_mul-k c = record { fits = omega (arith, kept-within _ _ c.if-k-ge-MOST_SAMPLES.false c.loop-line.invariant.channels) }

pub keep-requires : goal.keep-requires
keep-requires c = (c.loop-line.invariant.channels, kept-within _ _ c.if-k-ge-MOST_SAMPLES.false c.loop-line.invariant.channels)

pub loop-line-preserved : goal.loop-line-preserved
unfolding kept
loop-line-preserved c =
    let v = c.loop-line.invariant in record {
      few = omega arith;
      channels = v.channels;
      long = search rules;
      reads =
          samples-more _ _ _ _ v.reads v.few _ c.sample_line.ensures _ c.in-Some.is (sym c.sample_within.ensures ∙ c.if-not-sample_within.false)
          c.if-k-ge-MOST_SAMPLES.false
          ∙ rw c.keep.ensures refl;
    }

-- The job that was read is the text's.
pub invariant_of-result : goal.invariant_of-result
invariant_of-result c =
    let v = c.loop-line.invariant in
    (accepted-read _ _ (samples-ended _ _ _ _ v.reads v.few _ c.sample_line.ensures c.in_default.is _ c.last_line.ensures _ c.in-Ok.is)).held

pub returns-in-Ok : goal.returns-in-Ok
returns-in-Ok c =
    let v = c.loop-line.invariant in
    sym (samples-ended _ _ _ _ v.reads v.few _ c.sample_line.ensures c.in_default.is _ c.last_line.ensures _ c.in-Ok.is)

pub returns-in-Err : goal.returns-in-Err
returns-in-Err c =
    let v = c.loop-line.invariant in
    sym (samples-refused _ _ _ _ v.reads v.few _ c.sample_line.ensures c.in_default.is _ c.last_line.ensures _ c.in-Err.is)
