-- `sums::add_products` meets its contract: the places 8 × i + j with i ≤ j come in rising order, and nothing is added to those between.
use Rattle.std.specs.Prelude.{refl, ℕ, List, ◌+◌, ◌*◌, ◌≤◌}
use Rattle.std.proofs.Common.{◌∙◌, get_or, mul-le-mul, le_refl, arith}
use Rattle.limits.specs.Limits.{most_dilution}
use Rattle.readings.specs.Samples.{sample}
use Rattle.sums.specs.Sums.{products}
use Rattle.sums.specs.inner.Ranges.{InRange, z_limit}
use Rattle.sums.proofs.Raised.{raised-more, raised-skip, raised_all, product_at, no-product}
use Rattle.sums.proofs.add_products.Goals as goal

-- What is multiplied: a value and a factor keep within 32 bits, a product within 64.
module _ (dilution : ℕ) (counts : List ℕ) (r : InRange (sample dilution counts)) (i : ℕ) where
  value : get_or counts i 0 * dilution ≤ z_limit
  value = mul-le-mul (r.count i) r.dilution

  factor : get_or counts i 0 * dilution * dilution ≤ z_limit * most_dilution
  factor = mul-le-mul value r.dilution

  product : (j : ℕ) → get_or counts i 0 * dilution * dilution * get_or counts j 0 ≤ z_limit * z_limit
  product j = mul-le-mul factor (r.count j)

pub overflow_add-cross-in-loop-j : goal.overflow_add-cross-in-loop-j
overflow_add-cross-in-loop-j c =
    let i = c.loop-i.i in
    let j = c.loop-j.j in
    record {
      fits = omega (
        arith,
        product c.args.dilution c.args.counts.now c.requires.0 i j,
        c.product.ensures,
        c.requires.1.most (8 * i + j),
        c.loop-j.invariant.after (8 * i + j) (le_refl (8 * i + j)),
      );
    }

pub loop-j-preserved : goal.loop-j-preserved
loop-j-preserved c =
    let i = c.loop-i.i in
    let j = c.loop-j.j in
    let r = sample c.args.dilution c.args.counts.now in
    raised-more 64 (products r) c.args.cross.now c.requires.1.size c.loop-j.invariant (8 * i + j) (8 * i + (j + 1)) _ refl
    (omega arith) (omega arith)
    (c.product.ensures ∙ product_at r i j (omega arith) (omega arith))

pub loop-i-preserved : goal.loop-i-preserved
loop-i-preserved c =
    let i = c.loop-i.i in
    let r = sample c.args.dilution c.args.counts.now in
    raised-skip 64 (products r) c.args.cross.now c.requires.1.size c.loop-j.invariant (8 * (i + 1) + (i + 1)) (omega arith)
    (λ p a b. no-product r p (λ h. omega arith))

pub returns : goal.returns
returns c =
    let r = sample c.args.dilution c.args.counts.now in
    raised_all 64 (products r) c.args.cross.now c.requires.1.size
    (raised-skip 64 (products r) c.args.cross.now c.requires.1.size c.loop-i.invariant 72 (omega arith) (λ p a b. no-product r p (λ h. omega arith)))
    (omega arith)
