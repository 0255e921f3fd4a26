use Rattle.std.proofs.Common.{◌≡◌, sym, ◌∙◌, arith}
use Rattle.integer.specs.Matrix.{matrix_of}
use Rattle.integer.specs.Range.{all}
use Rattle.record.proofs.Checks.{all-fails, mirrored, symmetric-left}
use Rattle.record.proofs.load.is_symmetric.Goals as goal

pub returns-then-not-row_mirrored : goal.returns-then-not-row_mirrored
returns-then-not-row_mirrored c =
    rw symmetric-left
    (all-fails (λ i. all (mirrored (matrix_of c.args.n c.args.numbers.now) i) i) c.args.n c.loop-i.i (omega arith)
    (sym c.row_mirrored.ensures ∙ c.if-not-row_mirrored.true))

pub returns : goal.returns
returns c =
    let e : c.loop-i.i ≡ c.args.n = omega arith in
    rw symmetric-left (sym (rw e at c.loop-i.invariant))
