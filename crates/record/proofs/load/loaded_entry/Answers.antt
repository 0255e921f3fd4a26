use Rattle.std.proofs.Common.{rules, ◌≡◌, ◌*ℤ◌, ◌+◌, ◌*◌, ℕ, List, ℤ, pos, true, arith, get_or, w64, to_z-of_z}
use mir.Val.{SFits}
use Rattle.integer.specs.laws.Laws.{nat_abs-*ℤ}
use Rattle.integer.specs.laws.Word.{held}
use Rattle.ledger.specs.Refusal.{entries_within}
use Rattle.ledger.specs.laws.Accepted.{within-small}
use Rattle.limits.specs.Limits.{entry_limit, units}
use Rattle.integer.specs.Matrix.{matrix_of}
use Rattle.record.proofs.load.loaded_entry.Goals as goal

-- a number in units is a word of 64 bits
in-units : (numbers : List ℤ) → entries_within entry_limit numbers ≡ true → (k : ℕ) → SFits w64 (pos units *ℤ get_or numbers k (pos 0))
in-units numbers e k = held _ (rw nat_abs-*ℤ (omega (arith, within-small entry_limit numbers (rw e tt) k)))

pub overflow_mul-result-2 : goal.overflow_mul-result-2
overflow_mul-result-2 c =
    let f : SFits w64 (get_or c.args.numbers.now (c.args.i * c.args.n + c.args.j) (pos 0)) = search rules in
    rw (to_z-of_z f) (in-units c.args.numbers.now c.requires.4 (c.args.i * c.args.n + c.args.j))

pub returns : goal.returns
unfolding matrix_of
returns c =
    let f : SFits w64 (get_or c.args.numbers.now (c.args.i * c.args.n + c.args.j) (pos 0)) = search rules in
    rw (to_z-of_z f, to_z-of_z (in-units c.args.numbers.now c.requires.4 (c.args.i * c.args.n + c.args.j)))
