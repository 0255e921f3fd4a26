use Rattle.std.proofs.Common.{◌≡◌, ◌*ℤ◌, ◌∙◌, refl, ℕ, List, ℤ, pos}
use Rattle.integer.specs.Matrix.{diagonal, matrix_of}
use Rattle.ledger.specs.laws.Accepted.{load-accepted}
use Rattle.limits.specs.Limits.{units, whole}
use Rattle.turn.specs.InUse.{in_use}
use Rattle.record.proofs.FlatFilled.{flat-square}
use Rattle.record.specs.Blank.{blank}
use Rattle.record.specs.Flat.{flat_of}
use Rattle.record.specs.Solver.{loaded_solver}
use Rattle.record.specs.laws.Loading.{loads-kept, loads-within}
use Rattle.record.proofs.solver.Solver.of_table.Goals as goal

pub load_matrix-requires : goal.load_matrix-requires
unfolding blank
load_matrix-requires c = let l = load-accepted 0 0 _ _ c.requires in (refl, l.high, l.count, loads-within l)

pub load_axes-requires : goal.load_axes-requires
unfolding blank
load_axes-requires c = (refl, (load-accepted 0 0 _ _ c.requires).high)

-- the state with the packed rows
loaded-is : (n : ℕ) (numbers : List ℤ) (e : ℕ) (a v : List ℤ) →
    a ≡ flat_of (in_use n (λ i j. pos units *ℤ matrix_of n numbers i j)) → v ≡ flat_of (in_use n (diagonal (pos whole))) →
    record { n = n; m = 0; e = e; a = a; v = v } ≡ loaded_solver n numbers e
unfolding loaded_solver
loaded-is n numbers e a v matrix axes i = record { n = n; m = 0; e = e; a = matrix i; v = axes i }

pub returns : goal.returns
returns c =
    let is =
    loaded-is c.args.n c.args.numbers.now c.args.e _ _ (c.packed.ensures ∙ flat-square _ _ c.load_matrix.ensures)
    (c.packed-2.ensures ∙ flat-square _ _ c.load_axes.ensures) in
    record { is = is; keeps = rw is (loads-kept _ _ (load-accepted 0 0 _ _ c.requires) _) }
