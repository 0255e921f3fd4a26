use Rattle.std.proofs.Common.{refl}
use Rattle.record.specs.Solver.{unloaded}
use Rattle.record.specs.laws.After.{unloaded-kept}
use Rattle.record.proofs.solver.Solver.new.Goals as goal

pub returns : goal.returns
unfolding unloaded
returns c = record { is = refl; keeps = unloaded-kept }
