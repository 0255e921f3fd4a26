use mathlib.Core.Path.{◌≡◌, sym, ap, ◌∙◌}
use mathlib.Core.List.{List}
use Prim.Native.Nat.{ℕ}
use mathlib.Core.Bool.{false}
use Rattle.record.specs.Run.{run_from, stop}
use Rattle.record.specs.Kept.{KeptSolver}
use Rattle.record.specs.Solver.{work_of, worked_of}
use Rattle.record.specs.inner.Running.{WorkRunnable, solver_of}
use Rattle.record.specs.inner.Solved.{SolverRunnable}
use Rattle.record.specs.laws.Fill.{flat_rows, shaped-rows}
use Rattle.record.specs.declared.Record.{Record}
use Rattle.record.specs.declared.solver.Solver.{Solver}
use Rattle.record.specs.declared.work.Work.{Work}
use Rattle.record.proofs.solver.Solver.run.Goals as goal

-- the state is the one that holds its work, and its work is kept whatever the e
module _ (r : Solver) (limit t : ℕ) (h : SolverRunnable r limit t) where
  itself : solver_of r.e (work_of r) ≡ r
  unfolding work_of
  itself i =
      record {
        n = r.n;
        m = r.m;
        e = r.e;
        a = flat_rows r.a h.keeps.matrix-length i;
        v = flat_rows r.v h.keeps.axes-length i;
      }

  any-shift : (e : ℕ) → KeptSolver (solver_of e (work_of r))
  unfolding work_of
  any-shift e =
      let held = rw (← itself) at h.keeps in
      record {
        size = held.size;
        channels = held.channels;
        turns = held.turns;
        work = held.work;
        matrix-length = held.matrix-length;
        axes-length = held.axes-length;
      }

  runnable : WorkRunnable (work_of r) limit t
  unfolding work_of
  runnable =
      record {
        loaded = h.loaded;
        unturned = h.unturned;
        sweeps = h.sweeps;
        tolerated = h.tolerated;
        holds = λ e. record { keeps = any-shift e; matrix = shaped-rows r.a; axes = shaped-rows r.v };
      }

abbrev with-counts : Solver → List ℕ → Record
with-counts solver counts = record { solver = solver; refused = counts }

pub run-ended-requires : goal.run-ended-requires
run-ended-requires c = rw c.work-work.ensures (runnable c.args.self _ _ c.requires)

pub returns : goal.returns
unfolding worked_of work_of
returns c =
    let r = c.args.self in
    let ended = c.run-ended.result in
    let last = c.run-ended.new.self in
    let size = sym (c.run-ended.ensures.same ∙ ap (λ (w : Work). w.n) c.work-work.ensures) in
    let leaves : c.with_work.result ≡ solver_of r.e last = rw (← size) c.with_work.ensures in
    record {
      is = λ counts.
          ap (λ x. stop ended.outcome ended.sweeps (with-counts x counts)) leaves
          ∙ c.run-ended.ensures.is r.e counts
          ∙ ap (λ w. run_from c.args.limit 0 false c.args.tolerance (with-counts (solver_of r.e w) counts)) c.work-work.ensures
          ∙ ap (λ x. run_from c.args.limit 0 false c.args.tolerance (with-counts x counts)) (itself r _ _ c.requires);
      keeps = rw leaves (c.run-ended.ensures.holds r.e).keeps;
    }
