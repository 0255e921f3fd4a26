use Rattle.std.proofs.Common.{[], arith}
use Rattle.record.proofs.Going.{begun, held-ready, is-spent, is-still, remains, settles, sweeps-on}
use Rattle.record.proofs.work.Work.run.Goals as goal

pub loop-idle-init : goal.loop-idle-init
loop-idle-init c = λ e k. begun e k _ _ _ c.requires.unturned (c.requires.holds e)

pub is_settled-requires : goal.is_settled-requires
is_settled-requires c = (c.loop-idle.invariant 0 []).holds.keeps.size

pub returns-then-is_settled : goal.returns-then-is_settled
returns-then-is_settled c =
    record {
      is = λ e k. settles e k _ _ _ c.requires.loaded c.requires.sweeps c.requires.tolerated _ _ _ _ (c.loop-idle.invariant e k) _
          c.is_settled.ensures c.if-is_settled.true;
      holds = λ e. (c.loop-idle.invariant e []).holds;
      same = (c.loop-idle.invariant 0 []).size;
    }

pub returns-then-idle : goal.returns-then-idle
returns-then-idle c =
    record {
      is = λ e k. is-still e k _ _ _ c.requires.loaded c.requires.sweeps c.requires.tolerated _ _ _ _ (c.loop-idle.invariant e k) _
          c.is_settled.ensures c.if-is_settled.false c.if-idle.true;
      holds = λ e. (c.loop-idle.invariant e []).holds;
      same = (c.loop-idle.invariant 0 []).size;
    }

pub returns-then-sweeps-limit : goal.returns-then-sweeps-limit
returns-then-sweeps-limit c =
    record {
      is = λ e k. is-spent e k _ _ _ c.requires.loaded c.requires.sweeps c.requires.tolerated _ _ _ _ (c.loop-idle.invariant e k) _
          c.is_settled.ensures c.if-is_settled.false c.if-idle.false c.if-sweeps-limit.true;
      holds = λ e. (c.loop-idle.invariant e []).holds;
      same = (c.loop-idle.invariant 0 []).size;
    }

pub overflow_add-sweeps : goal.overflow_add-sweeps
overflow_add-sweeps c = record { fits = omega (arith, (c.loop-idle.invariant 0 []).within, c.requires.sweeps) }

pub sweep_in-requires : goal.sweep_in-requires
sweep_in-requires c =
    let going = c.loop-idle.invariant 0 [] in (
      rw going.size c.requires.loaded,
      remains 0 [] _ _ _ c.requires.loaded c.requires.sweeps c.requires.tolerated _ _ _ _ going c.if-sweeps-limit.false,
      held-ready _ _ going.holds,
    )

pub loop-idle-smaller : goal.loop-idle-smaller
loop-idle-smaller c = omega (arith, (c.loop-idle.invariant 0 []).within, c.if-sweeps-limit.false)

pub loop-idle-preserved : goal.loop-idle-preserved
loop-idle-preserved c = λ e k.
    sweeps-on e k _ _ _ c.requires.loaded c.requires.sweeps c.requires.tolerated _ _ _ _ (c.loop-idle.invariant e k) _
    c.is_settled.ensures c.if-is_settled.false c.if-idle.false c.if-sweeps-limit.false _ c.sweep_in.ensures
