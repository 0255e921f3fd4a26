-- The turn that is picked of the block of specs/laws/GainExamples gains.
use Rattle.std.specs.Prelude.{refl, true, ◌≤◌}
use Rattle.std.proofs.Common.{add_comm, lit≤}
use Rattle.integer.specs.Dot.{dot}
use Rattle.integer.specs.Matrix.{conjugate, diagonal, product}
use Rattle.integer.specs.Signed.{signed}
use Rattle.integer.specs.Sum.{sum}
use Rattle.turn.specs.Exact.{exact}
use Rattle.turn.specs.Gain.{Gains}
use Rattle.turn.specs.Rotation.{rotation_of}
use Rattle.turn.specs.Turn.{at_pair}
use Rattle.turn.proofs.Gain.{gains}
use Rattle.turn.specs.laws.GainExamples.{block, picked}

pub gained : Gains 2 (rotation_of 2 true) 0 1 (block 1 1)
gained = gains 2 0 1 (lit≤ tt) (lit≤ tt) (block 1 1) (λ i j h k. rw (add_comm i j) refl) 2 true picked

pub left : 82 ≤ 289
unfolding conjugate product dot sum exact at_pair rotation_of signed diagonal
left = gained.half
