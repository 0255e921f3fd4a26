-- Laws of this subject: The sizes for which the turn is proved not to wrap.
use Rattle.std.specs.Prelude.{◌≡◌, ℕ, ◌+◌, ◌*◌, ◌≤◌, ◌^◌, Bool, true, false, ◌&&◌, List, ℤ, T, ltb}
use Rattle.std.proofs.Common.{ltb→lt, arith, to_z, of_z}
use Rattle.std.specs.Int.{w64}
use Rattle.std.proofs.Math.Facts.{and_yes}
use Rattle.integer.specs.laws.Word.{read_back}
use Rattle.choice.specs.Widest.{widest}
use Rattle.choice.specs.laws.Threshold.{from-1-to-14}
use Rattle.turn.specs.Rotation.{rotation_of}
use Rattle.integer.specs.Signed.{signed}
use Rattle.turn.specs.Turn.{at}
use Rattle.turn.specs.declared.pair.Rotation.{Rotation}
use Rattle.turn.specs.Size.{Small}
use Rattle.turn.specs.inner.Size.{weight, passed, TurnFits}

-- an entry is read back from its bits
pub entry-back : (a : List (List ℤ)) → Small a → (i j : ℕ) → to_z w64 (of_z w64 (at a i j)) ≡ at a i j
entry-back a h i j = read_back (at a i j) (omega (arith, h.small i j))

-- Document 01's rotations are of that kind: one computed test for each l and sign
turns? : Rotation → Bool
turns? r = ltb 0 r.n && (ltb (weight r * widest + r.n) (2 ^ 63) && ltb (weight r * passed r widest + r.n) (2 ^ 63))

turns : (r : Rotation) → T (turns? r) → TurnFits r
unfolding turns?
turns r t =
    let rest = and_yes (ltb 0 r.n) _ t in
    let passes = and_yes (ltb (weight r * widest + r.n) (2 ^ 63)) _ rest.1 in
    record {
      positive = ltb→lt _ _ rest.0;
      first-pass = ltb→lt _ _ passes.0;
      second-pass = ltb→lt _ _ passes.1;
    }

pub rotation_of-turns : (l : ℕ) (minus : Bool) → 1 ≤ l → l ≤ 14 → TurnFits (rotation_of l minus)
unfolding turns? rotation_of signed passed
rotation_of-turns l true h k = turns _ (from-1-to-14 (λ m. turns? (rotation_of m true)) tt l h k)
rotation_of-turns l false h k = turns _ (from-1-to-14 (λ m. turns? (rotation_of m false)) tt l h k)
