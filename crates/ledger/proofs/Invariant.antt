-- The ledger's state is sound after every list of calls.
use Rattle.std.specs.Prelude.{◌≡◌, Bool, cond, ℕ, ◌-◌, ◌≤◌}
use Rattle.std.proofs.Math.Path.{refl}
use Rattle.std.proofs.Common.{le_refl, eqb-true}
use Rattle.std.proofs.Math.Bool.{true, false}
use mathlib.Core.List.{List, [], ◌∷◌}
use native.Mathlib.Omega.{arith}
use Rattle.std.proofs.Math.Dec.{eqb}
use Rattle.limits.specs.Limits.{entry_limit}
use Rattle.limits.specs.laws.Values.{some-entry}
use Rattle.ledger.specs.laws.Accepted.{accepted-under, load-accepted, samples-accepted, turn-accepted, sweep-accepted}
use Rattle.ledger.specs.Call.{Call, load, load_samples, turn, sweep_in, loose_pair, axis}
use Rattle.ledger.specs.laws.Orders.{once-in}
use Rattle.ledger.specs.Ledger.{Ledger, empty, loaded, accepted_under, size_of, turns_of}
use Rattle.ledger.specs.Bench.{NamedCall, is_bench}
use Rattle.ledger.specs.Ledger.{ledger_step_under, ledger_from_under, named_step_under}
use Rattle.ledger.specs.Ledger.{ledger}
use Rattle.ledger.specs.laws.Loaded.{sound-plain, sound-samples}
use Rattle.ledger.specs.Order.{pairs_in}
use Rattle.ledger.specs.Refusal.{refusal_of, refusal_under}
use Rattle.ledger.specs.laws.Turned.{sound-turn}
use Rattle.ledger.specs.laws.Invariant.{sound-sweep, SoundLedger}

-- a call that is accepted, under any limit up to today's, of which one entry is within it
module _ (limit : ℕ) (some : 1 ≤ limit) (below : limit ≤ entry_limit) where
  sound-accepted : (g : Ledger) (call : Call) → SoundLedger g → refusal_of (size_of g) (turns_of g) call ≡ 0 →
      SoundLedger (accepted_under limit g call)
  unfolding SoundLedger accepted_under size_of turns_of
  sound-accepted g (load n numbers) h e = sound-plain n numbers (load-accepted (size_of g) (turns_of g) n numbers e)
  sound-accepted g (load_samples n dilutions counts) h e =
      sound-samples limit some below n dilutions counts (samples-accepted (size_of g) (turns_of g) n dilutions counts e)
  sound-accepted empty (turn p q) h e = h
  sound-accepted (loaded s) (turn p q) h e =
      let turns = turn-accepted s.n s.m p q e in
      sound-turn s (record { p = p - 1; q = q - 1 }) h (record { ordered = omega arith; within = omega arith }) turns.left
  sound-accepted empty (sweep_in order) h e = h
  sound-accepted (loaded s) (sweep_in order) h e =
      sound-sweep s (pairs_in order s.n) h (once-in order s.n h.high).ordered
      (omega (arith, (once-in order s.n h.high).count, sweep-accepted s.n s.m order e))
  sound-accepted g (loose_pair t) h e = h
  sound-accepted g (axis i) h e = h

  -- A call that is refused leaves the ledger as it is. Under any limit up to today's: what it accepts, today's does
  pub sound-step : (g : Ledger) (call : Call) → SoundLedger g → SoundLedger (ledger_step_under limit g call)
  unfolding ledger_step_under
  sound-step g call h = cases (eqb (refusal_under limit (size_of g) (turns_of g) call) 0) refl
    where
      cases : (b : Bool) → eqb (refusal_under limit (size_of g) (turns_of g) call) 0 ≡ b → SoundLedger (cond b (accepted_under limit g call) g)
      cases true e =
          sound-accepted g call h
          (accepted-under limit entry_limit below _ _ call (eqb-true (refusal_under limit (size_of g) (turns_of g) call) 0 e))
      cases false e = h

  -- and so does one of no bench
  pub sound-named : (g : Ledger) (c : NamedCall) → SoundLedger g → SoundLedger (named_step_under limit g c)
  unfolding named_step_under
  sound-named g c h = cases (is_bench c.bench)
    where
      cases : (b : Bool) → SoundLedger (cond b (ledger_step_under limit g c.call) g)
      cases true = sound-step g c.call h
      cases false = h

  sound-from : (g : Ledger) (calls : List NamedCall) → SoundLedger g → SoundLedger (ledger_from_under limit g calls)
  unfolding ledger_from_under
  sound-from g [] h = h
  sound-from g (c ∷ calls) h = sound-from (named_step_under limit g c) calls (sound-named g c h)

-- For every list of calls; nothing is assumed of it
pub sound : (calls : List NamedCall) → SoundLedger (ledger calls)
unfolding ledger SoundLedger
sound calls = sound-from entry_limit some-entry (le_refl entry_limit) empty calls tt
