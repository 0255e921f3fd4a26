-- `Gains-always` speaks of more than the empty list: of the state after a load, and of a sweep of either order.
use Rattle.std.specs.Prelude.{◌≡◌, refl, List, [], ◌∷◌, ℤ, pos}
use Rattle.integer.specs.Matrix.{matrix_of}
use Rattle.integer.specs.Within.{within}
use Rattle.ledger.specs.Bench.{by, is_bench}
use Rattle.ledger.specs.Call.{load, sweep_in}
use Rattle.ledger.specs.Gain.{CallGains, StateGains, by-sweep}
use Rattle.ledger.specs.Ledger.{loaded, plain_state, accepted_under, size_of, turns_of, loaded_state, ledger_step_under, ledger_from_under}
use Rattle.ledger.specs.Ledger.{ledger, named_step_under}
use Rattle.ledger.specs.Order.{pairs_in}
use Rattle.ledger.specs.declared.Order.{Order}
use Rattle.ledger.specs.Refusal.{equal, entries_within, refusal_under, symmetric}
use Rattle.ledger.proofs.Gain.{gains-always}

-- card 7's block
abbrev numbers : List ℤ
numbers = pos 50 ∷ pos 25 ∷ pos 25 ∷ pos 50 ∷ []

after-load : ledger (by 1 (load 2 numbers) ∷ []) ≡ loaded (plain_state 2 numbers)
unfolding ledger ledger_from_under named_step_under is_bench within ledger_step_under accepted_under size_of turns_of refusal_under entries_within
    symmetric equal matrix_of
after-load = refl

pub gains-after-load : StateGains (plain_state 2 numbers)
gains-after-load = gains-always (by 1 (load 2 numbers) ∷ []) (plain_state 2 numbers) after-load

-- a sweep of either order is among the calls that it speaks of
pub sweeps-gain : (order : Order) → CallGains (plain_state 2 numbers) (sweep_in order) (pairs_in order 2)
unfolding refusal_under plain_state loaded_state
sweeps-gain order = gains-after-load.calls (sweep_in order) (pairs_in order 2) (by-sweep order) refl
