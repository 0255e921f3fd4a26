-- Document 02, W8: a call and the bench that it names.
use Rattle.std.specs.Prelude.{ℕ, Bool}
use Rattle.integer.specs.Within.{within}
use Rattle.limits.specs.Limits.{benches}
use Rattle.ledger.specs.Call.{Call}

pub record NamedCall : Type 0 where
  pub bench : ℕ
  pub call : Call

abbrev pub by : ℕ → Call → NamedCall
by bench call = record { bench = bench; call = call }

-- 'a bench from 1 to 4'; 'A bench outside 1 to 4 gives 15, tried before everything else'
unfoldable pub is_bench : ℕ → Bool
is_bench bench = within 1 benches bench
