-- A refusal's number by tests in their order.
use Rattle.std.specs.Prelude.{ℕ, Bool, cond}

-- refused with this number unless the test holds; else what the later tests say
abbrev pub unless : Bool → ℕ → ℕ → ℕ
unless test number later = cond test later number
