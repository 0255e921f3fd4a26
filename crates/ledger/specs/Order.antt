-- The two orders of a sweep's pairs: document 01's, and that of document 02's W10.
use Rattle.std.specs.Prelude.{ℕ, List}
use Rattle.ledger.specs.Pairs.{Pair, cyclic}
use Rattle.ledger.specs.Tournament.{tournament}
use Rattle.ledger.specs.declared.Order.{Order}
use Rattle.ledger.specs.declared.Order.TheVariants.{Cyclic, Tournament}

abbrev pub pairs_in : Order → ℕ → List Pair
pairs_in Cyclic n = cyclic n
pairs_in Tournament n = tournament n
