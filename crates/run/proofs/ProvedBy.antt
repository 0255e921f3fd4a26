-- The lemmas by which functions are proved: a set for each, which the attribute of the function of its name names.
use Rattle.ledger.specs.laws.Accepted.{load-accepted}

pub ruleset run_table = (load-accepted)
