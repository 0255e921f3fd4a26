-- The closure is the definition's test.
use Rattle.std.proofs.Common.{◌∙◌, rules}
use Rattle.std.proofs.lemmas.Iterator.{YieldsList-from_slice}
use Rattle.std.proofs.lemmas.Iterator.Search.{all_from_yields_List}
use Rattle.integer.specs.Within.{within}
use Rattle.integer.specs.laws.Within.{list_all-within}
use Rattle.readings.proofs.all_within.Goals as goal

pub returns : goal.returns
unfolding within
returns c =
    all_from_yields_List (within c.args.low c.args.high) _ _ _ c.all.ensures.ran (YieldsList-from_slice c.args.values.now cc)
    (λ x b q k. search rules) ∙
    list_all-within c.args.low c.args.high c.args.values.now
