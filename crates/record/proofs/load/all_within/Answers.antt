use Rattle.std.proofs.Common.{rules, ◌∙◌, leb, nat_abs}
use Rattle.std.proofs.lemmas.Iterator.{YieldsList-from_slice}
use Rattle.std.proofs.lemmas.Iterator.Search.{all_from_yields_List}
use Rattle.limits.specs.Limits.{entry_limit}
use Rattle.record.proofs.Checks.{all-entries}
use Rattle.record.proofs.load.all_within.Goals as goal

pub returns : goal.returns
returns c =
    all_from_yields_List (λ x. leb (nat_abs x) entry_limit) _ _ _ c.all.ensures.ran (YieldsList-from_slice c.args.numbers.now cc)
    (λ x b q k. search rules) ∙ all-entries c.args.numbers.now
