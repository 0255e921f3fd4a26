-- `field::all_digits` meets its contract: each byte is tested.
use Rattle.std.proofs.Common.{◌∙◌, rules}
use Rattle.std.proofs.lemmas.Iterator.{YieldsList-from_slice}
use Rattle.std.proofs.lemmas.Iterator.Search.{all_from_yields_List}
use borrow.Author.Tests.{tests}
use Rattle.integer.specs.Within.{within}
use Rattle.integer.specs.laws.Within.{list_all-within}
use Rattle.call_text.proofs.field.all_digits.Goals as goal

pub returns : goal.returns
unfolding within
returns c =
    all_from_yields_List (within 48 57) _ _ _ c.all.ensures.ran (YieldsList-from_slice c.args.field.now cc) (λ x b q k. search (rules, tests))
    ∙ list_all-within 48 57 c.args.field.now
