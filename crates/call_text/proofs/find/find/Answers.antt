-- `find::find` meets its contract: the position in what stands from the start on.
use Rattle.std.proofs.Common.{◌-◌, ◌==◌, drop, length, rules, take}
use Rattle.std.proofs.lemmas.Iterator.{YieldsList-from_slice}
use Rattle.std.proofs.lemmas.Iterator.Search.{position_from_yields_List}
use borrow.Author.Tests.{tests}
use Rattle.text.specs.laws.Put.{rest_all}
use Rattle.call_text.proofs.Splitting.{found_none, found_some}
use Rattle.call_text.proofs.find.find.Goals as goal

pub returns-in-Some : goal.returns-in-Some
returns-in-Some c =
    let xs = take (length c.args.text.now - c.args.from) (drop c.args.from c.args.text.now) in
    found_some c.args.text.now c.args.from c.args.byte c.requires _ (rest_all c.args.from c.args.text.now) _
    (position_from_yields_List (λ b. b == c.args.byte) _ _ c.position.result c.position.ensures.ran (YieldsList-from_slice xs cc)
    (λ x b q k. search (rules, tests))) _ c.in-Some.is

pub returns-in-None : goal.returns-in-None
returns-in-None c =
    let xs = take (length c.args.text.now - c.args.from) (drop c.args.from c.args.text.now) in
    found_none c.args.text.now c.args.from c.args.byte c.requires _ (rest_all c.args.from c.args.text.now) _
    (position_from_yields_List (λ b. b == c.args.byte) _ _ c.position.result c.position.ensures.ran (YieldsList-from_slice xs cc)
    (λ x b q k. search (rules, tests))) c.in-None.is
