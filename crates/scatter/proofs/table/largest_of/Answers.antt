-- `scatter::table::largest_of` meets its contract.
use Rattle.std.specs.Prelude.{nat_abs, take}
use Rattle.std.specs.Option.{unwrap_or}
use Rattle.std.proofs.lemmas.Iterator.Adapters.{option_map_id}
use Rattle.std.proofs.Common.{rules, sym, ap, ◌∙◌}
use Rattle.std.proofs.lemmas.Iterator.{YieldsList-from_slice, YieldsList-from_map}
use Rattle.std.proofs.lemmas.Iterator.Consumers.{max_from_yields_List}
use Rattle.scatter.proofs.Greatest.{reduced-largest, front-largest}
use Rattle.scatter.proofs.table.largest_of.Goals as goal

pub returns : goal.returns
returns c =
    let xs = take c.args.size c.args.s.now in
    c.unwrap_or.ensures
    ∙ ap (λ o. unwrap_or o 0) (sym (option_map_id _) ∙ max_from_yields_List c.map.result _ c.max.ensures.ran
    (YieldsList-from_map _ nat_abs (YieldsList-from_slice xs cc) c.map.ensures.closure (λ x r q k. search rules)))
    ∙ reduced-largest xs
    ∙ front-largest c.args.s.now c.args.size c.requires
