-- `sums::minus` meets its contract: place by place, as the closures give it.
use Rattle.std.specs.Prelude.{◌≡◌, ◌-◌}
use Rattle.std.proofs.Common.{get_or, of_calls}
use Rattle.std.proofs.iter.Serving.{serving}
use Rattle.sums.specs.Combined.{placewise, minus_of}
use Rattle.sums.specs.laws.Made.{made}
use Rattle.sums.proofs.minus.Goals as goal

module _ (c : goal.After-from_fn-2) where
  channels : c.from_fn.result ≡ placewise 8 ◌-◌ c.args.a.channel c.args.b.channel
  unfolding placewise
  channels =
      made _ _ (λ i. get_or c.args.a.channel i 0 - get_or c.args.b.channel i 0) 8 0 (λ i y q l w. search of_calls parts 8) _ c.from_fn.ensures.items

  pairs : c.from_fn-2.result ≡ placewise 64 ◌-◌ c.args.a.cross c.args.b.cross
  unfolding placewise
  pairs =
      made _ _ (λ p. get_or c.args.a.cross p 0 - get_or c.args.b.cross p 0) 64 0 (λ p y q l w. search of_calls parts 8) _ c.from_fn-2.ensures.items

pub from_fn-requires-2 : goal.from_fn-requires-2
from_fn-requires-2 c = grind serving

pub returns : goal.returns
unfolding minus_of
returns c = rw (channels c, pairs c)
