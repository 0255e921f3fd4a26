-- `book::Book::rebuild` meets its contract: channel by channel and pair by pair, as the closures give it.
use Rattle.std.specs.Prelude.{◌≡◌, ℕ, List}
use Rattle.std.proofs.Common.{of_calls}
use Rattle.readings.specs.Samples.{total, z}
use Rattle.sums.specs.Sums.{products, sums_of, totals}
use Rattle.sums.specs.declared.Sums.{Sums}
use Rattle.sums.specs.laws.Made.{made}
use Rattle.book.specs.Book.{samples_in}
use Rattle.book.specs.laws.Calls.{number-held}
use Rattle.book.proofs.Book.rebuild.Goals as goal

module _ (c : goal.After-from_fn-2) where
  channels : c.from_fn.result ≡ totals 8 z (samples_in c.args.self)
  unfolding totals
  channels =
      made _ _ (λ i. total (λ s. z s i) (samples_in c.args.self)) 8 0 (λ i y q l w. search of_calls parts 8) _ c.from_fn.ensures.items

  pairs : c.from_fn-2.result ≡ totals 64 products (samples_in c.args.self)
  unfolding totals
  pairs =
      made _ _ (λ p. total (λ s. products s p) (samples_in c.args.self)) 64 0 (λ p y q l w. search of_calls parts 8) _ c.from_fn-2.ensures.items

put_together : (t : Sums) {k : ℕ} {channel cross : List ℕ} → k ≡ t.k → channel ≡ t.channel → cross ≡ t.cross →
    ◌≡◌ {A = Sums} (record { k = k; channel = channel; cross = cross }) t
put_together t e f g = rw (e, f, g)

pub returns : goal.returns
unfolding sums_of
returns c = put_together (sums_of (samples_in c.args.self)) (number-held c.args.self) (channels c) (pairs c)
