-- `book::Book::pair_sum` meets its contract: the samples come from the last to the first, and their sum is the total.
use Rattle.std.specs.Prelude.{refl, ℕ, ◌*◌}
use Rattle.std.proofs.Common.{arith, rules, ◌∙◌}
use Rattle.std.proofs.lemmas.Iterator.{YieldsList-from_map}
use Rattle.std.proofs.lemmas.Iterator.Consumers.{fits_by_from_yields_list, sum_by_from_yields_List}
use Rattle.readings.specs.Samples.{z}
use Rattle.sums.specs.Ranges.{z_limit}
use Rattle.book.specs.declared.Book.{Book}
use Rattle.book.specs.inner.Rebuild.{sample_of}
use Rattle.book.proofs.Rebuilding.{downward, sum-fits, total-held, product_small, yields-downward}
use Rattle.book.proofs.Book.pair_sum.Goals as goal

-- what a sample gives
abbrev given : Book → ℕ → ℕ → ℕ → ℕ
given b i j s = z (sample_of b s) i * z (sample_of b s) j

pub sum-requires-clause-fits : goal.sum-requires-clause-fits
sum-requires-clause-fits c =
    fits_by_from_yields_list (given c.args.self.now c.args.i c.args.j) (downward 0 c.args.self.now.summary.k) c.map.result _
    (YieldsList-from_map _ (given c.args.self.now c.args.i c.args.j)
    (yields-downward _ _ (λ a b. refl) (λ a b p. p) _ c.args.self.now.summary.k cc)
    c.map.ensures.closure (λ x r q k. search rules))
    (sum-fits c.args.self.now c.requires.0 (λ r. z r c.args.i * z r c.args.j) (z_limit * z_limit)
    (λ s. product_small c.args.self.now c.requires.0 s c.args.i c.args.j) (omega arith))

pub returns : goal.returns
returns c =
    sum_by_from_yields_List (given c.args.self.now c.args.i c.args.j) (downward 0 c.args.self.now.summary.k) c.map.result _
    c.sum.ensures.ran
    (YieldsList-from_map _ (given c.args.self.now c.args.i c.args.j)
    (yields-downward _ _ (λ a b. refl) (λ a b p. p) _ c.args.self.now.summary.k cc)
    c.map.ensures.closure (λ x r q k. search rules))
    ∙ total-held c.args.self.now c.requires.0 (λ r. z r c.args.i * z r c.args.j) (z_limit * z_limit)
    (λ s. product_small c.args.self.now c.requires.0 s c.args.i c.args.j)
