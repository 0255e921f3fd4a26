use Rattle.std.proofs.Common.{sym, ap, ◌∙◌, arith, refl}
use Rattle.ledger.specs.laws.Order.{all_left, none_left, pair-next, row-begins, row_ends}
use Rattle.record.proofs.Search.{found, passed}
use Rattle.record.specs.Loose.{loose_of}
use Rattle.record.specs.inner.Found.{Inside, told_pair}
use Rattle.turn.specs.Turn.{at}
use Rattle.record.proofs.query.loose_pair_of.Goals as goal

pub search-init : goal.search-init
search-init c = (refl, ap (loose_of _ _) (all_left c.args.n))

pub loop-q-preserved : goal.loop-q-preserved
loop-q-preserved c = (
  c.loop-q.invariant.0,
  c.loop-q.invariant.1 ∙ ap (loose_of _ _) (pair-next _ _ _ c.loop-q-test.true)
      ∙ passed _ _ _ _ (rw c.entry_size.ensures at c.if-t-entry_size.false),
)

pub search-preserved : goal.search-preserved
search-preserved c = (
  c.loop-q.invariant.0 ∙ c.search.invariant.0,
  c.search.invariant.1 ∙ ap (loose_of _ _) (row-begins _ _ c.search-test.true) ∙ c.loop-q.invariant.1
      ∙ ap (loose_of _ _) (row_ends _ _ _ c.loop-q-test.false),
)

-- no pair is left
pub returns-after-search : goal.returns-after-search
unfolding loose_of told_pair Inside
returns-after-search c = rw c.search.invariant.0
    (record { is = sym (c.search.invariant.1 ∙ ap (loose_of (at c.args.a.now) c.args.t) (none_left _ _ c.search-test.false)); within = tt })

-- the search was left at p and q
pub returns-then-t-entry_size : goal.returns-then-t-entry_size
unfolding told_pair Inside
returns-then-t-entry_size c = record {
  within = (omega (arith, c.requires, c.search-test.true), omega (arith, c.requires, c.loop-q-test.true));
  is =
      sym
      (c.search.invariant.1 ∙ ap (loose_of _ _) (row-begins _ _ c.search-test.true) ∙ c.loop-q.invariant.1
      ∙ ap (loose_of _ _) (pair-next _ _ _ c.loop-q-test.true) ∙ found _ _ _ _ (rw c.entry_size.ensures at c.if-t-entry_size.true));
}
