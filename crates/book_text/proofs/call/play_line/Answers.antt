-- `call::play_line` meets its contract.
use Rattle.std.proofs.Common.{◌≡◌, ◌≤◌, pos, sym, arith, length, length-take-le, replicate, take}
use Rattle.std.proofs.lemmas.List.{length-replicate}
use borrow.Author.Rules.{rules}
use Rattle.call_text.specs.Calls.{number_limit}
use Rattle.book_text.specs.inner.Played.{no_call}
use Rattle.book_text.proofs.Asking.{few-read, is_read, unread}
use Rattle.book_text.proofs.call.play_line.Goals as goal
use Rattle.book_text.proofs.call.play_line.Goals.{In_ok-fields}

sized : length (replicate 4096 (pos 0)) ≡ number_limit
unfolding number_limit
sized = length-replicate 4096 (pos 0)

pub returns-in_err-fields : goal.returns-in_err-fields
returns-in_err-fields c =
    rw (c.from_residual.ensures, unread _ _ _ _ c.read_fields.ensures sized c.in_err-fields.was) no_call

-- the numbers that were read stand in the array
module _ (c : In_ok-fields) where
  few : c.in_ok-fields.fields.count ≤ number_limit
  few = few-read _ _ _ _ c.read_fields.ensures sized _ c.in_ok-fields.was

  within : c.in_ok-fields.fields.count ≤ length c.read_fields.new.numbers
  unfolding number_limit
  within = let l : length c.read_fields.new.numbers ≡ 4096 = search rules in omega (arith, few)

  pub read : length (take c.in_ok-fields.fields.count c.read_fields.new.numbers) ≡ c.in_ok-fields.fields.count
  read = length-take-le c.in_ok-fields.fields.count c.read_fields.new.numbers within

pub slice_bounds-numbers-end : goal.slice_bounds-numbers-end
slice_bounds-numbers-end c = within (goal.at.slice_bounds-numbers-end c).In_ok-fields

pub slice_bounds-by_tag-end : goal.slice_bounds-by_tag-end
slice_bounds-by_tag-end c = sym (read (goal.at.slice_bounds-by_tag-end c).In_ok-fields)

pub by_tag-requires : goal.by_tag-requires
by_tag-requires c =
    let t = (goal.at.by_tag-requires c).In_ok-fields in
    (c.requires, rw (read t) (few t))

pub returns : goal.returns
returns c = rw (is_read _ _ _ _ c.read_fields.ensures sized _ c.in_ok-fields.was) c.by_tag.ensures
