-- `book::arrays::close_up` meets its contract: the later numbers are copied down, and the last places are filled with 0.
use Rattle.std.specs.Prelude.{◌≡◌, refl, ℕ, ◌+◌, ◌-◌, ◌≤◌, List, [], ◌++◌, length, drop, take, replicate}
use Rattle.std.specs.List.{copy_within}
use Rattle.std.proofs.Common.{rules, sym, ◌∙◌, arith, append-nil, length-append, length-drop}
use Rattle.std.proofs.Math.ListN.{drop_of_length-le}
use Rattle.std.proofs.Math.Seq.{paste}
use Rattle.std.proofs.lemmas.List.{length-replicate}
use Rattle.std.proofs.lemmas.List.Edits.{paste_all, paste-paste}
use Rattle.std.proofs.lemmas.Slice.{put_mid-paste}
use borrow.Rule.Slice.PartMut.{put_mid}
use Rattle.book.specs.inner.Arrays.{closed_up}
use Rattle.book.proofs.arrays.close_up.Goals as goal

module _ (from width : ℕ) (values : List ℕ) (h : from + width ≤ length values) where
  later : List ℕ
  later = drop (from + width) values

  many : ℕ
  many = length values - (from + width)

  later-long : many ≡ length later
  unfolding later many
  later-long = sym (length-drop (from + width) values)

  moved : {xs ys : List ℕ} → xs ≡ copy_within values (from + width) (length values) from → ys ≡ replicate width 0 →
      put_mid (length values - width) (length values - (length values - width)) xs ys ≡ closed_up from width values
  unfolding closed_up later many
  moved {xs} {ys} e g =
      let rest : List ℕ = replicate width 0 in
      let long : length rest ≡ width = length-replicate width 0 in
      let place : length values - width ≡ from + many = omega arith in
      let filled : put_mid (length values - width) (length values - (length values - width)) xs ys ≡ paste xs (length values - width) rest width =
      put_mid-paste (length values - width) _ xs ys rest width g (omega arith) (sym long) in
      let joined : paste xs (length values - width) rest width ≡ paste values from (later ++ rest) (many + width) =
      rw (e, place) (paste-paste values from later rest many width later-long (sym long) (omega arith)) in
      let whole : paste values from (later ++ rest) (many + width) ≡ take from values ++ ((later ++ rest) ++ drop (from + (many + width)) values) =
      paste_all values from (later ++ rest) (many + width) (omega (arith, length-append later rest, later-long, long)) in
      let none : drop (from + (many + width)) values ≡ [] = drop_of_length-le values (omega arith) in
      filled ∙ joined ∙ whole ∙ rw (none, append-nil) refl

pub returns : goal.returns
returns c =
    rw c.copy_within.ensures.len
    (moved c.args.from c.args.width c.args.values.now c.requires c.copy_within.ensures.after (search rules))
