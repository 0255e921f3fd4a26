-- What the table of samples is in document 01's words, under any limit: `table_under` gives it, and nothing else is it.
use Rattle.std.specs.Prelude.{◌≡◌, refl, List, ℕ, ◌*◌, ◌^◌, ◌<◌, ◌≤◌, ℤ, pos, length, get_or, map}
use Rattle.std.proofs.Common.{ap, sym, ◌∙◌, arith}
use Rattle.std.proofs.Math.IntN.{nat_abs}
use Rattle.std.proofs.Math.ListN.{get_or-eq_default, length-map}
use Rattle.integer.specs.Matrix.{Matrix, Same, matrix_of}
use Rattle.integer.specs.Padded.{padded}
use Rattle.integer.specs.laws.Padded.{length-padded, padded-at}
use Rattle.integer.specs.laws.RowMajor.{row_major-all, same_numbers}
use Rattle.limits.specs.laws.Channels.{places}
use Rattle.rounding.specs.Rounding.{rnd}
use Rattle.readings.specs.Samples.{Sample}
use Rattle.scatter.specs.declared.table.Table.{Table}
use Rattle.scatter.specs.Table.{S, scatter, shift_under, entries_under, table_from_under, table_under}
use Rattle.scatter.specs.laws.Entries.{rounded-at, length-scatter, scatter-at}
use Rattle.scatter.specs.laws.Shift.{shift-smallest}

-- the n × n numbers of a matrix row after row in 64 places, zeros after them
pub record InArray (n : ℕ) (X : Matrix) (us : List ℤ) : Type 0 where
  pub size : length us ≡ 64
  pub numbers : Same n (matrix_of n us) X
  pub zeros : (p : ℕ) → n * n ≤ p → get_or us p (pos 0) ≡ pos 0

-- every |S_ij| ≤ limit × 2^e
abbrev pub Enough : ℕ → ℕ → List Sample → ℕ → Type 0
Enough limit n ss e = (i j : ℕ) → i < n → j < n → nat_abs (S ss i j) ≤ limit * 2 ^ e

pub record IsTable (limit n : ℕ) (ss : List Sample) (t : Table) : Type 0 where
  -- 'The shift e is the smallest e ≥ 0 with every |S_ij| ≤ 1,048,576 × 2^e', with any limit for that one
  pub within : Enough limit n ss t.e
  pub least : (e : ℕ) → Enough limit n ss e → t.e ≤ e
  -- 'The loaded entry is rnd(S_ij / 2^e).'
  pub entries : InArray n (λ i j. rnd (S ss i j) (2 ^ t.e)) t.entries
  pub scatter : InArray n (S ss) t.scatter

module _ (n : ℕ) (h : n ≤ 8) where
  padded-in-array : {X : Matrix} (us : List ℤ) → length us ≡ n * n → Same n (matrix_of n us) X → InArray n X (padded 64 (pos 0) us)
  unfolding matrix_of
  padded-in-array us l e =
      record {
        size = length-padded 64 (pos 0) us (rw l (places n h));
        numbers = λ i j g f. padded-at 64 (pos 0) us _ ∙ e i j g f;
        zeros = λ p b. padded-at 64 (pos 0) us p ∙ get_or-eq_default us (pos 0) {n = p} (omega arith);
      }

  in-array-unique : {X Y : Matrix} → Same n X Y → {us vs : List ℤ} → InArray n X us → InArray n Y vs → us ≡ vs
  in-array-unique e {us} {vs} a b =
      same_numbers n us vs (a.size ∙ sym b.size) (λ i j g f. a.numbers i j g f ∙ e i j g f ∙ sym (b.numbers i j g f))
      (λ p l. a.zeros p l ∙ sym (b.zeros p l))

  module _ {limit : ℕ} (some : 1 ≤ limit) (ss : List Sample) where
    everywhere : (e : ℕ) → Enough limit n ss e → (p : ℕ) → nat_abs (get_or (scatter n ss) p (pos 0)) ≤ limit * 2 ^ e
    unfolding scatter
    everywhere e w = row_major-all n (S ss) (λ u. nat_abs u ≤ limit * 2 ^ e) (omega arith) w

    shift-within : Enough limit n ss (shift_under limit (scatter n ss))
    unfolding matrix_of
    shift-within i j g f = rw (← scatter-at n ss i j g f) ((shift-smallest some (scatter n ss)).within _)

    shift-least : (e : ℕ) → Enough limit n ss e → shift_under limit (scatter n ss) ≤ e
    shift-least e w = (shift-smallest some (scatter n ss)).least e (everywhere e w)

    rounded-in-array : (e : ℕ) → InArray n (λ i j. rnd (S ss i j) (2 ^ e)) (padded 64 (pos 0) (map (λ u. rnd u (2 ^ e)) (scatter n ss)))
    rounded-in-array e =
        padded-in-array (map (λ u. rnd u (2 ^ e)) (scatter n ss)) (length-map (scatter n ss) _ ∙ length-scatter n ss) (rounded-at n ss e)

    scatter-in-array : InArray n (S ss) (padded 64 (pos 0) (scatter n ss))
    scatter-in-array = padded-in-array (scatter n ss) (length-scatter n ss) (scatter-at n ss)

    pub table_is : IsTable limit n ss (table_under limit n ss)
    unfolding table_under table_from_under entries_under
    table_is =
        record {
          within = shift-within;
          least = shift-least;
          entries = rounded-in-array (shift_under limit (scatter n ss));
          scatter = scatter-in-array;
        }

    pub table-unique : (t : Table) → IsTable limit n ss t → t ≡ table_under limit n ss
    unfolding table_under table_from_under entries_under
    table-unique t is =
        λ i. record {
          e = same-e i;
          entries = in-array-unique (λ k j g f. ap (λ e. rnd (S ss k j) (2 ^ e)) same-e) is.entries
              (rounded-in-array (shift_under limit (scatter n ss))) i;
          scatter = in-array-unique (λ k j g f. refl) is.scatter scatter-in-array i;
        }
      where
        same-e : t.e ≡ shift_under limit (scatter n ss)
        same-e = omega (arith, is.least (shift_under limit (scatter n ss)) shift-within, shift-least t.e is.within)
