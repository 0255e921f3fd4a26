-- The parts of a table, as the functions give them, are those of the definition.
use mathlib.Core.Path.{◌≡◌, sym, ap, ◌∙◌}
use mathlib.Core.List.{List}
use Prim.Native.Nat.{ℕ, ◌-◌, ◌*◌, ◌^◌, ◌<◌, ◌≤◌}
use native.Mathlib.Omega.{arith}
use lib.IntN.{ℤ, pos}
use lib.ListN.{length, get_or}
use lib.Seq.{ext_get_or}
use Rattle.integer.specs.Padded.{padded}
use Rattle.integer.specs.Tabulate.{tabulate}
use Rattle.integer.specs.laws.Padded.{length-padded, padded-at}
use Rattle.integer.specs.laws.Tabulate.{length-tabulate, get_d_tabulate}
use Rattle.limits.specs.Limits.{entry_limit}
use Rattle.limits.specs.laws.Channels.{places}
use Rattle.limits.specs.laws.Values.{former-below, some-entry}
use Rattle.rounding.specs.Rounding.{rnd}
use Rattle.sums.specs.declared.Sums.{Sums}
use Rattle.sums.specs.inner.Ranges.{Bounded}
use Rattle.scatter.specs.declared.table.Table.{Table}
use Rattle.scatter.specs.Table.{largest, shift, entries, table_from, table_from_under}
use Rattle.scatter.specs.inner.BySums.{scatter_by_sums}
use Rattle.scatter.specs.inner.Ranges.{Roundable, ZeroFrom}
use Rattle.scatter.specs.inner.Shift.{LeastShift}
use Rattle.scatter.specs.laws.Bounds.{scatter-small, padded-small}
use Rattle.scatter.specs.laws.Entries.{entry_at, length-entries, largest-padded}
use Rattle.scatter.specs.laws.Shift.{shift_is, shift_small, largest-least}
use Rattle.scatter.proofs.Places.{count, no-entry}

rounded-all : (us : List ℤ) → length us ≤ 64 →
    tabulate 64 (λ p. rnd (get_or (padded 64 (pos 0) us) p (pos 0)) (2 ^ shift us)) ≡ padded 64 (pos 0) (entries us)
rounded-all us h =
    ext_get_or (pos 0) _ _ (length-tabulate 64 _ ∙ sym (length-padded 64 (pos 0) (entries us) (rw length-entries h)))
    (λ p b. get_d_tabulate 64 _ p (pos 0) (rw length-tabulate at b)
    ∙ ap (λ u. rnd u (2 ^ shift us)) (padded-at 64 (pos 0) us p) ∙ sym (padded-at 64 (pos 0) (entries us) p ∙ entry_at entry_limit us p))

module _ (n : ℕ) (t : Sums) (h : n ≤ 8) (b : Bounded t) {s : List ℤ} (is : s ≡ padded 64 (pos 0) (scatter_by_sums n t)) where
  fits : length (scatter_by_sums n t) ≤ 64
  fits = rw count (places n h)

  pub all_small : Roundable s
  all_small = rw is (padded-small (scatter_by_sums n t) (scatter-small t b n) fits)

  pub zero-from : ZeroFrom (n * n) s
  zero-from = record { most = places n h; zero = λ p l. rw is (no-entry n t p l) }

  module _ {m : ℕ} (most : m ≡ largest s) where
    pub most-small : m < 2 ^ 62
    most-small = omega (arith, most, largest-least s (2 ^ 62 - 1) (λ p. omega (arith, all_small.small p)))

    module _ {e : ℕ} (found : LeastShift entry_limit m e) where
      pub shift-below : e < 62
      shift-below = omega (arith, shift_small former-below m e found most-small)

      the-shift : e ≡ shift (scatter_by_sums n t)
      the-shift = shift_is some-entry (scatter_by_sums n t) e (rw (most, is, largest-padded) at found)

      pub assembled : (rs : List ℤ) → rs ≡ tabulate 64 (λ p. rnd (get_or s p (pos 0)) (2 ^ e)) →
          ◌≡◌ {A = Table} (record { e = e; entries = rs; scatter = s }) (table_from (scatter_by_sums n t))
      unfolding table_from_under
      assembled rs g = rw (g, the-shift, is, rounded-all (scatter_by_sums n t) fits)
