-- How a book holds samples: what it holds is read back, and what adding one and striking one makes of its arrays.
use Rattle.std.specs.Prelude.{◌≡◌, length}
use Rattle.std.proofs.Math.Path.{refl, sym, ap₂}
use Rattle.std.proofs.Common.{ap, ◌∙◌, mul-zero, arith, length-append, take_at, drop_at, drop-drop}
use mathlib.Core.List.{List, [], ◌∷◌, ◌++◌, append_assoc}
use Prim.Native.Nat.{ℕ, zero, suc, ◌*◌, ◌≤◌}
use Rattle.std.proofs.Math.Nat.{add_comm, mul-suc}
use Rattle.std.proofs.Math.ListN.{drop}
use Rattle.integer.specs.Padded.{padded}
use Rattle.integer.specs.Tabulate.{tabulate}
use Rattle.integer.specs.laws.Tabulate.{tabulate-ext}
use Rattle.limits.specs.Limits.{most_channels, most_samples}
use Rattle.readings.specs.Samples.{Sample, sample, sample_at}
use Rattle.sums.specs.Sums.{sums_of}
use Rattle.sums.specs.laws.Sums.{number_of}
use Rattle.sums.specs.declared.Sums.{Sums}
use Rattle.book.specs.Book.{book_with, counts_of, dilutions_of, samples_in}
use Rattle.book.specs.Consistent.{AllProper, Consistent, ProperSample}

pub length-dilutions : (ss : List Sample) → length (dilutions_of ss) ≡ length ss
unfolding dilutions_of
length-dilutions [] = refl
length-dilutions (s ∷ ss) = ap suc (length-dilutions ss)

pub dilutions-append : (ss rs : List Sample) → dilutions_of (ss ++ rs) ≡ dilutions_of ss ++ dilutions_of rs
unfolding dilutions_of
dilutions-append [] rs = refl
dilutions-append (s ∷ ss) rs = ap (λ l. s.dilution ∷ l) (dilutions-append ss rs)

pub counts-append : (ss rs : List Sample) → counts_of (ss ++ rs) ≡ counts_of ss ++ counts_of rs
unfolding counts_of
counts-append [] rs = refl
counts-append (s ∷ ss) rs = rw (counts-append ss rs, append_assoc)

module _ (n : ℕ) where
  pub length-counts : (ss : List Sample) → AllProper n ss → length (counts_of ss) ≡ n * length ss
  unfolding counts_of
  length-counts [] p = sym (mul-zero n)
  length-counts (s ∷ ss) p = rw (length-append, mul-suc, p.0.counted, length-counts ss p.1) (omega arith)

  pub proper-append : (ss rs : List Sample) → AllProper n ss → AllProper n rs → AllProper n (ss ++ rs)
  proper-append [] rs p q = q
  proper-append (s ∷ ss) rs p q = (p.0, proper-append ss rs p.1 q)

  pub proper-front : (ss rs : List Sample) → AllProper n (ss ++ rs) → AllProper n ss
  proper-front [] rs p = tt
  proper-front (s ∷ ss) rs p = (p.0, proper-front ss rs p.1)

  pub proper-rest : (ss rs : List Sample) → AllProper n (ss ++ rs) → AllProper n rs
  proper-rest [] rs p = p
  proper-rest (s ∷ ss) rs p = proper-rest ss rs p.1

  -- whatever stands after them: the first, and those after it
  module _ (s : Sample) (ss : List Sample) (xs ys : List ℕ) (p : ProperSample n s) where
    first-held : sample_at n (dilutions_of (s ∷ ss) ++ xs) (counts_of (s ∷ ss) ++ ys) zero ≡ s
    unfolding sample_at dilutions_of counts_of
    first-held = rw (mul-zero, append_assoc) (ap (sample s.dilution) (take_at s.counts (counts_of ss ++ ys) n p.counted))

    next-held : (i : ℕ) → sample_at n (dilutions_of (s ∷ ss) ++ xs) (counts_of (s ∷ ss) ++ ys) (suc i) ≡
        sample_at n (dilutions_of ss ++ xs) (counts_of ss ++ ys) i
    unfolding sample_at dilutions_of counts_of
    next-held i =
        let d : drop (n * suc i) ((s.counts ++ counts_of ss) ++ ys) ≡ drop (n * i) (counts_of ss ++ ys) =
        rw (mul-suc, append_assoc, add_comm (n * i) n, ← drop-drop) (ap (drop (n * i)) (drop_at s.counts (counts_of ss ++ ys) n p.counted)) in
        rw d

  pub held : (ss : List Sample) (xs ys : List ℕ) → AllProper n ss →
      tabulate (length ss) (sample_at n (dilutions_of ss ++ xs) (counts_of ss ++ ys)) ≡ ss
  unfolding tabulate
  held [] xs ys p = refl
  held (s ∷ ss) xs ys p = ap₂ ◌∷◌ first (tabulate-ext (length ss) _ _ (λ i h. next i) ∙ held ss xs ys p.1)
    where
      first : sample_at n (dilutions_of (s ∷ ss) ++ xs) (counts_of (s ∷ ss) ++ ys) zero ≡ s
      first = first-held s ss xs ys p.0

      next : (i : ℕ) → sample_at n (dilutions_of (s ∷ ss) ++ xs) (counts_of (s ∷ ss) ++ ys) (suc i) ≡
          sample_at n (dilutions_of ss ++ xs) (counts_of ss ++ ys) i
      next i = next-held s ss xs ys p.0 i

  -- what a book is made with is read back
  pub read_back : (t : Sums) (ss : List Sample) → t.k ≡ length ss → AllProper n ss → samples_in (book_with n t ss) ≡ ss
  unfolding samples_in book_with padded
  read_back t ss e p = rw e (held ss _ _ p)

-- proper samples with their own sums
module _ (n : ℕ) (ss : List Sample) (p : AllProper n ss) where
  pub made-samples : samples_in (book_with n (sums_of ss) ss) ≡ ss
  made-samples = read_back n (sums_of ss) ss (number_of ss) p

  pub consistent-made : n ≤ most_channels → length ss ≤ most_samples → Consistent (book_with n (sums_of ss) ss)
  unfolding book_with
  consistent-made h g = record { channels = h; number = rw made-samples g; proper = rw made-samples p; is = rw made-samples refl }
