-- The ends of texts one by one, and the season that is left to make.
use Prim.Native.Nat.{ℕ, suc, ◌+◌, ◌-◌, ◌<◌, ◌≤◌}
use mathlib.Core.Path.{◌≡◌, refl, sym, ap, ◌∙◌}
use mathlib.Core.Bool.{Bool, true, false, cond, ◌&&◌}
use mathlib.Core.List.{List, [], ◌∷◌}
use native.Mathlib.Numerals.{add-one}
use native.Mathlib.Omega.{arith}
use borrow.Author.Tests.{le-leb, leb-true, lt-leb}
use lib.Dec.{leb}
use lib.ListN.{drop, get_or, length, take}
use lib.Seq.{drop-cons, drop-length}
use Rattle.std.proofs.lemmas.Bool.{and_parts}
use Rattle.integer.specs.Within.{within}
use Rattle.integer.specs.laws.Within.{is_within}
use Rattle.limits.specs.Limits.{most_jobs}
use Rattle.season_report.specs.Season.{empty_season, season_after_under, season_from_under}
use Rattle.season_report.specs.Text.{season_line}
use Rattle.season_report.specs.Texts.{WritesSeason, ends_refusal, ends_within, texts_from, texts_line, texts_season}
use Rattle.season_report.proofs.Reported.{reported-all}
use Rattle.season_report.specs.Done.{WritesLine}
use Rattle.refusal.specs.Refusal.{judged}
use Rattle.refusal.specs.declared.Refusal.{Refusal}
use Rattle.refusal.specs.declared.Refusal.TheVariants.{OutOfRange, TooManyJobs}
use Rattle.std.specs.Prelude.{Result, Ok, Err}
use Rattle.season_report.specs.declared.Season.{Season}

pub texts-count : (start : ℕ) (bytes ends : List ℕ) → length (texts_from start bytes ends) ≡ length ends
unfolding texts_from
texts-count start bytes [] = refl
texts-count start bytes (end ∷ ends) = ap suc (texts-count end bytes ends)

module _ (start size : ℕ) (ends : List ℕ) (i : ℕ) (h : i < length ends) where
  pub next-end : ends_within start size (drop i ends) ≡ within start size (get_or ends i 0) && ends_within (get_or ends i 0) size (drop (i + 1) ends)
  unfolding ends_within
  next-end = rw (drop-cons ends i 0 h, add-one i)

  pub low_end : get_or ends i 0 < start → false ≡ ends_within start size (drop i ends)
  unfolding within
  low_end l = sym (next-end ∙ rw (lt-leb start (get_or ends i 0) l))

  module _ (low : start ≤ get_or ends i 0) where
    pub high_end : size < get_or ends i 0 → false ≡ ends_within start size (drop i ends)
    unfolding within
    high_end l = sym (next-end ∙ rw (le-leb start (get_or ends i 0) low, lt-leb (get_or ends i 0) size l))

    pub good-end : get_or ends i 0 ≤ size → ends_within start size (drop i ends) ≡ ends_within (get_or ends i 0) size (drop (i + 1) ends)
    unfolding within
    good-end l = next-end ∙ rw (le-leb start (get_or ends i 0) low, le-leb (get_or ends i 0) size l)

-- the texts from the i-th on are still to be taken
pub record TextsLeft (bytes ends : List ℕ) (s : Season) (start i : ℕ) : Type 0 where
  pub few : i ≤ length ends
  pub ordered : ends_within start (length bytes) (drop i ends) ≡ true
  pub same : season_from_under most_jobs s (texts_from start bytes (drop i ends)) ≡ season_from_under most_jobs empty_season (texts_from 0 bytes ends)

module _ (bytes ends : List ℕ) where
  pub all_left : ends_within 0 (length bytes) ends ≡ true → (s : Season) → s ≡ empty_season → TextsLeft bytes ends s 0 0
  all_left h s e = record { few = omega arith; ordered = h; same = ap (λ z. season_from_under most_jobs z (texts_from 0 bytes ends)) e }

  module _ (s : Season) (start i : ℕ) (left : TextsLeft bytes ends s start i) where
    pub end-between : i < length ends → (start ≤ get_or ends i 0) × (get_or ends i 0 ≤ length bytes)
    end-between h =
        is_within start (length bytes) (get_or ends i 0)
        (and_parts (within start (length bytes) (get_or ends i 0)) _ (sym (next-end start (length bytes) ends i h) ∙ left.ordered)).0

    pub one-taken : i < length ends → (z : Season) → z ≡ season_after_under most_jobs s (take (get_or ends i 0 - start) (drop start bytes)) →
        TextsLeft bytes ends z (get_or ends i 0) (i + 1)
    unfolding season_from_under texts_from
    one-taken h z e =
        let d = drop-cons ends i 0 h in
        record {
          few = omega arith;
          ordered = (and_parts (within start (length bytes) (get_or ends i 0)) _ (sym (next-end start (length bytes) ends i h) ∙ left.ordered)).1;
          same = rw (e, add-one i) (rw d at left.same);
        }

    pub none_left : i ≡ length ends → s ≡ texts_season bytes ends
    unfolding season_from_under texts_from texts_season
    none_left e = rw (e, drop-length ends) at left.same

-- the refusal of the ends
module _ (size : ℕ) (ends : List ℕ) where
  abbrev pub checked : Result (Unit {0}) Refusal
  checked = judged (ends_refusal size ends) (record {})

  pub refusal-2 : ends_within 0 size ends ≡ false → Err OutOfRange ≡ checked
  unfolding ends_refusal judged
  refusal-2 e = rw e

  pub refusal-16 : ends_within 0 size ends ≡ true → most_jobs < length ends → Err TooManyJobs ≡ checked
  unfolding ends_refusal judged
  refusal-16 e h = rw (e, lt-leb (length ends) most_jobs h)

  pub refusal-none : ends_within 0 size ends ≡ true → length ends ≤ most_jobs → Ok tt ≡ checked
  unfolding ends_refusal judged
  refusal-none e h = rw (e, le-leb (length ends) most_jobs h)

  pub taken : ends_refusal size ends ≡ 0 → (ends_within 0 size ends ≡ true) × (length ends ≤ most_jobs)
  unfolding ends_refusal
  taken e = by (ends_within 0 size ends) refl (leb (length ends) most_jobs) refl e
    where
      by : (t : Bool) → ends_within 0 size ends ≡ t → (u : Bool) → leb (length ends) most_jobs ≡ u → ◌≡◌ {A = ℕ} (cond t (cond u 0 16) 2) 0 →
          (ends_within 0 size ends ≡ true) × (length ends ≤ most_jobs)
      by true p true q e = (p, leb-true (length ends) most_jobs q)
      by true p false q e = absurd (omega arith)
      by false p u q e = absurd (omega arith)

pub line_of : (bytes ends : List ℕ) (z : Season) → z ≡ texts_season bytes ends → length ends ≤ most_jobs → season_line z ≡ texts_line bytes ends
unfolding texts_line texts_season
line_of bytes ends z o h =
    ap season_line (o ∙ reported-all most_jobs (texts_from 0 bytes ends) (rw (texts-count 0 bytes ends) h))

pub all-written : (bytes ends : List ℕ) (z : Season) {entry exit : List ℕ} {r : Result ℕ Refusal} → ends_refusal (length bytes) ends ≡ 0 →
    z ≡ texts_season bytes ends → WritesLine z entry exit r → WritesSeason bytes ends entry exit r
all-written bytes ends z e o w =
    let l = line_of bytes ends z o (taken (length bytes) ends e).1 in
    record { writes = rw (e, ← l) w.writes; few = λ h. rw (← l) w.few }
