-- The season after a list of texts: the figures of the first of them, up to the limit; and what the next text is answered.
use Prim.Native.Nat.{ℕ, zero, suc, ◌+◌, ◌<◌, ◌≤◌}
use Rattle.std.specs.Prelude.{◌≡◌, refl, length, take}
use Rattle.std.proofs.Math.Path.{sym, ap}
use Rattle.std.proofs.Common.{◌∙◌, arith, length-take-le, take_all}
use Rattle.std.proofs.Math.Bool.{cond}
use mathlib.Core.List.{List, [], ◌∷◌, ◌++◌, append-nil, map}
use Rattle.std.proofs.Math.Decide.{dec_lt}
use borrow.Author.Tests.{le-ltb, lt-ltb}
use Rattle.std.proofs.Math.Dec.{ltb}
use Rattle.std.proofs.Math.ListN.{length-append, length-map}
use Rattle.std.proofs.Math.Seq.{append_snoc}
use Rattle.job.specs.Job.{job_of}
use Rattle.season_report.specs.Figures.{figures_of, text_figures}
use Rattle.season_report.specs.Job.{JobEnd, end_of}
use Rattle.season_report.specs.Season.{The-season, added, text_answer, empty_season, season_after_under, season_from_under, taken_as_under, too_many}
use Rattle.season_report.specs.declared.Season.{Season}
use Rattle.season_report.proofs.Figures.{figures-more}
use Rattle.season_report.specs.laws.Together.{together}

pub jobs-counted : (jobs : List JobEnd) → (figures_of jobs).jobs ≡ length jobs
unfolding figures_of
jobs-counted jobs = refl

module _ (limit : ℕ) where
  -- a text within the limit is added, and one beyond it is not
  within : (done : List JobEnd) (text : List ℕ) → length done < limit →
      season_after_under limit (figures_of done) text ≡ figures_of (done ++ end_of text ∷ [])
  unfolding season_after_under
  within done text h =
      ap (λ t. cond t (added (figures_of done) (end_of text)) (figures_of done))
      (ap (λ n. ltb n limit) (jobs-counted done) ∙ lt-ltb (length done) limit h)
      ∙ sym (figures-more done (end_of text))

  beyond : (done : List JobEnd) (text : List ℕ) → limit ≤ length done → season_after_under limit (figures_of done) text ≡ figures_of done
  unfolding season_after_under
  beyond done text h =
      ap (λ t. cond t (added (figures_of done) (end_of text)) (figures_of done))
      (ap (λ n. ltb n limit) (jobs-counted done) ∙ le-ltb (length done) limit h)

  -- after some jobs: as many of the texts as the limit leaves
  goes_on : (texts : List (List ℕ)) (done : List JobEnd) (left : ℕ) → length done + left ≡ limit →
      season_from_under limit (figures_of done) texts ≡ figures_of (done ++ map end_of (take left texts))
  unfolding season_from_under
  goes_on [] done zero e = ap figures_of (sym (append-nil done))
  goes_on [] done (suc left) e = ap figures_of (sym (append-nil done))
  goes_on (text ∷ texts) done zero e =
      rw (beyond done text (omega arith)) (goes_on texts done zero e)
  goes_on (text ∷ texts) done (suc left) e =
      rw (within done text (omega arith))
      (goes_on texts (done ++ end_of text ∷ []) left (omega (arith, length-append done (end_of text ∷ [])))
      ∙ ap figures_of (append_snoc done (end_of text) (map end_of (take left texts))))

  pub reported : (texts : List (List ℕ)) → season_from_under limit empty_season texts ≡ text_figures (take limit texts)
  unfolding empty_season text_figures
  reported texts = goes_on texts [] limit (omega arith)

  counted : (texts : List (List ℕ)) → (season_from_under limit empty_season texts).jobs ≡ length (take limit texts)
  unfolding text_figures
  counted texts = ap (λ (s : Season). s.jobs) (reported texts) ∙ jobs-counted (map end_of (take limit texts)) ∙ length-map (take limit texts) end_of

  shorter : (texts : List (List ℕ)) → ltb (length (take limit texts)) limit ≡ ltb (length texts) limit
  shorter texts = by (dec_lt (length texts) limit)
    where
      by : Dec (length texts < limit) → ltb (length (take limit texts)) limit ≡ ltb (length texts) limit
      by (yes l) = ap (λ (t : List (List ℕ)). ltb (length t) limit) (take_all limit texts (omega arith))
      by (no l) =
          le-ltb (length (take limit texts)) limit (omega (arith, length-take-le limit texts (omega arith)))
          ∙ sym (le-ltb (length texts) limit (omega arith))

-- of no more texts than the limit: the figures of all
pub reported-all : (limit : ℕ) (texts : List (List ℕ)) → length texts ≤ limit → season_from_under limit empty_season texts ≡ text_figures texts
reported-all limit texts h = reported limit texts ∙ ap text_figures (take_all limit texts h)

pub season-reported : The-season
unfolding The-season taken_as_under
season-reported limit texts =
    record {
      figures = reported limit texts;
      together = rw (reported limit texts) (together (take limit texts));
      answered =
          λ text.
          rw (counted limit texts) (ap (λ t. cond t (text_answer (job_of text)) too_many) (shorter limit texts));
    }
