-- What the exported functions ensure: the answer, and every number or byte of what is lent.
use Rattle.std.specs.Prelude.{◌≡◌, List, ℕ, ℤ, nat_abs, length}
use Rattle.play.specs.Buffer.{output_of, played_into}
use Rattle.job.specs.Job.{Job}
use Rattle.job.specs.Reply.{buffer_of, reply_of}
use Rattle.report.specs.Report.{report_of}
use Rattle.text.specs.Written.{lent_after}
use Rattle.panel.specs.Refusal.{panel_at_position}
use Rattle.panel.specs.Text.{panels_text}
use Rattle.season_report.specs.Texts.{texts_line}
use Rattle.field_axes.specs.Answer.{answered, count_or_refusal}
use Rattle.field_axes.specs.JobText.{text_for, text_refusal}
use Rattle.field_axes.specs.Panels.{panel_numbers, panel_refusal, panels_refusal}
use Rattle.field_axes.specs.Pooled.{pooled_refusal, pooled_report}
use Rattle.field_axes.specs.Report.{length_or_number, refused_line}
use Rattle.field_axes.specs.Season.{season_refusal}
use Rattle.field_axes.specs.Solution.{solution_of, solve_refusal}
use Rattle.field_axes.specs.Table.{table_numbers_of, table_refusal}

pub record Solves (n : ℕ) (numbers : List ℤ) (limit t : ℕ) (entry exit : List ℤ) (r : ℤ) : Type 0 where
  pub answer : r ≡ count_or_refusal (solve_refusal n numbers limit t (length entry)) (solution_of n numbers limit t)
  pub buffer : exit ≡ lent_after (solve_refusal n numbers limit t (length entry)) (solution_of n numbers limit t) entry

pub record Tabulates (n : ℕ) (dilutions counts : List ℕ) (entry exit : List ℤ) (r : ℤ) : Type 0 where
  pub answer : r ≡ count_or_refusal (table_refusal n dilutions counts (length entry)) (table_numbers_of n dilutions counts)
  pub buffer : exit ≡ lent_after (table_refusal n dilutions counts (length entry)) (table_numbers_of n dilutions counts) entry

-- the text's length, or the refusal's number negated
pub record WritesJob (n limit tolerance : ℕ) (dilutions counts entry exit : List ℕ) (r : ℤ) : Type 0 where
  pub answer : r ≡ count_or_refusal (text_refusal n limit tolerance dilutions counts (length entry)) (text_for n limit tolerance dilutions counts)
  pub buffer : exit ≡ lent_after (text_refusal n limit tolerance dilutions counts (length entry)) (text_for n limit tolerance dilutions counts) entry

-- the report's length, or the refusal's number negated
pub record ReportsPooled (a b : Job) (entry exit : List ℕ) (r : ℤ) : Type 0 where
  pub answer : r ≡ count_or_refusal (pooled_refusal a b (length entry)) (pooled_report a b)
  pub buffer : exit ≡ lent_after (pooled_refusal a b (length entry)) (pooled_report a b) entry

pub record ReportsText (text entry exit : List ℕ) (at : ℕ) (r : ℤ) : Type 0 where
  pub answer : r ≡ length_or_number (reply_of report_of text (length entry))
  pub line : at ≡ refused_line (reply_of report_of text (length entry))
  pub buffer : exit ≡ buffer_of report_of text entry

pub record PlaysText (text entry exit : List ℕ) (r : ℤ) : Type 0 where
  pub answer : r ≡ answered (output_of text (length entry))
  pub buffer : exit ≡ played_into text entry

-- the text's length, or the refusal's number negated
pub record ListsPanels (b : ℤ) (entry exit : List ℕ) (r : ℤ) : Type 0 where
  pub answer : r ≡ count_or_refusal (panels_refusal b (length entry)) (panels_text (nat_abs b))
  pub buffer : exit ≡ lent_after (panels_refusal b (length entry)) (panels_text (nat_abs b)) entry

-- 3, or the refusal's number negated
pub record GivesPanel (b position : ℤ) (entry exit : List ℤ) (r : ℤ) : Type 0 where
  pub answer : r ≡ count_or_refusal (panel_refusal b position (length entry)) (panel_numbers (panel_at_position b position))
  pub buffer : exit ≡ lent_after (panel_refusal b position (length entry)) (panel_numbers (panel_at_position b position)) entry

-- the line's length, or the refusal's number negated: 2, then 16, then 12
pub record ReportsSeason (bytes ends entry exit : List ℕ) (r : ℤ) : Type 0 where
  pub answer : r ≡ count_or_refusal (season_refusal bytes ends (length entry)) (texts_line bytes ends)
  pub buffer : exit ≡ lent_after (season_refusal bytes ends (length entry)) (texts_line bytes ends) entry
