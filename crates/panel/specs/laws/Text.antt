-- Laws of the panels' text: line after line, and how long a line is at most.
use Prim.Native.Nat.{ℕ, zero, suc, ◌+◌, ◌*◌, ◌<◌, ◌≤◌}
use Rattle.std.specs.Prelude.{◌≡◌, ℤ, pos, negsuc, nat_abs, drop, get_or, length, take}
use Rattle.std.proofs.Math.Path.{refl}
use Rattle.std.proofs.lemmas.Grind.{flat_map-append}
use Rattle.std.proofs.Common.{ap, ◌∙◌, arith, length-append}
use mathlib.Core.List.{List, [], ◌∷◌, ◌++◌, append_assoc, append-nil, flat_map, map}
use Rattle.integer.specs.Matrix.{Symmetric, matrix_of}
use Rattle.integer.specs.Tabulate.{tabulate}
use Rattle.integer.specs.laws.Tabulate.{tabulate-suc}
use Rattle.ledger.specs.Call.{load}
use Rattle.ledger.specs.laws.Accepted.{Loads}
use Rattle.limits.specs.Limits.{entry_limit}
use Rattle.record.specs.laws.Accepted.{load-taken}
use Rattle.run.specs.Run.{Allowed}
use Rattle.run.specs.Word.{outcome_word}
use Rattle.run.specs.laws.Word.{short-word}
use Rattle.run.specs.laws.Calls.{matrix-begins, run-calls}
use Rattle.run.specs.laws.Course.{run_ends}
use Rattle.text.specs.Decimal.{number}
use Rattle.text.specs.Line.{further, line, numbers}
use Rattle.text.specs.Lines.{lines}
use Rattle.text.specs.laws.Digits.{length_digits, one-digit}
use Rattle.text.specs.laws.Lines.{lines-most}
use Rattle.text.specs.laws.Numbers.{further-append}
use Rattle.panel.specs.Panels.{count_of}
use Rattle.panel.specs.Position.{panel_after}
use Rattle.panel.specs.Text.{panel_entries, fields_line, line_numbers, panel_line, panel_run, panels_text}
use Rattle.panel.specs.declared.Panel.{Panel}
use Rattle.panel.specs.laws.Places.{SmallPanel, after_small, panels-are}

-- ---- line after line

flat_map-lines : {A : Type 0} (f : A → List ℕ) (g : ℕ → A) (n : ℕ) → flat_map f (tabulate n g) ≡ lines (λ i. f (g i)) n
unfolding lines tabulate flat_map
flat_map-lines f g zero = refl
flat_map-lines f g (suc n) =
    ap (flat_map f) (tabulate-suc n g) ∙ flat_map-append f (tabulate n g) (g n ∷ []) ∙
    (λ t. flat_map-lines f g n t ++ append-nil (f (g n)) t)

pub text-lines : (b : ℕ) → panels_text b ≡ lines (λ i. panel_line (panel_after b i)) (count_of b)
unfolding panels_text
text-lines b = ap (flat_map panel_line) (panels-are b) ∙ flat_map-lines panel_line (panel_after b) (count_of b)

-- ---- the run

module _ (x : Panel) (s : SmallPanel 8 x) where
  small-entry : (i : ℕ) → nat_abs (get_or (panel_entries x) i (pos 0)) ≤ entry_limit
  small-entry zero = omega (arith, s.a11)
  small-entry (suc zero) = omega (arith, s.a12)
  small-entry (suc (suc zero)) = omega (arith, s.a12)
  small-entry (suc (suc (suc zero))) = omega (arith, s.a22)
  small-entry (suc (suc (suc (suc i)))) = omega arith

  mirrored : Symmetric 2 (matrix_of 2 (panel_entries x))
  unfolding matrix_of
  mirrored zero zero h k = refl
  mirrored zero (suc zero) h k = refl
  mirrored zero (suc (suc j)) h k = absurd (omega arith)
  mirrored (suc zero) zero h k = refl
  mirrored (suc zero) (suc zero) h k = refl
  mirrored (suc zero) (suc (suc j)) h k = absurd (omega arith)
  mirrored (suc (suc i)) j h k = absurd (omega arith)

  panel-loads : Loads 2 (panel_entries x)
  panel-loads = record { low = omega arith; high = omega arith; count = refl; small = small-entry; same = mirrored }

  pub panel-allowed : Allowed 2 (panel_entries x) 16 0
  panel-allowed = record { matrix = load-taken 0 0 2 (panel_entries x) panel-loads; sweeps = omega arith; tolerance = omega arith }

  pub sweeps-most : (panel_run x).sweeps ≤ 16
  unfolding panel_run
  sweeps-most = (run_ends (load 2 (panel_entries x)) 16 0).within

  pub turns-most : (panel_run x).last.solver.m ≤ 16
  unfolding panel_run
  turns-most =
      let begins = matrix-begins 2 (panel_entries x) 16 0 panel-allowed in
      omega (arith, (run-calls (load 2 (panel_entries x)) 2 16 0 begins).turns, sweeps-most)

-- ---- a line

-- numbers and a word, as they are written: the first number, and a tab before each further field
pub fields-line : (z : ℤ) (zs : List ℤ) (word : List ℕ) →
    fields_line (z ∷ zs) word ≡ number z ++ numbers zs ++ (9 ∷ word) ++ (10 ∷ [])
unfolding fields_line line numbers further
fields-line z zs word =
    ap (λ (l : List ℕ). number z ++ l ++ (10 ∷ [])) (further-append (map number zs) (word ∷ [])) ∙ simp (append_assoc, append-nil)

-- and their length: of each field and a byte after it
pub fields-length : (z : ℤ) (zs : List ℤ) (word : List ℕ) →
    length (fields_line (z ∷ zs) word) ≡ length (numbers (z ∷ zs)) + length word + 1
unfolding numbers further
fields-length z zs word = rw fields-line (simp length-append (unfold numbers in omega arith))

-- the same of a list that has a first number
pub first-and-further : (zs : List ℤ) (word : List ℕ) → 1 ≤ length zs →
    fields_line zs word ≡ number (get_or zs 0 (pos 0)) ++ numbers (drop 1 zs) ++ (9 ∷ word) ++ (10 ∷ [])
first-and-further [] word h = absurd (omega arith)
first-and-further (z ∷ zs) word h = fields-line z zs word

pub first-and-further-length : (zs : List ℤ) (word : List ℕ) → 1 ≤ length zs →
    length (fields_line zs word) ≡ length (number (get_or zs 0 (pos 0))) + length (numbers (drop 1 zs)) + length word + 2
first-and-further-length zs word h = rw (first-and-further zs word h) (simp length-append (omega arith))

-- an entry has at most 2 bytes
entry-few : (z : ℤ) → nat_abs z ≤ 8 → length (number z) ≤ 2
unfolding number
entry-few (pos n) h = rw (one-digit n (omega arith)) (omega arith)
entry-few (negsuc n) h = rw (one-digit (suc n) (omega arith)) (omega arith)

count-few : (n : ℕ) → n ≤ 16 → length (number (pos n)) ≤ 2
unfolding number
count-few n h = length_digits 1 n (omega arith)

pub line-length : (x : Panel) → length (panel_line x) ≡ length (numbers (take 5 (line_numbers x))) + length (outcome_word (panel_run x).outcome) + 1
unfolding panel_line line_numbers
line-length x = fields-length x.a11 _ (outcome_word (panel_run x).outcome)

-- 2 bytes for each of five numbers, 7 for the word, 6 for tabs and line feed
pub line-few : (x : Panel) → SmallPanel 8 x → length (panel_line x) ≤ 23
unfolding line_numbers numbers further
line-few x s =
    rw (line-length x)
    (simp length-append (omega (
      arith,
      entry-few x.a11 s.a11,
      entry-few x.a12 s.a12,
      entry-few x.a22 s.a22,
      count-few (panel_run x).sweeps (sweeps-most x s),
      count-few (panel_run x).last.solver.m (turns-most x s),
      short-word (panel_run x).outcome,
    )))

-- the line at a place of the list
abbrev pub line_at : ℕ → ℕ → List ℕ
line_at b i = panel_line (panel_after b i)

module _ (b : ℕ) (size : b ≤ 8) where
  pub after-few : (i : ℕ) → i < count_of b → SmallPanel 8 (panel_after b i)
  after-few i h =
      let s = after_small b i h in
      record { a11 = omega (arith, s.a11); a12 = omega (arith, s.a12); a22 = omega (arith, s.a22) }

  pub text-few : length (panels_text b) ≤ 23 * count_of b
  text-few = rw (text-lines b) (lines-most (line_at b) 23 (count_of b) (λ i l. line-few (panel_after b i) (after-few i l)))
