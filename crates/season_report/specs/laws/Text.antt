-- Laws of the line of a season: its first number, the others and the line feed; and that it is the line of the figures.
use Rattle.std.specs.Prelude.{ℕ, ◌+◌, ◌≤◌, ◌≡◌, refl, List, [], ◌∷◌, ◌++◌, map, ℤ, pos, drop, get_or, length, Option, None, Some}
use Rattle.std.proofs.Common.{ap, arith, length-append}
use Rattle.text.specs.Decimal.{digits, number}
use Rattle.text.specs.Line.{further, line, numbers}
use Rattle.season_report.specs.Text.{largest_numbers, season_line, season_numbers}
use Rattle.season_report.specs.declared.LargestError.{LargestError}
use Rattle.season_report.specs.declared.Season.{Season}

pub line_first : (zs : List ℤ) → 1 ≤ length zs → line (map number zs) ≡ number (get_or zs 0 (pos 0)) ++ numbers (drop 1 zs) ++ (10 ∷ [])
unfolding line numbers
line_first [] h = absurd (omega arith)
line_first (z ∷ zs) h = refl

-- the line feed for the first tab
pub line-length : (zs : List ℤ) → 1 ≤ length zs → length (line (map number zs)) ≡ length (numbers zs)
unfolding line numbers further
line-length [] h = absurd (omega arith)
line-length (z ∷ zs) h = simp length-append (omega arith)

pub line-parts : (zs : List ℤ) → 1 ≤ length zs →
    length (line (map number zs)) ≡ length (number (get_or zs 0 (pos 0))) + length (numbers (drop 1 zs)) + 1
line-parts zs h = rw (line_first zs h) (simp length-append)

digits-of : (ns : List ℕ) → map number (map pos ns) ≡ map digits ns
unfolding number
digits-of [] = refl
digits-of (n ∷ ns) = ap (λ l. digits n ∷ l) (digits-of ns)

pub line-is : (s : Season) → line (map number (map pos (season_numbers s))) ≡ season_line s
unfolding season_line
line-is s = ap line (digits-of (season_numbers s))

three : (l : Option LargestError) → length (map pos (largest_numbers l)) ≡ 3
three None = refl
three (Some x) = refl

pub twelve : (s : Season) → length (map pos (season_numbers s)) ≡ 12
unfolding season_numbers
twelve s = omega (arith, three s.largest)
