-- Worked example: a line of document 01's report.
use Rattle.std.specs.Prelude.{◌≡◌, refl, [], ◌∷◌, pos, negsuc}
use Rattle.text.specs.Decimal.{digits_by, digits, number}
use Rattle.text.specs.Line.{further, line, number_line}

-- A, 1, 26624, 7172 and -858993459
axis-line : number_line 65 (pos 1 ∷ pos 26624 ∷ pos 7172 ∷ negsuc 858993458 ∷ [])
    ≡ 65 ∷ 9 ∷ 49 ∷ 9 ∷ 50 ∷ 54 ∷ 54 ∷ 50 ∷ 52 ∷ 9 ∷ 55 ∷ 49 ∷ 55 ∷ 50 ∷ 9 ∷ 45 ∷ 56 ∷ 53 ∷ 56 ∷ 57 ∷ 57 ∷ 51 ∷ 52 ∷ 53 ∷ 57 ∷ 10 ∷ []
unfolding number_line line further number digits digits_by
axis-line = refl
