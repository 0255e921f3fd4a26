-- `season_report::line::numbers_of` meets its contract: no figure is too large for a signed number.
use Prim.Native.Nat.{ℕ, ◌^◌, ◌<◌}
use mathlib.Core.List.{[], ◌∷◌}
use native.Mathlib.Omega.{arith}
use Rattle.std.proofs.Common.{Option, None, Some, IfSome, ◌≡◌, refl, sym, ap, subst, ◌∙◌}
use mathlib.Core.List.{List, map}
use Rattle.std.specs.Option.{unwrap_or}
use Rattle.season_report.specs.declared.LargestError.{LargestError}
use Rattle.season_report.specs.Limits.{LargestLimits}
use lib.IntN.{pos}
use lib.ListN.{get_or}
use mir.Syntax.{w64}
use mir.Val.{SFits}
use mir.Facts.{to_z-of_z}
use Rattle.season_report.specs.Text.{largest_numbers, season_numbers}
use Rattle.season_report.proofs.line.numbers_of.Goals as goal

-- a figure that is small, as a signed number
held : (n : ℕ) → n < 2 ^ 63 → SFits w64 (pos n)
held n h = record { sfits = h }

-- the three figures of the largest error, and their limits
abbrev largest_or_0 : Option LargestError → LargestError
largest_or_0 l = unwrap_or l (record { error = 0; job = 0; axis = 0 })

three : (l : Option LargestError) → (let x = largest_or_0 l in x.error ∷ x.job ∷ x.axis ∷ [] ≡ largest_numbers l)
three None = refl
three (Some x) = refl

limits : (l : Option LargestError) (jobs : ℕ) → IfSome l (LargestLimits jobs) → LargestLimits jobs (largest_or_0 l)
limits None jobs h = record { error = omega arith; job = omega arith; axis = omega arith }
limits (Some x) jobs h = h

pub returns : goal.returns
unfolding season_numbers
returns c =
    let s = c.s.inside in
    let l = c.s.invariant in
    let x = c.unwrap_or-largest.result in
    let e : x ≡ largest_or_0 s.largest = c.unwrap_or-largest.ensures in
    let m = subst (LargestLimits s.jobs) (sym e) (limits s.largest s.jobs l.largest) in
    rw (← c.s.view_is) ((λ i.
    to_z-of_z (held s.jobs (omega (arith, l.jobs))) i
    ∷ to_z-of_z (held s.settled (omega (arith, l.jobs, l.settled))) i
    ∷ to_z-of_z (held s.still (omega (arith, l.jobs, l.still))) i
    ∷ to_z-of_z (held s.spent (omega (arith, l.jobs, l.spent))) i
    ∷ to_z-of_z (held (get_or s.refused 0 0) (omega (arith, l.jobs, l.refused 0))) i
    ∷ to_z-of_z (held (get_or s.refused 1 0) (omega (arith, l.jobs, l.refused 1))) i
    ∷ to_z-of_z (held (get_or s.refused 2 0) (omega (arith, l.jobs, l.refused 2))) i
    ∷ to_z-of_z (held (get_or s.refused 3 0) (omega (arith, l.jobs, l.refused 3))) i
    ∷ to_z-of_z (held s.turns (omega (arith, l.jobs, l.turns))) i
    ∷ to_z-of_z (held x.error m.error) i
    ∷ to_z-of_z (held x.job (omega (arith, l.jobs, m.job))) i
    ∷ to_z-of_z (held x.axis (omega (arith, m.axis))) i
    ∷ [])
    ∙ ap (λ (ns : List ℕ). map pos (s.jobs ∷ s.settled ∷ s.still ∷ s.spent ∷ get_or s.refused 0 0 ∷ get_or s.refused 1 0 ∷ get_or s.refused 2 0
    ∷ get_or s.refused 3 0 ∷ s.turns ∷ ns)) (ap (λ (y : LargestError). y.error ∷ y.job ∷ y.axis ∷ []) e ∙ three s.largest))
