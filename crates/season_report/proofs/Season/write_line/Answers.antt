-- `season_report::Season::write_line` meets its contract: 12, or the line.
use Prim.Native.Nat.{ℕ, ◌≤◌}
use mathlib.Core.Path.{◌≡◌, refl, ap, ◌∙◌}
use mathlib.Core.List.{List, map}
use native.Mathlib.Omega.{arith}
use lib.IntN.{ℤ, pos}
use lib.ListN.{length}
use Rattle.text.specs.Decimal.{number}
use Rattle.text.specs.Line.{line}
use Rattle.text.specs.Put.{Sized}
use Rattle.text.specs.laws.Written.{short, written}
use Rattle.season_report.specs.Text.{season_line, season_numbers}
use Rattle.season_report.specs.declared.Season.{Season}
use Rattle.season_report.specs.laws.Text.{line-is, twelve}
use Rattle.season_report.proofs.Season.write_line.Goals as goal

-- the numbers, and their line
module _ (s : Season) {numbers : List ℤ} (is : numbers ≡ map pos (season_numbers s)) where
  text : line (map number numbers) ≡ season_line s
  text = ap (λ (l : List ℤ). line (map number l)) is ∙ line-is s

  few : {k : ℕ} → Sized (line (map number numbers)) 252 k → length (season_line s) ≤ 252
  few z = omega (arith, z.exact, z.bounded, ap length text)

pub line_length-requires : goal.line_length-requires
line_length-requires c = ap length c.numbers_of-numbers.ensures ∙ twelve c.args.self

pub returns-then-out-line_length : goal.returns-then-out-line_length
returns-then-out-line_length c =
    let t = text c.args.self c.numbers_of-numbers.ensures in
    record {
      writes = short 0 _ _ refl (omega (arith, c.line_length.ensures.exact, ap length t));
      few = few c.args.self c.numbers_of-numbers.ensures c.line_length.ensures;
    }

pub returns : goal.returns
returns c =
    record {
      writes = written 0 _ _ refl (rw (text c.args.self c.numbers_of-numbers.ensures) at c.put_line.ensures);
      few = few c.args.self c.numbers_of-numbers.ensures c.line_length.ensures;
    }
