-- `season::print_season` is safe: the line lies within the buffer.
use Rattle.std.proofs.Common.{◌≡◌, ℕ, ◌≤◌, List, Result, Ok, sym, ap, arith, drop, length, length-append, length-take-le}
use Rattle.refusal.specs.declared.Refusal.{Refusal}
use Rattle.season_report.specs.Done.{WritesLine}
use Rattle.season_report.specs.Text.{season_line}
use Rattle.season_report.specs.declared.Season.{Season}
use Rattle.text.specs.laws.Written.{length-tells}
use Rattle.season.proofs.print_season.Goals as goal

-- a length that is answered is within the buffer
room : (s : Season) (entry exit : List ℕ) (z : Result ℕ Refusal) (k : ℕ) → WritesLine s entry exit z → z ≡ Ok k → k ≤ length exit
room s entry exit z k w e =
    let t = length-tells 0 (season_line s) entry (rw e at w.writes) in
    omega (arith, t.1, ap length t.2, length-append (season_line s) (drop (length (season_line s)) entry))

pub slice_bounds-out-end : goal.slice_bounds-out-end
slice_bounds-out-end g c = room c.args.season _ _ _ _ c.write_line.ensures c.in-Ok.is

pub slice_bounds-write_all-end : goal.slice_bounds-write_all-end
slice_bounds-write_all-end g c =
    sym (length-take-le _ _ (room c.args.season _ _ _ _ c.write_line.ensures c.in-Ok.is))
