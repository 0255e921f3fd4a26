-- `table::put_table` meets its contract: the shift, the sums and the entries, each after the one before it.
use Rattle.std.proofs.Common.{◌<◌, ◌^◌, arith}
use mir.Syntax.{w64}
use mir.Facts.{to_z_pos}
use Rattle.text.specs.laws.Put.{put-part}
use Rattle.field_axes.specs.Table.{table_numbers, table_numbers_of}
use Rattle.field_axes.proofs.table.put_table.Goals as goal

pub returns : goal.returns
unfolding table_numbers_of table_numbers
returns c =
    let small : c.table_of_readings-table.result.e < 2 ^ 63 = omega arith in
    rw (← c.table_of_readings-table.ensures)
    (put-part (put-part (rw (to_z_pos w64 small) at c.put-at.ensures) c.put-at-2.ensures) c.put.ensures)
