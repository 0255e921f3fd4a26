-- Its row of the matrix.
use Rattle.integer.specs.Matrix.{matrix_of}
use Rattle.job_table.specs.inner.Rows.{table_row}
use Rattle.job_table.proofs.rows.row_of.Goals as goal

pub returns : goal.returns
unfolding table_row matrix_of
returns c = c.row_from.ensures
