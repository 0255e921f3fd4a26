-- S by the layout of the sums, for those who hand sums over; of `sums_of ss` it is the samples' (specs/laws/BySums).
pub use Rattle.scatter.specs.inner.BySums.{SBySums, scatter_by_sums}
