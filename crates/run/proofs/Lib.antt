pub mod ProvedBy
